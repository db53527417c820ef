-- `checker::inner::present::Present::joins_step` meets its contract: by what the step comes to. Assumes nothing.
use Rattle.checker.proofs.Targets.{row-right, row_below, stepped_below, joins_failed, joins_stepped}
use Rattle.checker.specs.inner.Presences.{graph_at}
use Rattle.checker.proofs.inner.present.Present.joins_step.Goals as goal

pub step-requires-clause-j_bound : goal.step-requires-clause-j_bound
step-requires-clause-j_bound c =
    let p = c.args.self.now in
    let o = row-right _ p.examined.now.charts.prepared.new-faultless _ _ p.part c.requires in (c.requires, o.0, o.1)

pub joins-requires : goal.joins-requires
joins-requires c =
    let p = c.args.self.now in
    let charts = p.examined.now.charts.prepared in (
      row_below _ charts.new-faultless _ _ p.part c.requires c.new_to.ensures,
      stepped_below _ (graph_at p) _ _ _ 0 c.old_of.ensures c.step.ensures _ charts.old-faultless p.pair c.in-Some.is,
    )

pub returns-in-Some : goal.returns-in-Some
returns-in-Some c =
    joins_stepped _ (graph_at c.args.self.now) _ _ _ _ c.old_of.ensures c.step.ensures _ c.in-Some.is c.new_to.ensures
    c.joins.ensures

pub returns-in-None : goal.returns-in-None
returns-in-None c =
    joins_failed _ (graph_at c.args.self.now) _ _ _ _ c.old_of.ensures c.step.ensures c.in-None.is
