-- `checker::inner::present::Present::leads` meets its contract: at the old alarm, kept, or by the step. Assumes
-- nothing.
use Rattle.checker.proofs.Targets.{row_below, leads_resting, leads-kept, leads_stepped}
use Rattle.checker.specs.inner.Presences.{graph_at}
use Rattle.checker.proofs.inner.present.Present.leads.Goals as goal

pub rests_at-requires : goal.rests_at-requires
rests_at-requires c =
    let p = c.args.self.now in
    row_below _ p.examined.now.charts.prepared.new-faultless _ _ p.part c.requires c.new_to-q.ensures

pub returns-then-eq : goal.returns-then-eq
returns-then-eq c =
    leads_resting _ (graph_at c.args.self.now) _ _ _ _ c.old_of.ensures c.eq.ensures c.new_to-q.ensures
    c.if-eq.true c.rests_at.ensures

pub keeps-requires : goal.keeps-requires
keeps-requires c =
    let p = c.args.self.now in
    row_below _ p.examined.now.charts.prepared.new-faultless _ _ p.part c.requires c.new_to-q.ensures

pub returns-then-keeps : goal.returns-then-keeps
returns-then-keeps c =
    leads-kept _ (graph_at c.args.self.now) _ _ _ _ c.old_of.ensures c.eq.ensures c.new_to-q.ensures
    c.if-eq.false c.keeps.ensures c.if-keeps.true

pub returns : goal.returns
returns c =
    leads_stepped _ (graph_at c.args.self.now) _ _ _ _ c.old_of.ensures c.eq.ensures c.new_to-q.ensures
    c.if-eq.false c.keeps.ensures c.if-keeps.false c.joins_step.ensures
