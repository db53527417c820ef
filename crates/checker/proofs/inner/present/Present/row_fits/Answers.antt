-- `checker::inner::present::Present::row_fits` meets its contract: where it leads, then its mark. Assumes nothing.
use Rattle.std.proofs.Common.{arith}
use Rattle.checker.proofs.Shapes.{fits_at}
use Rattle.checker.proofs.Targets.{row_astray, row-ranked}
use Rattle.checker.specs.inner.Presences.{graph_at}
use Rattle.checker.proofs.inner.present.Present.row_fits.Goals as goal

pub returns-then-not-leads : goal.returns-then-not-leads
returns-then-not-leads c = row_astray _ (graph_at c.args.self.now) _ _ _ c.leads.ensures (c.if-not-leads.true)

pub ranked-requires : goal.ranked-requires
ranked-requires c = (c.args.self.now.pair, fits_at _ _ c.args.self.now.examined.now.fitting (omega arith))

pub returns : goal.returns
returns c = row-ranked _ (graph_at c.args.self.now) _ _ _ c.leads.ensures (c.if-not-leads.false) c.ranked.ensures
