-- `checker::inner::present::Present::target_fault` meets its contract: a row that is not there, one that fits, one that
-- never holds, one at fault. Assumes nothing.
use Rattle.std.proofs.Common.{sym, ◌∙◌, arith}
use Rattle.chart.proofs.Takable.{not_there}
use Rattle.checker.proofs.Targets.{not_asked, row_fine, row_fails}
use Rattle.checker.specs.inner.Presences.{graph_at}
use Rattle.checker.proofs.inner.present.Present.target_fault.Goals as goal

pub returns-then-n-k : goal.returns-then-n-k
returns-then-n-k c = not_asked _ (graph_at c.args.self.now) _ _ _ (not_there _ _ (omega arith))

pub returns-then-row_fits : goal.returns-then-row_fits
returns-then-row_fits c = row_fine _ (graph_at c.args.self.now) _ _ _ c.row_fits.ensures c.if-row_fits.true

pub returns-then-not-can_be_taken : goal.returns-then-not-can_be_taken
returns-then-not-can_be_taken c =
    not_asked _ (graph_at c.args.self.now) _ _ _ (sym c.can_be_taken.ensures ∙ c.if-not-can_be_taken.true)

pub returns : goal.returns
returns c =
    row_fails _ (graph_at c.args.self.now) _ _ _ c.row_fits.ensures c.if-row_fits.false
    (sym c.can_be_taken.ensures ∙ c.if-not-can_be_taken.false)
