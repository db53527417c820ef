-- The loop counts down the rows of the place that it passes. Assumes nothing.
use mathlib.Core.Path.{sym, ap, ◌∙◌}
use Rattle.operations.specs.Trials.{never_holds}
use Rattle.report.proofs.Rows.{sought_first, sought_one, sought_no, sought_found, sought_end}
use native.Mathlib.Omega.{arith}
use Rattle.report.proofs.inner.transitions.never_row.Goals as goal
use Rattle.report.proofs.inner.transitions.never_row.Goals.{then-from_at-place+else-left-eq0, else-from_at-place}

pub loop-i-init : goal.loop-i-init
loop-i-init c = sought_first _ _ _

pub returns-then-left-eq0 : goal.returns-then-left-eq0
returns-then-left-eq0 c =
    sought_found _ _ _ _ _ _ c.loop-i.invariant (omega arith) (sym c.from_at.ensures ∙ c.if-from_at-place.true) c.if-left-eq0.true
    (c.never_holds.ensures.is ∙ ap never_holds c.operation_at.ensures)

pub loop-i-preserved : goal.loop-i-preserved
loop-i-preserved c =
    elim c.if-from_at-place.branch [
      | then-from_at-place+else-left-eq0 w ↦ sought_one _ _ _ _ _ _ c.loop-i.invariant (omega arith) (sym c.from_at.ensures ∙ w.if-from_at-place.true) w.if-left-eq0.false w.left-is
      | else-from_at-place w ↦ sought_no _ _ _ _ _ _ c.loop-i.invariant (omega arith) (λ e. w.if-from_at-place.false (c.from_at.ensures ∙ e)) w.left-is
    ]

pub returns : goal.returns
returns c = sought_end _ _ _ _ _ c.loop-i.invariant (omega arith)
