-- The loop counts the rows that it passes. Assumes nothing.
use Rattle.report.proofs.Rows.{counted_none, counted_one, counted_no, counted_all}
use native.Mathlib.Omega.{arith}
use Rattle.report.proofs.inner.transitions.first_row.Goals as goal
use Rattle.report.proofs.inner.transitions.first_row.Goals.{then-from_at-place, else-from_at-place}

pub loop-i-init : goal.loop-i-init
loop-i-init c = counted_none _ _

pub loop-i-preserved : goal.loop-i-preserved
loop-i-preserved c =
    elim c.if-from_at-place.branch [
      | then-from_at-place w ↦ counted_one _ _ _ _ _ c.loop-i.invariant (omega arith) (omega arith) w.rows-is
      | else-from_at-place w ↦ counted_no _ _ _ _ _ c.loop-i.invariant (omega arith) (omega arith) w.rows-is
    ]

pub returns : goal.returns
returns c = counted_all _ _ _ _ c.loop-i.invariant (omega arith) c.requires
