-- The loop counts down the rows of the place that it passes. Assumes nothing.
use Rattle.report.proofs.Rows.{Sought}
use Rattle.report.proofs.inner.transitions.never_row.Given as goal

abbrev pub invariant-loop-i : goal.invariant-loop-i
invariant-loop-i l = Sought l.table l.place l.k l.left l.i
