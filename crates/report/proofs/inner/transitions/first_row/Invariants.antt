-- The loop counts the rows that it passes. Assumes nothing.
use Rattle.report.proofs.Rows.{Counted}
use Rattle.report.proofs.inner.transitions.first_row.Given as goal

abbrev pub invariant-loop-i : goal.invariant-loop-i
invariant-loop-i l = Counted l.table l.place l.rows l.i
