-- `chart::inner::faults::in_conflict` meets its contract. The invariant: no row from `j` on is in conflict with row i. Assumes nothing.
use Rattle.base.proofs.Tests.{NoneSince}
use Rattle.chart.specs.Faults.{clash}
use Rattle.chart.proofs.inner.faults.in_conflict.Given as goal

abbrev pub invariant-loop-j : goal.invariant-loop-j
invariant-loop-j l = NoneSince (clash l.rows l.i) l.i l.j
