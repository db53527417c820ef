-- `chart::inner::rows::ends` meets its contract. The invariant: the ends of the rows passed are stored. Assumes nothing.
use Rattle.chart.specs.inner.Index.{Ends}
use Rattle.chart.proofs.inner.rows.ends.Given as goal

abbrev pub invariant-loop-i : goal.invariant-loop-i
invariant-loop-i l = Ends l.rows l.i l.at l.initial.entries l.entries
