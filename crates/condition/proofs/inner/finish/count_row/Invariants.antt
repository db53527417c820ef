-- `condition::inner::finish::count_row` meets its contract. Assumes nothing.
use Rattle.condition.proofs.Finishing.{Counting}
use Rattle.condition.proofs.inner.finish.count_row.Given as goal

abbrev pub invariant-loop-mark : goal.invariant-loop-mark
invariant-loop-mark l = Counting l.v l.row l.n l.mark-index
