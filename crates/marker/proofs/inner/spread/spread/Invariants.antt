-- `marker::inner::spread::spread` meets its contract. Assumes nothing.
use Rattle.marker.proofs.Marks.{fours}
use Rattle.marker.proofs.Orders.{Sweeping}
use Rattle.marker.proofs.inner.spread.spread.Given as goal

abbrev pub invariant-loop-places : goal.invariant-loop-places
invariant-loop-places l = Sweeping l.targets l.initial.marks l.marks

abbrev pub decreases-loop-places : goal.decreases-loop-places
decreases-loop-places l = fours l.targets l.marks
