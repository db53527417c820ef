-- `marker::inner::marks::cover_all` meets its contract. Assumes nothing.
use Rattle.marker.proofs.Covering.{CoveringAll}
use Rattle.marker.proofs.inner.marks.cover_all.Given as goal

abbrev pub invariant-loop-p : goal.invariant-loop-p
invariant-loop-p l = CoveringAll l.targets l.seen l.initial.marks l.marks l.p l.c
