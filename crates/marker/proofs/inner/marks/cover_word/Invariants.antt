-- `marker::inner::marks::cover_word` meets its contract. Assumes nothing.
use Rattle.marker.proofs.Covering.{CoveringWord}
use Rattle.marker.proofs.inner.marks.cover_word.Given as goal

abbrev pub invariant-loop-q : goal.invariant-loop-q
invariant-loop-q l = CoveringWord l.targets l.seen l.p l.initial.marks l.marks l.q-iterator.0 (record { opened = l.initial.opened; covered = l.initial.covered }) (record { opened = l.opened; covered = l.covered })
