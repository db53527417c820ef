-- `marker::inner::marks::plain` meets its contract. Assumes nothing.
use Rattle.marker.proofs.Ranking.{Plain}
use Rattle.marker.proofs.inner.marks.plain.Given as goal

abbrev pub invariant-loop-p : goal.invariant-loop-p
invariant-loop-p l = Plain l.initial.marks l.marks l.p
