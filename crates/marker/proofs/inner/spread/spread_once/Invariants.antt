-- `marker::inner::spread::spread_once` meets its contract. Assumes nothing.
use Rattle.marker.specs.inner.Spreads.{Spread}
use Rattle.marker.proofs.inner.spread.spread_once.Given as goal

abbrev pub invariant-loop-q : goal.invariant-loop-q
invariant-loop-q l = Spread l.targets l.initial.marks l.next l.marks
