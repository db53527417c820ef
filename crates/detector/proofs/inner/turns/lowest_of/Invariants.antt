-- `detector::inner::turns::lowest_of` meets its contract. The invariant: what is left of the word is what the list has. Assumes nothing.
use mathlib.Core.Path.{◌≡◌}
use lib.ListN.{get_or}
use Rattle.graph.specs.inner.Tracks.{Lists}
use Rattle.detector.proofs.inner.turns.lowest_of.Given as goal

abbrev pub invariant-loop-q : goal.invariant-loop-q
invariant-loop-q l = Lists l.waits l.waiting × (l.q-iterator.0 ≡ get_or l.waits l.p 0) × (get_or l.waits 64 0 ≡ get_or l.initial.waits 64 0)
