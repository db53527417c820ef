-- `detector::inner::turns::lowest` meets its contract. The invariant: whoever waits is in the list, whose last word is what is left. Assumes nothing.
use mathlib.Core.Path.{◌≡◌}
use lib.ListN.{get_or}
use Rattle.graph.specs.inner.Tracks.{Lists}
use Rattle.detector.proofs.inner.turns.lowest.Given as goal

abbrev pub invariant-loop-p : goal.invariant-loop-p
invariant-loop-p l = Lists l.waits l.waiting × (l.p-iterator.0 ≡ get_or l.waits 64 0)
