-- `marker::inner::marks::sweep_word` meets its contract. Assumes nothing.
use mathlib.Core.Path.{◌≡◌}
use lib.ListN.{length}
use Rattle.marker.specs.inner.Seen.{HoldsBeyond}
use Rattle.marker.proofs.Sweeps.{Trying}
use Rattle.marker.proofs.inner.marks.sweep_word.Given as goal

abbrev pub invariant-loop-q : goal.invariant-loop-q
invariant-loop-q g l = Trying l.targets l.initial.rest l.p l.initial.marks l.marks l.n l.q-iterator.0 × HoldsBeyond l.rest l.marks × (length l.rest ≡ length l.initial.rest)
