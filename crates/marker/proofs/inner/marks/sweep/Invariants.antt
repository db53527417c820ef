-- `marker::inner::marks::sweep` meets its contract. Assumes nothing.
use mathlib.Core.Path.{◌≡◌}
use lib.ListN.{length}
use Rattle.marker.specs.inner.Seen.{HoldsBeyond}
use Rattle.marker.proofs.Sweeps.{SweptTo}
use Rattle.marker.proofs.inner.marks.sweep.Given as goal

abbrev pub invariant-loop-k : goal.invariant-loop-k
invariant-loop-k g l = SweptTo l.targets g.row.DOWN l.words l.initial.marks l.k l.n l.marks × HoldsBeyond l.rest l.marks × (length l.rest ≡ length l.initial.rest)
