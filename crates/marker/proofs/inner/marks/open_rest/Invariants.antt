-- `marker::inner::marks::open_rest` meets its contract. Assumes nothing.
use mathlib.Core.Path.{◌≡◌}
use lib.ListN.{length}
use Rattle.marker.specs.inner.Seen.{HoldsBeyond}
use Rattle.marker.proofs.Marks.{fours}
use Rattle.marker.proofs.Orders.{Sweeping}
use Rattle.marker.proofs.inner.marks.open_rest.Given as goal

abbrev pub invariant-loop-marks : goal.invariant-loop-marks
invariant-loop-marks l = Sweeping l.targets l.initial.marks l.marks × HoldsBeyond l.rest l.marks × (length l.rest ≡ length l.initial.rest)

abbrev pub decreases-loop-marks : goal.decreases-loop-marks
decreases-loop-marks l = fours l.targets l.marks
