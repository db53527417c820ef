-- `detector::inner::explore::explore` meets its contract. Assumes nothing.
use Rattle.chart.specs.inner.Comparisons.{charts_of}
use Rattle.graph.specs.Buffers.{buffers}
use Rattle.detector.proofs.Measure.{weight}
use Rattle.detector.proofs.Exploring.{Building}
use Rattle.detector.proofs.inner.explore.explore.Given as goal

abbrev pub invariant-loop-n : goal.invariant-loop-n
invariant-loop-n l = Building (charts_of l.charts) (buffers l.marks l.targets l.sets l.waiting) l.tracked.waits l.tracked.seen

abbrev pub decreases-loop-n : goal.decreases-loop-n
decreases-loop-n l = weight (buffers l.marks l.targets l.sets l.waiting)
