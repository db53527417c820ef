-- `detector::inner::turns::turn` meets its contract. The invariant: the rows before r are done. Assumes nothing.
use Rattle.chart.specs.inner.Comparisons.{charts_of}
use Rattle.graph.specs.Buffers.{buffers}
use Rattle.detector.proofs.Rows.{Turning}
use Rattle.detector.proofs.inner.turns.turn.Given as goal

abbrev pub invariant-loop-r : goal.invariant-loop-r
invariant-loop-r l = Turning (charts_of l.charts) (buffers l.initial.marks l.initial.targets l.initial.sets l.initial.waiting) l.n l.r l.v (buffers l.marks l.targets l.sets l.waiting) l.tracked.waits l.tracked.seen
