-- `align::inner::follow::follow` meets its contract. The invariant: the walk from here on is the walk from the start,
-- with what is left of 64 rows. Assumes nothing.
use Rattle.std.proofs.Common.{◌-◌}
use Rattle.align.proofs.Moves.{Walk}
use Rattle.chart.specs.inner.Comparisons.{charts_of}
use Rattle.align.proofs.inner.follow.follow.Given as goal

abbrev pub invariant-loop : goal.invariant-loop
invariant-loop l = Walk (charts_of l.charts) l.initial.at l.at l.met (64 - l.counter)
