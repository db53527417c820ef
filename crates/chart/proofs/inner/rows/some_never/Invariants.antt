-- `chart::inner::rows::some_never` meets its contract. The invariant: it was told of the rows passed. Assumes nothing.
use mathlib.Core.Path.{◌≡◌}
use Rattle.base.specs.Tests.{some_below}
use Rattle.operations.specs.Trials.{never_holds}
use Rattle.chart.specs.Charts.{operation}
use Rattle.chart.proofs.inner.rows.some_never.Given as goal

abbrev pub invariant-loop-i : goal.invariant-loop-i
invariant-loop-i l = l.some ≡ some_below l.i (λ k. never_holds (operation l.rows k))
