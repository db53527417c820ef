-- `chart::inner::rows::some_never` meets its contract. The invariant: it was told of the rows passed. Assumes nothing.
use mathlib.Core.Path.{ap, ◌∙◌}
use Rattle.base.proofs.Tests.{some-none, some_more}
use Rattle.operations.specs.Trials.{never_holds}
use Rattle.chart.proofs.inner.rows.some_never.Goals as goal

pub loop-i-init : goal.loop-i-init
loop-i-init c = some-none _

pub loop-i-preserved : goal.loop-i-preserved
loop-i-preserved c = some_more _ _ c.loop-i.invariant (c.never_holds-some.ensures.is ∙ ap never_holds c.operation_at.ensures)
