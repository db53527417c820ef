-- `condition::inner::finish::count_row` meets its contract. Assumes nothing.
use native.Mathlib.Omega.{arith}
use Rattle.condition.proofs.Finishing.{count-one, count-all}
use Rattle.condition.proofs.inner.finish.count_row.Goals as goal

pub loop-mark-preserved : goal.loop-mark-preserved
loop-mark-preserved c = count-one _ _ c.loop-mark.invariant c.loop-mark-test.true c.from-n.ensures

pub returns : goal.returns
returns c = count-all _ _ c.loop-mark.invariant (omega arith)
