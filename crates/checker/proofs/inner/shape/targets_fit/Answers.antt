-- `checker::inner::shape::targets_fit` meets its contract. The invariant: the largest is at most 4,160 exactly where
-- each one passed fits. Assumes nothing.
use Rattle.std.proofs.Common.{refl, ◌∙◌, leb, ap}
use Rattle.base.specs.Says.{every}
use Rattle.checker.specs.Rules.{targets_fit}
use Rattle.records.proofs.Marks.{all_next, all_taken}
use Rattle.checker.proofs.Shapes.{larger}
use Rattle.checker.proofs.inner.shape.targets_fit.Goals as goal

pub loop-target-init : goal.loop-target-init
unfolding every
loop-target-init c = refl

pub loop-target-preserved : goal.loop-target-preserved
loop-target-preserved c =
    all_next _ _ c.loop-target.invariant c.wrapped.ensures (ap (λ m. leb m 4160) c.max-w.ensures ∙ larger _ _ 4160)

pub returns : goal.returns
unfolding targets_fit
returns c = all_taken _ _ _ c.loop-target.auto.target-index-end c.loop-target-test.false c.loop-target.invariant
