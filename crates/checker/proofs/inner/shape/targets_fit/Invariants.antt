-- `checker::inner::shape::targets_fit` meets its contract. The invariant: the largest is at most 4,160 exactly where each one passed fits.
-- Assumes nothing.
use Rattle.std.proofs.Common.{◌≡◌, leb, get_or}
use Rattle.base.specs.Says.{bool, every}
use Rattle.checker.specs.Rules.{target_fits}
use Rattle.checker.proofs.inner.shape.targets_fit.Given as goal

abbrev pub invariant-loop-target : goal.invariant-loop-target
invariant-loop-target l = leb l.w 4160 ≡ every l.target-index (λ k. bool (target_fits (get_or l.targets k 0)))
