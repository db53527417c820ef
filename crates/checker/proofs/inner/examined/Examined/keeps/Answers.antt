-- `checker::inner::examined::Examined::keeps` meets its contract: test by test. Assumes nothing.
use Rattle.std.proofs.Common.{refl}
use Rattle.checker.proofs.Targets.{keeps_not, keeps-marked}
use Rattle.checker.proofs.inner.examined.Examined.keeps.Goals as goal

pub returns-then-t-kept : goal.returns-then-t-kept
returns-then-t-kept c = keeps_not _ _ _ c.kept.ensures c.if-t-kept.true

pub returns : goal.returns
returns c = keeps-marked _ _ _ c.kept.ensures c.if-t-kept.false refl
