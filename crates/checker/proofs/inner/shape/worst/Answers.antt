-- `checker::inner::shape::worst` meets its contract. The invariant: the largest is at most k exactly where each one
-- passed may be. Assumes nothing.
use Rattle.std.proofs.Common.{◌∙◌, leb, ap}
use lib.Dec.{leb-zero}
use Rattle.base.specs.Says.{every}
use Rattle.records.proofs.Marks.{all_next}
use Rattle.checker.proofs.Shapes.{larger}
use Rattle.checker.proofs.inner.shape.worst.Goals as goal

pub loop-j-init : goal.loop-j-init
unfolding every
loop-j-init c = λ k l. leb-zero k

pub loop-j-preserved : goal.loop-j-preserved
loop-j-preserved c = λ k l.
    all_next _ _ (c.loop-j.invariant k l) (c.rated.ensures k l)
    (ap (λ m. leb m k) c.max-w.ensures ∙ larger _ _ k)
