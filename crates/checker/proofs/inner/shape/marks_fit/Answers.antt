-- `checker::inner::shape::marks_fit` meets its contract. The invariant: each mark at a place passed fits. Assumes
-- nothing.
use Rattle.std.proofs.Common.{◌*◌, refl, arith}
use Rattle.base.specs.Says.{every}
use Rattle.base.proofs.Says.{every_done}
use Rattle.checker.specs.Rules.{marks_fit}
use Rattle.checker.proofs.Shapes.{part_more, part_fails}
use Rattle.checker.proofs.inner.shape.marks_fit.Goals as goal

pub loop-p-init : goal.loop-p-init
unfolding every
loop-p-init c = refl

pub returns-then-not-place_fits : goal.returns-then-not-place_fits
unfolding marks_fit
returns-then-not-place_fits c =
    part_fails _ 4160 c.loop-p.p (omega arith) c.loop-p.invariant c.place_fits.ensures c.if-not-place_fits.true

pub loop-p-preserved : goal.loop-p-preserved
loop-p-preserved c = part_more _ _ c.loop-p.invariant c.place_fits.ensures (c.if-not-place_fits.false)

pub returns : goal.returns
unfolding marks_fit
returns c = every_done _ 4160 (64 * c.loop-p.p) (omega arith) (omega arith) c.loop-p.invariant
