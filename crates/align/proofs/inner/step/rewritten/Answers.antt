-- `align::inner::step::rewritten` meets its contract: by the test. Assumes nothing.
use Rattle.align.proofs.Moves.{rewritten-with, rewritten-without}
use Rattle.operations.proofs.Codes.{fit-a}
use native.Mathlib.Omega.{arith}
use Rattle.align.proofs.inner.step.rewritten.Goals as goal

pub with-requires : goal.with-requires
with-requires c = omega (arith, fit-a _ c.requires.1)

pub returns-then-meets_right : goal.returns-then-meets_right
returns-then-meets_right c = rewritten-with _ _ c.meets_right.ensures c.if-meets_right.true c.with.ensures

pub without-requires : goal.without-requires
without-requires c = omega (arith, fit-a _ c.requires.1)

pub returns : goal.returns
returns c = rewritten-without _ _ c.meets_right.ensures c.if-meets_right.false c.without.ensures
