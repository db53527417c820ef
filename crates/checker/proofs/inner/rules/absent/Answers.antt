-- `checker::inner::rules::absent` meets its contract. Assumes nothing.
use Rattle.std.proofs.Common.{arith}
use lib.Count.{trailing_le}
use Rattle.checker.proofs.Absent.{none_of_eight, first_of_eight}
use Rattle.checker.proofs.inner.rules.absent.Goals as goal

pub returns-then-word-eq0 : goal.returns-then-word-eq0
returns-then-word-eq0 c = (omega arith, none_of_eight _ (λ i. omega (arith, c.type_inv.marks i)) _ c.eight-word.ensures c.if-word-eq0.true (omega arith))

pub returns : goal.returns
returns c = (omega (arith, trailing_le 64 c.eight-word.result), first_of_eight _ (λ i. omega (arith, c.type_inv.marks i)) _ c.eight-word.ensures)
