-- `align::inner::reads::if_variable` meets its contract: operand by operand. Assumes nothing.
use lib.Dec.{leb}
use mathlib.Core.Path.{◌≡◌, sym, ◌∙◌}
use Rattle.sets.specs.Sets.{joined, set_of}
use lib.Bits.{or_zero_r}
use borrow.Author.Tests.{leb-true}
use mathlib.Core.Bool.{true}
use native.Mathlib.Omega.{arith}
use Rattle.align.proofs.inner.reads.if_variable.Goals as goal

pub alone-requires : goal.alone-requires
alone-requires c = let h : leb c.args.x 63 ≡ true = rw c.in-Variable.is at c.requires in omega (arith, leb-true c.args.x 63 h)

pub returns-in-Variable : goal.returns-in-Variable
unfolding set_of joined
returns-in-Variable c = rw c.in-Variable.is (c.alone.ensures ∙ sym (or_zero_r _))

pub returns-in-Constant : goal.returns-in-Constant
unfolding set_of
returns-in-Constant c = rw c.in-Constant.is

pub returns-in-Unused : goal.returns-in-Unused
unfolding set_of
returns-in-Unused c = rw c.in-Unused.is
