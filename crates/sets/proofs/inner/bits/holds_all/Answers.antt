-- `sets::inner::bits::holds_all` meets its contract. Assumes nothing.
use Rattle.sets.specs.Sets.{holds_all}
use borrow.Author.Rules.{rules}
use Rattle.sets.proofs.inner.bits.holds_all.Goals as goal

pub returns : goal.returns
unfolding holds_all
returns c = search rules
