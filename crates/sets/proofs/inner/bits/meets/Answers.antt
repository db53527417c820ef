-- `sets::inner::bits::meets` meets its contract. Assumes nothing.
use Rattle.sets.specs.Sets.{meets}
use borrow.Author.Rules.{rules}
use Rattle.sets.proofs.inner.bits.meets.Goals as goal

pub returns : goal.returns
unfolding meets
returns c = search rules
