-- `sets::inner::bits::joined` meets its contract. Assumes nothing.
use Rattle.sets.specs.Sets.{joined}
use borrow.Author.Rules.{rules}
use Rattle.sets.proofs.inner.bits.joined.Goals as goal

pub returns : goal.returns
unfolding joined
returns c = search rules
