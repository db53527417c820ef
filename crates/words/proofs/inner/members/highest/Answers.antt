-- `words::inner::members::highest` meets its contract. Assumes nothing.
use Rattle.words.proofs.Bits.{highest-is}
use Rattle.words.proofs.inner.members.highest.Goals as goal

pub returns : goal.returns
returns c = search highest-is
