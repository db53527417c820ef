-- `words::inner::members::remove` meets its contract. Assumes nothing.
use Rattle.words.proofs.Words.{remove_is}
use Rattle.words.proofs.inner.members.remove.Goals as goal

pub returns : goal.returns
returns c = search remove_is
