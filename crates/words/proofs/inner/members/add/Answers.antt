-- `words::inner::members::add` meets its contract. Assumes nothing.
use Rattle.words.proofs.Words.{add_is}
use Rattle.words.proofs.inner.members.add.Goals as goal

pub returns : goal.returns
returns c = search add_is
