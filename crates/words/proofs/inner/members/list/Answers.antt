-- `words::inner::members::list` meets its contract. Assumes nothing.
use Rattle.words.proofs.Words.{list_is}
use Rattle.words.proofs.inner.members.list.Goals as goal

pub returns : goal.returns
returns c = search list_is
