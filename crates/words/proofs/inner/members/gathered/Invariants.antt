-- `words::inner::members::gathered` meets its contract. Assumes nothing.
use Rattle.words.proofs.Words.{Gathering}
use Rattle.words.proofs.inner.members.gathered.Given as goal

abbrev pub invariant-loop-word : goal.invariant-loop-word
invariant-loop-word l = Gathering l.words l.all l.word-index
