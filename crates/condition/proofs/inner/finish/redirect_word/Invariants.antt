-- `condition::inner::finish::redirect_word` meets its contract. Assumes nothing.
use Rattle.condition.proofs.Finishing.{Redirecting}
use Rattle.condition.proofs.inner.finish.redirect_word.Given as goal

abbrev pub invariant-loop-q : goal.invariant-loop-q
invariant-loop-q l = Redirecting l.marks l.initial.targets l.p l.word l.targets l.q-iterator.0
