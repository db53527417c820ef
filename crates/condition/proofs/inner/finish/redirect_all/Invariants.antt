-- `condition::inner::finish::redirect_all` meets its contract. Assumes nothing.
use Rattle.condition.proofs.Finishing.{Through}
use Rattle.condition.proofs.inner.finish.redirect_all.Given as goal

abbrev pub invariant-loop-p : goal.invariant-loop-p
invariant-loop-p l = Through l.marks l.initial.targets l.targets l.p
