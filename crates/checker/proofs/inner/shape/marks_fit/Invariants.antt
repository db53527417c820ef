-- `checker::inner::shape::marks_fit` meets its contract. The invariant: each mark at a place passed fits. Assumes nothing.
use Rattle.std.proofs.Common.{◌≡◌, ◌*◌, true, get_or}
use Rattle.base.specs.Says.{bool, every}
use Rattle.checker.specs.Rules.{mark_fits}
use Rattle.checker.proofs.inner.shape.marks_fit.Given as goal

abbrev pub invariant-loop-p : goal.invariant-loop-p
invariant-loop-p l = every (64 * l.p) (λ n. bool (mark_fits l.heads n (get_or l.marks n 0))) ≡ true
