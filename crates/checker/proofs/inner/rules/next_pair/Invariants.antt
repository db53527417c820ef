-- `checker::inner::rules::next_pair` meets its contract. The invariant: all between are absent. Assumes nothing.
use Rattle.std.proofs.Common.{◌≡◌, ℕ, ◌-◌, ◌<◌, ◌≤◌, get_or}
use Rattle.checker.proofs.inner.rules.next_pair.Given as goal

abbrev pub invariant-loop-n : goal.invariant-loop-n
invariant-loop-n l = (l.m < l.n) × (l.n ≤ 4160) × ((i : ℕ) → l.m < i → i < l.n → get_or l.marks i 0 ≡ 0)

abbrev pub decreases-loop-n : goal.decreases-loop-n
decreases-loop-n l = 4160 - l.n
