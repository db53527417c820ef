-- `checker::inner::shape::worst` meets its contract. The invariant: the largest is at most k exactly where each one
-- passed may be. Assumes nothing.
use Rattle.std.proofs.Common.{◌≡◌, ℕ, ◌+◌, ◌<◌, leb, get_or}
use Rattle.base.specs.Says.{ne, le, ◌and◌, bool, every}
use Rattle.checker.proofs.inner.shape.worst.Given as goal

abbrev pub invariant-loop-j : goal.invariant-loop-j
invariant-loop-j l =
    (k : ℕ) → k < 255
    → leb l.w k ≡ every l.j (λ m.
    bool (ne (get_or l.marks (l.from + m) 0) l.never and le (get_or l.marks (l.from + m) 0) k))
