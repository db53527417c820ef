-- Work that goes on as long as something is found: "Take the lowest waiting pair", again and again; Algorithm 1.
use Rattle.std.specs.Prelude.{Option, None, Some, ℕ, zero, suc}

-- `act` at what `find` finds, again and again until it finds nothing, at most `turns` times: "Take the lowest waiting
-- pair" (line 2 of Algorithm 2); line 2 of Algorithm 1
unfoldable pub repeated : {S : Type 0} → (S → Option ℕ) → (S → ℕ → S) → ℕ → S → S
repeated find act zero s = s
repeated find act (suc turns) s = elim (find s) [ None ↦ s | Some n ↦ repeated find act turns (act s n) ]
