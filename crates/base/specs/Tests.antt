-- Tests over the numbers below a bound.
use Rattle.std.specs.Prelude.{Bool, false, ◌&&◌, ◌||◌, ℕ, zero, suc, leb}

-- m ≤ x ≤ n: a code that is one of "0 to 5"
abbrev pub within : ℕ → ℕ → ℕ → Bool
within m n x = leb m x && leb x n

-- some number below n passes: a row "in conflict with an earlier one"
unfoldable pub some_below : ℕ → (ℕ → Bool) → Bool
some_below zero f = false
some_below (suc n) f = some_below n f || f n
