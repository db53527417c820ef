-- Sums over the numbers below a bound. Assumes nothing.
use mathlib.Core.Path.{◌≡◌}
use Prim.Native.Nat.{ℕ, zero, suc, ◌+◌, ◌*◌, ◌≤◌, ◌<◌}
use native.Mathlib.Omega.{arith}
use native.Mathlib.Nat.{suc-mul}
use native.Mathlib.Decide.{ℕ_discrete}

unfoldable pub sum : ℕ → (ℕ → ℕ) → ℕ
sum zero f = 0
sum (suc n) f = sum n f + f n

pub sum-le : (n : ℕ) (f h : ℕ → ℕ) → ((i : ℕ) → i < n → f i ≤ h i) → sum n f ≤ sum n h
unfolding sum
sum-le zero f h p = omega arith
sum-le (suc n) f h p = omega (arith, sum-le n f h (λ i l. p i (omega arith)), p n (omega arith))

-- no term is more, and one is less
pub sum_lt : (n j : ℕ) (f h : ℕ → ℕ) → j < n → f j < h j → ((i : ℕ) → i < n → f i ≤ h i) → sum n f < sum n h
unfolding sum
sum_lt zero j f h l e p = omega arith
sum_lt (suc n) j f h l e p = go (λ m. sum_lt n j f h m e (λ i k. p i (omega arith))) (ℕ_discrete j n)
  where
    go : (j < n → sum n f < sum n h) → Dec (j ≡ n) → sum n f + f n < sum n h + h n
    go ih (yes q) =
        let k : f n < h n = rw q at e in
        omega (arith, sum-le n f h (λ i m. p i (omega arith)))
    go ih (no q) = omega (arith, ih (omega arith), p n (omega arith))

pub sum-most : (n k : ℕ) (f : ℕ → ℕ) → ((i : ℕ) → f i ≤ k) → sum n f ≤ n * k
unfolding sum
sum-most zero k f p = omega arith
sum-most (suc n) k f p = omega (arith, sum-most n k f p, p n, suc-mul n k)
