-- The lowest and the highest bits of a word. Assumes nothing.
use mathlib.Core.Path.{◌≡◌, refl, ap, ◌∙◌}
use mathlib.Core.Logic.{◌⊎◌, inl, inr}
use Prim.Native.Nat.{ℕ, zero, suc, ◌+◌, ◌*◌, ◌-◌, ◌/◌, ◌%◌, ◌^◌, ◌≤◌, ◌<◌}
use native.Mathlib.Nat.{pow-suc, div-eq_of_lt, lt_of_lt_of_le, eq-zero-or-pos}
use native.Mathlib.Omega.{arith}
use lib.Pow.{pow_mono, high}
use lib.Count.{count_trailing_zeros, count_leading_zeros, under, leading_top, leading_of_zero}
use Rattle.sets.specs.Sets.{bit}
use Rattle.sets.proofs.Sets.{bit_zero, bit-suc, bit-none}
use Rattle.words.specs.inner.Words.{LowestFrom, HighestBefore}

-- no bit of x from k on
bit_past : (x k i : ℕ) → x < 2 ^ k → k ≤ i → bit x i ≡ 0
bit_past x k i l m = ap (λ (n : ℕ). n % 2) (div-eq_of_lt (lt_of_lt_of_le l (pow_mono m)))

-- ---- the lowest
record Lowest (k x r : ℕ) : Type 0 where
  most : r < k
  here : bit x r ≡ 1
  none : (i : ℕ) → i < r → bit x i ≡ 0

lowest_even : (k x t : ℕ) → x % 2 ≡ 0 → Lowest k (x / 2) t → Lowest (suc k) x (suc t)
lowest_even k x t e L = record { most = omega (arith, L.most); here = bit-suc x t ∙ L.here; none = none }
  where
    none : (i : ℕ) → i < suc t → bit x i ≡ 0
    none zero m = bit_zero x ∙ e
    none (suc i) m = bit-suc x i ∙ L.none i (omega arith)

lowest : (k x : ℕ) → 0 < x → x < 2 ^ k → Lowest k x (count_trailing_zeros k x)
unfolding count_trailing_zeros
lowest zero x p l = absurd (omega arith)
lowest (suc k) x p l = let g = rw pow-suc at l in go (x % 2) refl (λ e. lowest k (x / 2) (omega arith) (omega arith))
  where
    go : (r : ℕ) → x % 2 ≡ r → (x % 2 ≡ 0 → Lowest k (x / 2) (count_trailing_zeros k (x / 2))) → Lowest (suc k) x (under r (count_trailing_zeros k (x / 2)))
    go zero e half = lowest_even k x (count_trailing_zeros k (x / 2)) e (half e)
    go (suc r) e half = record { most = omega arith; here = bit_zero x ∙ omega arith; none = λ i m. absurd (omega arith) }

pub lowest-is : (x : ℕ) → 0 < x → x < 2 ^ 64 → LowestFrom x 0 (count_trailing_zeros 64 x) × (count_trailing_zeros 64 x < 64)
lowest-is x p l =
    let L = lowest 64 x p l in
    (record { least = omega arith; most = omega (arith, L.most); none = λ i m n. L.none i n; here = λ m. L.here }, L.most)

-- ---- the highest
module _ (x : ℕ) (l : x < 2 ^ 64) where
  top_bit : (j : ℕ) → 2 ^ j ≤ x → x < 2 ^ suc j → bit x j ≡ 1
  top_bit j a b =
      let g = rw pow-suc at b in
      let e : x ≡ 1 * 2 ^ j + (x - 2 ^ j) = omega arith in
      ap (λ (n : ℕ). n / 2 ^ j % 2) e ∙ ap (λ (n : ℕ). n % 2) (high 1 j (omega arith))

  pub highest-is : HighestBefore x 64 (64 - count_leading_zeros 64 x) × (0 < x → 0 < 64 - count_leading_zeros 64 x)
  highest-is = go (eq-zero-or-pos x)
    where
      some : (j : ℕ) → count_leading_zeros 64 x + suc j ≡ 64 → 2 ^ j ≤ x → x < 2 ^ suc j → HighestBefore x 64 (64 - count_leading_zeros 64 x) × (0 < x → 0 < 64 - count_leading_zeros 64 x)
      some j a b c =
          let z : 64 - count_leading_zeros 64 x ≡ suc j = omega arith in
          rw z (record { most = omega arith; none = λ i m n. bit_past x (suc j) i c m; here = λ n. let y : suc j - 1 ≡ j = omega arith in ap (bit x) y ∙ top_bit j b c }, λ p. omega arith)

      go : (x ≡ 0) ⊎ (0 < x) → HighestBefore x 64 (64 - count_leading_zeros 64 x) × (0 < x → 0 < 64 - count_leading_zeros 64 x)
      go (inl e) = rw (e, leading_of_zero 64) (record { most = omega arith; none = λ i m n. bit-none i; here = λ n. absurd (omega arith) }, λ p. absurd (omega arith))
      go (inr p) = let t = leading_top 64 x p l in some t.0 t.1 t.2 t.3
