-- A test of each of several marks, by a loop over them. Assumes nothing.
use mathlib.Core.Path.{◌≡◌, ◌∙◌}
use mathlib.Core.Bool.{Bool, ◌&&◌}
use Prim.Native.Nat.{ℕ, ◌+◌, ◌≤◌}
use native.Mathlib.Decide.{ℕ_discrete}
use native.Mathlib.Numerals.{add-one}
use native.Mathlib.Omega.{arith}
use borrow.Author.Tests.{ne_eqb}
use lib.Bits.{bit_or, or_zero_l, or_add_and, and_le_r}
use lib.Dec.{eqb}
use Rattle.base.specs.Says.{every}

-- a loop over numbers: what it has come to is the test of each
module _ (f : ℕ → Bool) where
  pub all_next : (i : ℕ) {a b c : Bool} → a ≡ every i f → b ≡ f i → c ≡ a && b → c ≡ every (i + 1) f
  unfolding every
  all_next i e h g = g ∙ rw (e, h, add-one)

  pub all_taken : (n i : ℕ) {a : Bool} → i ≤ n → n ≤ i → a ≡ every i f → a ≡ every n f
  all_taken n i l u e = let q : i ≡ n = omega arith in rw q at e

-- two joined are 0 exactly where both are
pub joined_0 : (a b : ℕ) → eqb (bit_or a b) 0 ≡ eqb a 0 && eqb b 0
joined_0 a b = go (ℕ_discrete a 0)
  where
    go : Dec (a ≡ 0) → eqb (bit_or a b) 0 ≡ eqb a 0 && eqb b 0
    go (yes e) = rw (e, or_zero_l b)
    go (no n) = rw (ne_eqb a 0 n, ne_eqb (bit_or a b) 0 (λ e. n (omega (arith, or_add_and a b, and_le_r a b))))
