-- Eight marks as one number: its low zeros are absent pairs. Assumes nothing.
use Rattle.std.proofs.Common.{◌≡◌, ℕ, zero, suc, ◌+◌, ◌*◌, ◌/◌, ◌%◌, ◌^◌, ◌<◌, ◌≤◌, List, get_or, sym, refl, ap, ◌∙◌, mod-eq_of_lt, arith, pow_pos}
use Rattle.std.specs.Int.{w64, from_le_bytes}
use mathlib.Core.Logic.{dite}
use native.Mathlib.Decide.{ℕ_discrete}
use lib.Count.{count_trailing_zeros, under, trailing_le}
use lib.Pow.{mod-pow-add, mod-mod-pow}
use Rattle.checker.specs.inner.Packed.{packed}

-- a number is a multiple of the power of 2 that its trailing zeros tell
trailing_mod : (k x : ℕ) → x % 2 ^ count_trailing_zeros k x ≡ 0
unfolding count_trailing_zeros
trailing_mod zero x = omega arith
trailing_mod (suc k) x = go (x % 2) refl (count_trailing_zeros k (x / 2)) (trailing_mod k (x / 2))
  where
    go : (r : ℕ) → x % 2 ≡ r → (t : ℕ) → x / 2 % 2 ^ t ≡ 0 → x % 2 ^ under r t ≡ 0
    go zero e t h =
        let z : suc t ≡ t + 1 = omega arith in
        ap (λ (n : ℕ). x % 2 ^ n) z ∙ mod-pow-add x t 1 ∙ omega (arith, h, e)
    go (suc r) e t h = omega arith

trailing_bytes : (x : ℕ) → x % 2 ^ (8 * (count_trailing_zeros 64 x / 8)) ≡ 0
trailing_bytes x =
    let t = count_trailing_zeros 64 x in
    let z : t % 8 + 8 * (t / 8) ≡ t = omega arith in
    sym (mod-mod-pow x (t % 8) (8 * (t / 8))) ∙ ap (λ (n : ℕ). x % 2 ^ n % 2 ^ (8 * (t / 8))) z
    ∙ ap (λ (n : ℕ). n % 2 ^ (8 * (t / 8))) (trailing_mod 64 x) ∙ mod-eq_of_lt (pow_pos (8 * (t / 8)))

-- j low bytes that are 0 are j marks that are
module _ (m : List ℕ) (byte : (i : ℕ) → get_or m i 0 < 256) where
  low-bytes : (j k n : ℕ) → j ≤ k → packed m n k % 2 ^ (8 * j) ≡ 0 → (i : ℕ) → n ≤ i → i < n + j → get_or m i 0 ≡ 0
  unfolding packed
  low-bytes zero k n l h i a b = absurd (omega arith)
  low-bytes (suc j) zero n l h i a b = absurd (omega arith)
  low-bytes (suc j) (suc k) n l h i a b =
      let z : 8 * suc j ≡ 8 * j + 8 = omega arith in
      let w = get_or m n 0 + 256 * packed m (n + 1) k in
      let e : (w / 256 % 2 ^ (8 * j)) * 256 + w % 256 ≡ 0 = sym (mod-pow-add w (8 * j) 8) ∙ ap (λ (x : ℕ). w % 2 ^ x) (sym z) ∙ h in
      let q : w / 256 ≡ packed m (n + 1) k = omega (arith, byte n) in
      dite (ℕ_discrete i n) (λ y. rw y (omega (arith, e, byte n)))
      (λ y. low-bytes j k (n + 1) (omega arith) (rw (sym q) (omega (arith, e))) i (omega arith) (omega arith))

  -- what the loop over groups passes over
  pub none_of_eight : (n : ℕ) {w r : ℕ} → w ≡ packed m n 8 → w ≡ 0 → r ≤ 8 → (i : ℕ) → n ≤ i → i < n + r → get_or m i 0 ≡ 0
  none_of_eight n e z l i a b = low-bytes 8 8 n (omega arith) (rw (sym e ∙ z) (mod-eq_of_lt (pow_pos 64))) i a (omega arith)

  pub first_of_eight : (n : ℕ) {w : ℕ} → w ≡ packed m n 8 → (i : ℕ) → n ≤ i → i < n + count_trailing_zeros 64 w / 8 → get_or m i 0 ≡ 0
  first_of_eight n {w} e i a b =
      low-bytes (count_trailing_zeros 64 w / 8) 8 n (omega (arith, trailing_le 64 w)) (rw (sym e) (trailing_bytes w)) i a b

-- eight bytes that stand from n on, as the library joins them
module _ (m bytes : List ℕ) (n : ℕ) (same : (i : ℕ) → i < 8 → get_or bytes i 0 ≡ get_or m (n + i) 0) where
  byte : (i j : ℕ) → i < 8 → j ≡ n + i → get_or m j 0 ≡ get_or bytes i 0
  byte i j l e = ap (λ (k : ℕ). get_or m k 0) e ∙ sym (same i l)

  pub eight_is : from_le_bytes w64 bytes ≡ packed m n 8
  unfolding packed
  eight_is =
      sym (rw (
        byte 0 n (omega arith) (omega arith),
        byte 1 (n + 1) (omega arith) (omega arith),
        byte 2 (n + 1 + 1) (omega arith) (omega arith),
        byte 3 (n + 1 + 1 + 1) (omega arith) (omega arith),
        byte 4 (n + 1 + 1 + 1 + 1) (omega arith) (omega arith),
        byte 5 (n + 1 + 1 + 1 + 1 + 1) (omega arith) (omega arith),
        byte 6 (n + 1 + 1 + 1 + 1 + 1 + 1) (omega arith) (omega arith),
        byte 7 (n + 1 + 1 + 1 + 1 + 1 + 1 + 1) (omega arith) (omega arith),
      )
      (omega arith))
