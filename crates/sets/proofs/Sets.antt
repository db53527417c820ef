-- Membership in sets, bit by bit: what each set of Sets.antt has. Assumes nothing.
use mathlib.Core.Path.{◌≡◌, refl, sym, ap, ◌∙◌}
use mathlib.Core.Bool.{true, false}
use mathlib.Core.List.{List, [], ◌∷◌}
use mathlib.Core.Logic.{◌⊎◌, inl, inr, dite}
use Prim.Native.Nat.{ℕ, zero, suc, ◌-◌, ◌/◌, ◌%◌, ◌^◌, ◌<◌, min, max}
use native.Mathlib.Nat.{pow-suc, zero-div, lt_of_le_of_lt}
use native.Mathlib.Numerals.{one-add}
use native.Mathlib.Decide.{ℕ_discrete}
use native.Mathlib.Omega.{arith}
use borrow.Author.Tests.{eqb-true, eqb-false, eq-eqb, not-true, not-false}
use lib.Dec.{T, eqb, eqb→eq}
use lib.Pow.{shr-shr, pow-lt}
use lib.Arith.{digits_mod}
use lib.Bits.{bit_and, bit_or, or_step, and_step, or_shr, and_shr, or_lt, and_le_l}
use Rattle.base.proofs.Lists.{has as among}
use Rattle.base.proofs.Tests.{T_or}
use Rattle.sets.specs.Sets.{bit, alone, joined, with, without, meets, holds_all, set_of}

-- i is in the set s
abbrev pub In : ℕ → ℕ → Type 0
In i s = bit s i ≡ 1

-- the lowest bit, and the bits above it
pub bit_zero : (s : ℕ) → bit s 0 ≡ s % 2
bit_zero s = omega arith

pub bit-suc : (s i : ℕ) → bit s (suc i) ≡ bit (s / 2) i
bit-suc s i = ap (λ (n : ℕ). s / 2 ^ n % 2) (sym (one-add i)) ∙ ap (λ (n : ℕ). n % 2) (sym (shr-shr s 1 i))

pub bit-none : (i : ℕ) → bit 0 i ≡ 0
bit-none i = ap (λ (n : ℕ). n % 2) (zero-div (2 ^ i))

pub bit_or_lem : (a b i : ℕ) → bit (bit_or a b) i ≡ max (bit a i) (bit b i)
bit_or_lem a b i = rw (or_shr, or_step) (digits_mod _ (omega arith))

pub bit_and_lem : (a b i : ℕ) → bit (bit_and a b) i ≡ min (bit a i) (bit b i)
bit_and_lem a b i = rw (and_shr, and_step) (digits_mod _ (omega arith))

pow_half : (v : ℕ) → 2 ^ suc v / 2 ≡ 2 ^ v
pow_half v = rw pow-suc (omega arith)

-- the bits of 2 ^ v
pub bit-pow : (v : ℕ) → bit (2 ^ v) v ≡ 1
bit-pow zero = refl
bit-pow (suc v) = rw (bit-suc, pow_half) (bit-pow v)

pub bit-pow_other : (v i : ℕ) → (i ≡ v → ⊥) → bit (2 ^ v) i ≡ 0
bit-pow_other zero zero n = absurd (n refl)
bit-pow_other zero (suc i) n = bit-suc 1 i ∙ bit-none i
bit-pow_other (suc v) zero n = bit_zero (2 ^ suc v) ∙ rw pow-suc (omega arith)
bit-pow_other (suc v) (suc i) n = rw (bit-suc, pow_half) (bit-pow_other v i (λ e. n (ap suc e)))

-- the bits of the complement in w bits
pub bit_not : (w i x : ℕ) → i < w → x < 2 ^ w → bit (2 ^ w - 1 - x) i ≡ 1 - bit x i
bit_not zero i x l h = absurd (omega arith)
bit_not (suc w) zero x l h = let g = rw pow-suc at h in rw pow-suc (omega arith)
bit_not (suc w) (suc i) x l h =
    let g = rw pow-suc at h in
    let half : (2 ^ suc w - 1 - x) / 2 ≡ 2 ^ w - 1 - x / 2 = rw pow-suc (omega arith) in
    bit-suc (2 ^ suc w - 1 - x) i ∙ ap (λ (n : ℕ). bit n i) half ∙ bit_not w i (x / 2) (omega arith) (omega arith) ∙ ap (λ (n : ℕ). 1 - n) (sym (bit-suc x i))

-- ---- membership
module _ (i s t : ℕ) where
  pub joined-left : In i s → In i (joined s t)
  unfolding joined
  joined-left h = rw bit_or_lem (omega arith)

  pub joined-right : In i t → In i (joined s t)
  unfolding joined
  joined-right h = rw bit_or_lem (omega arith)

  pub joined_in : In i (joined s t) → In i s ⊎ In i t
  unfolding joined
  joined_in h = dite (ℕ_discrete (bit s i) 1) inl (λ n. inr (let e = bit_or_lem s t i in omega arith))

pub alone-here : (v : ℕ) → In v (alone v)
unfolding alone
alone-here v = bit-pow v

pub alone_only : (i v : ℕ) → In i (alone v) → i ≡ v
unfolding alone
alone_only i v h = dite (ℕ_discrete i v) (λ e. e) (λ n. let o = bit-pow_other v i n in absurd (omega arith))

module _ (i s v : ℕ) where
  pub with-here : In v (with s v)
  unfolding with
  with-here = joined-right v s (alone v) (alone-here v)

  pub with-old : In i s → In i (with s v)
  unfolding with
  with-old h = joined-left i s (alone v) h

  pub with_only : In i (with s v) → (i ≡ v) ⊎ In i s
  unfolding with
  with_only h = elim (joined_in i s (alone v) h) [ inl p ↦ inr p | inr p ↦ inl (alone_only i v p) ]

module _ (i s v : ℕ) (l : i < 64) (k : v < 64) where
  without-bit : bit (without s v) i ≡ min (bit s i) (1 - bit (alone v) i)
  unfolding without alone
  without-bit = rw (bit_and_lem, bit_not 64 i (2 ^ v) l (pow-lt k))

  pub without_in : In i (without s v) → (i ≡ v → ⊥) × In i s
  without_in h =
      let e = without-bit in
      ((λ q. let o : bit (alone v) i ≡ 1 = rw q (alone-here v) in omega arith), omega arith)

  pub without-kept : (i ≡ v → ⊥) → In i s → In i (without s v)
  unfolding alone
  without-kept n h = let e = without-bit in let o = bit-pow_other v i n in omega arith

-- a number of w bits that is not 0 has a bit
pub some-bit : (w x : ℕ) → x < 2 ^ w → (x ≡ 0 → ⊥) → (i : ℕ) × (i < w) × In i x
some-bit zero x h n = absurd (n (omega arith))
some-bit (suc w) x h n =
    dite (ℕ_discrete (x % 2) 1) (λ e. (0, omega arith, bit_zero x ∙ e))
    (λ o. let g = rw pow-suc at h in let r = some-bit w (x / 2) (omega arith) (λ z. n (omega arith)) in
    (suc r.0, omega arith, bit-suc x r.0 ∙ r.2))

-- they meet exactly where some i below 64 is in both
pub meet_some : (s t : ℕ) → s < 2 ^ 64 → meets s t ≡ true → (i : ℕ) × (i < 64) × (In i s) × (In i t)
unfolding meets
meet_some s t h m =
    let r = some-bit 64 (bit_and s t) (lt_of_le_of_lt (and_le_l s t) h) (eqb-false (bit_and s t) 0 (not-true _ m)) in
    let e = bit_and_lem s t r.0 in
    (r.0, r.1, omega (arith, r.2), omega (arith, r.2))

pub meet_none : (s t i : ℕ) → meets s t ≡ false → In i s → In i t → ⊥
unfolding meets
meet_none s t i m p q =
    let e = bit_and_lem s t i in
    let z : bit (bit_and s t) i ≡ 0 = rw (eqb-true (bit_and s t) 0 (not-false _ m)) (bit-none i) in
    omega arith

-- two sets are equal where they have the same members
pub same_set : (w a b : ℕ) → a < 2 ^ w → b < 2 ^ w → ((i : ℕ) → i < w → bit a i ≡ bit b i) → a ≡ b
same_set zero a b ha hb f = omega arith
same_set (suc w) a b ha hb f =
    let ga = rw pow-suc at ha in let gb = rw pow-suc at hb in
    let r = same_set w (a / 2) (b / 2) (omega arith) (omega arith) (λ i l. sym (bit-suc a i) ∙ f (suc i) (omega arith) ∙ bit-suc b i) in
    let z = sym (bit_zero a) ∙ f 0 (omega arith) ∙ bit_zero b in
    omega arith

-- one set holds another exactly where each member of the other is one of it
pub holds_in : (s t i : ℕ) → holds_all s t ≡ true → In i t → In i s
unfolding holds_all joined
holds_in s t i h p = rw (sym (eqb-true (bit_or s t) s h)) (joined-right i s t p)

pub holds_all_lem : (s t : ℕ) → s < 2 ^ 64 → t < 2 ^ 64 → ((i : ℕ) → i < 64 → In i t → In i s) → holds_all s t ≡ true
unfolding holds_all
holds_all_lem s t hs ht f =
    eq-eqb (bit_or s t) s (same_set 64 (bit_or s t) s (or_lt 64 s t hs ht) hs
    (λ i l. let e = bit_or_lem s t i in dite (ℕ_discrete (bit t i) 1) (λ p. let q = f i l p in omega arith) (λ n. omega arith)))

-- ---- the set of a list of variables has those of the list
pub set_of_in : (l : List ℕ) (i : ℕ) → T (among l i) → In i (set_of l)
unfolding set_of
set_of_in [] i t = absurd t
set_of_in (v ∷ l) i t = elim (T_or (eqb i v) (among l i) t) [ inl e ↦ joined-left i (alone v) (set_of l) (rw (eqb→eq i v e) (alone-here v)) | inr k ↦ joined-right i (alone v) (set_of l) (set_of_in l i k) ]

-- ---- sets of 64 variables
pub alone-small : (v : ℕ) → v < 64 → alone v < 2 ^ 64
unfolding alone
alone-small v l = pow-lt l

pub join-small : (s v : ℕ) → s < 2 ^ 64 → v < 2 ^ 64 → joined s v < 2 ^ 64
unfolding joined
join-small s v a b = or_lt 64 s v a b

pub with-small : (s v : ℕ) → s < 2 ^ 64 → v < 64 → with s v < 2 ^ 64
unfolding with
with-small s v b l = join-small s (alone v) b (alone-small v l)

pub without-small : (s v : ℕ) → s < 2 ^ 64 → without s v < 2 ^ 64
unfolding without
without-small s v b = lt_of_le_of_lt (and_le_l s (2 ^ 64 - 1 - alone v)) b
