-- Passes over the bits of a word, in which each bit met is taken out of what is left of it. Assumes nothing.
use mathlib.Core.Path.{◌≡◌, refl, sym, ap, ◌∙◌}
use mathlib.Core.Logic.{dite}
use mathlib.Core.List.{List}
use Prim.Native.Nat.{ℕ, ◌+◌, ◌*◌, ◌%◌, ◌≤◌, ◌<◌}
use native.Mathlib.Decide.{ℕ_discrete, dec_lt}
use native.Mathlib.Omega.{arith}
use lib.Bits.{and_le_l}
use lib.ListN.{get_or}
use Rattle.base.proofs.Sums.{sum, sum_lt, sum-most}
use Rattle.sets.specs.Sets.{bit, without}
use Rattle.sets.proofs.Sets.{bit-none, without_in, without-kept}
use Rattle.words.specs.inner.Words.{Member, LowestFrom}
use Rattle.words.proofs.Words.{not_at}

-- ---- one bit taken out
module _ (x q : ℕ) (l : q < 64) where
  gone-here : bit (without x q) q ≡ 0
  gone-here = dite (ℕ_discrete (bit (without x q) q) 1) (λ e. absurd ((without_in q x q l l e).0 refl)) (λ e. omega arith)

  pub same_else : (i : ℕ) → i < 64 → (i ≡ q → ⊥) → bit (without x q) i ≡ bit x i
  same_else i m f =
      dite (ℕ_discrete (bit x i) 1) (λ e. without-kept i x q m l f e ∙ sym e)
      (λ e. dite (ℕ_discrete (bit (without x q) i) 1) (λ h. absurd (e (without_in i x q m l h).1)) (λ h. omega arith))

  rest-most : without x q ≤ x
  unfolding without
  rest-most = and_le_l x _

  -- what is left is less
  pub rest_less : bit x q ≡ 1 → without x q < x
  rest_less e = dite (ℕ_discrete (without x q) x) (λ z. absurd (omega (arith, e, ap (λ (y : ℕ). bit y q) (sym z) ∙ gone-here))) (λ z. omega (arith, rest-most))

-- ---- how many bits are left
pub ones : ℕ → ℕ
ones x = sum 64 (bit x)

module _ (x : ℕ) where
  bit-most : (i : ℕ) → bit x i ≤ 1
  bit-most i = omega arith

  pub ones_most : ones x ≤ 64
  unfolding ones
  ones_most = omega (arith, sum-most 64 1 (bit x) bit-most)

  pub ones_less : (q : ℕ) → q < 64 → bit x q ≡ 1 → ones (without x q) < ones x
  unfolding ones
  ones_less q l e =
      sum_lt 64 q (bit (without x q)) (bit x) l (omega (arith, gone-here x q l, e))
      (λ i m. dite (ℕ_discrete i q) (λ z. rw z (omega (arith, gone-here x q l))) (λ z. omega (arith, same_else x q l i m z)))

-- ---- upwards: of x the bits from k on are left, which are y
pub record Coming (x y k : ℕ) : Type 0 where
  pub most : k ≤ 64
  pub gone : (i : ℕ) → i < k → bit y i ≡ 0
  pub left : (i : ℕ) → k ≤ i → i < 64 → bit y i ≡ bit x i

pub coming_start : (x : ℕ) → Coming x x 0
coming_start x = record { most = omega arith; gone = λ i l. absurd (omega arith); left = λ i a b. refl }

module _ {x y k : ℕ} (C : Coming x y k) where
  module _ {q : ℕ} (L : LowestFrom y 0 q) (l : q < 64) where
    ahead : k ≤ q
    ahead = dite (dec_lt q k) (λ h. absurd (omega (arith, C.gone q h, L.here l))) (λ h. omega arith)

    -- the lowest of y is the next of x
    pub coming_next : LowestFrom x k q
    coming_next =
        record {
          least = ahead;
          most = L.most;
          none = λ i a b. sym (C.left i a (omega arith)) ∙ L.none i (omega arith) b;
          here = λ m. sym (C.left q ahead l) ∙ L.here l;
        }

    pub coming_more : {z : ℕ} → z ≡ without y q → Coming x z (q + 1)
    coming_more e =
        rw e
        (record {
          most = omega arith;
          gone = λ i a. dite (ℕ_discrete i q) (λ z. rw z (gone-here y q l)) (λ z. same_else y q l i (omega arith) z ∙ L.none i (omega arith) (omega arith));
          left = λ i a b. same_else y q l i b (λ z. omega arith) ∙ C.left i (omega (arith, ahead)) b;
        })

  -- where nothing is left, x has no bit from k on
  pub coming_end : y ≡ 0 → LowestFrom x k 64
  coming_end e =
      record {
        least = C.most;
        most = omega arith;
        none = λ i a b. sym (C.left i a b) ∙ ap (λ (z : ℕ). bit z i) e ∙ bit-none i;
        here = λ m. absurd (omega arith);
      }

-- ---- the pairs that stand between the bits of word p are no members
module _ (w : List ℕ) (p : ℕ) {k q : ℕ} where
  pub none_up : LowestFrom (get_or w p 0) k q → (i : ℕ) → k ≤ i → i < q → Member w (64 * p + i) → ⊥
  none_up L i a b =
      let z : (64 * p + i) % 64 ≡ i = omega (arith, L.most) in
      not_at w p (64 * p + i) (omega (arith, L.most)) (rw z (L.none i a b))
