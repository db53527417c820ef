-- How often a number stands in a list. Assumes nothing.
use mathlib.Core.Path.{◌≡◌, refl, ap, ◌∙◌}
use mathlib.Core.Bool.{true, false}
use mathlib.Core.List.{List, [], ◌∷◌}
use mathlib.Core.Logic.{dite}
use Prim.Native.Nat.{ℕ, zero, suc, ◌+◌, ◌≤◌, ◌<◌}
use native.Mathlib.Numerals.{add-one}
use native.Mathlib.Omega.{arith}
use native.Mathlib.Decide.{ℕ_discrete}
use borrow.Author.Tests.{eq-eqb, ne_eqb}
use lib.Dec.{eqb}
use lib.ListN.{length, get_or, set, drop, length-drop, drop_of_length-le}
use lib.Seq.{drop-cons}
use Rattle.base.specs.Walks.{count}
use Rattle.base.proofs.Walks.{up_to}

module _ (v : ℕ) where
  pub count_yes : (x : ℕ) (l : List ℕ) → x ≡ v → count v (x ∷ l) ≡ count v l + 1
  unfolding count
  count_yes x l e = rw (eq-eqb x v e, count)

  pub count_no : (x : ℕ) (l : List ℕ) → (x ≡ v → ⊥) → count v (x ∷ l) ≡ count v l
  unfolding count
  count_no x l e = rw (ne_eqb x v e, count)

  -- no more than there are elements
  pub count_most : (l : List ℕ) → count v l ≤ length l
  unfolding count
  count_most [] = omega arith
  count_most (x ∷ l) = let b = count_most l in dite (ℕ_discrete x v) (λ e. omega (arith, count_yes x l e)) (λ e. omega (arith, count_no x l e))

  -- one more becomes v
  pub count_set : (l : List ℕ) (n : ℕ) → n < length l → (get_or l n 0 ≡ v → ⊥) → count v (set l n v) ≡ 1 + count v l
  count_set [] n b f = absurd (omega arith)
  count_set (x ∷ l) zero b f = omega (arith, count_yes v l refl, count_no x l f)
  count_set (x ∷ l) (suc n) b f =
      let h = count_set l n (omega arith) f in
      dite (ℕ_discrete x v)
      (λ e. omega (arith, count_yes x (set l n v) e, count_yes x l e))
      (λ e. omega (arith, count_no x (set l n v) e, count_no x l e))

  -- lists that have v at the same places
  pub count_same : (l k : List ℕ) → length l ≡ length k → ((i : ℕ) → eqb (get_or l i 0) v ≡ eqb (get_or k i 0) v) → count v l ≡ count v k
  unfolding count
  count_same [] [] e h = refl
  count_same [] (y ∷ k) e h = absurd (omega arith)
  count_same (x ∷ l) [] e h = absurd (omega arith)
  count_same (x ∷ l) (y ∷ k) e h =
      let z = count_same l k (omega arith) (λ i. h (suc i)) in
      λ i. elim (h 0 i) [ true ↦ z i + 1 | false ↦ z i ]

  module _ (l : List ℕ) where
    drop_at : (i : ℕ) → i < length l → drop i l ≡ get_or l i 0 ∷ drop (i + 1) l
    drop_at i b = rw (add-one i) (drop-cons l i 0 b)

    -- the element at i counts, or does not
    pub count-here : (i : ℕ) → i < length l → get_or l i 0 ≡ v → count v (drop i l) ≡ count v (drop (i + 1) l) + 1
    count-here i b e = ap (count v) (drop_at i b) ∙ count_yes (get_or l i 0) (drop (i + 1) l) e

    pub count_else : (i : ℕ) → i < length l → (get_or l i 0 ≡ v → ⊥) → count v (drop i l) ≡ count v (drop (i + 1) l)
    count_else i b e = ap (count v) (drop_at i b) ∙ count_no (get_or l i 0) (drop (i + 1) l) e

    -- elements other than v do not count
    pub count_gap : {i : ℕ} (j : ℕ) → i ≤ j → j ≤ length l → ((k : ℕ) → i ≤ k → k < j → get_or l k 0 ≡ v → ⊥) → count v (drop i l) ≡ count v (drop j l)
    count_gap {i} j a b h = up_to (λ k. count v (drop i l) ≡ count v (drop k l)) j a refl (λ k p q e. e ∙ count_else k (omega arith) (h k p q))

    pub count_none : {i : ℕ} → i ≤ length l → ((k : ℕ) → i ≤ k → k < length l → get_or l k 0 ≡ v → ⊥) → count v (drop i l) ≡ 0
    unfolding count
    count_none a h = count_gap (length l) a (omega arith) h ∙ ap (count v) (drop_of_length-le l {i = length l} (omega arith))

    pub count_few : (i : ℕ) → count v (drop i l) ≤ length l
    count_few i = omega (arith, count_most (drop i l), length-drop i l)
