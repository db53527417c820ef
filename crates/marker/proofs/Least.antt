-- The marks of Algorithm 1 are no more than they must be: open is within every set that has the start and is closed (`least-open`), and
-- what is covered is a target of an open pair (`covered-reached`). That open has the start and is closed, and that no target of an open
-- pair is left beyond, is `final-marks` (Marks.antt). Assumes nothing.
use mathlib.Core.Path.{◌≡◌, refl, sym, subst, ◌∙◌}
use mathlib.Core.Bool.{Bool, true, false}
use mathlib.Core.Logic.{◌⊎◌, inl, inr, ⊎_elim, dite}
use mathlib.Core.List.{List, [], ◌∷◌}
use Rattle.std.specs.Prelude.{Some}
use Prim.Native.Nat.{ℕ, suc, ◌≤◌, ◌<◌}
use native.Mathlib.Omega.{arith}
use native.Mathlib.Decide.{ℕ_discrete, dec_lt}
use borrow.Author.Tests.{eq-eqb, ne_eqb}
use lib.Dec.{T, eqb, eqb→eq}
use lib.ListN.{length, get_or, set}
use lib.Seq.{get_or-set_other}
use Rattle.base.proofs.Lists.{has}
use Rattle.base.proofs.Repeat.{repeated-keeps}
use Rattle.base.proofs.Tests.{T_or, T_or_l, T_or_r, T_true, is_true}
use Rattle.records.specs.Records.{index}
use Rattle.marker.specs.Marks.{plain_marks, in_q, opening, next_opening, opened, all_opened, transitions, cover, covered, all_covered, final_marks}
use Rattle.marker.proofs.Marks.{Ranks, rank-there, rank-node, rank-set, plain_ranks, plain-pair, plain-node, opening_why, first_opens, all_opens, covered_ranks, covered_same, covered_not, cover-here, cover_not, cover-same}

-- ---- open: the least such set
module _ (m t : List ℕ) (lm : length m ≡ 4160) (S : ℕ → Type 0) where
  -- every pair of the graph from which a node of S, or a kept one, is a target, is in S
  abbrev pub Closed : Type 0
  Closed = (i r : ℕ) → i < 4096 → 0 < get_or m i 0 → r < 2
      → S (get_or t (index i r) 0) ⊎ ((4096 ≤ get_or t (index i r) 0) × (0 < get_or m (get_or t (index i r) 0) 0)) → S i

  record Within (x : List ℕ) : Type 0 where
    ranks : Ranks m x
    ones : (k : ℕ) → get_or x k 0 ≡ 1 → S k

  target_in : (x : List ℕ) → Within x → (k : ℕ) → in_q x k ≡ true → S k ⊎ ((4096 ≤ k) × (0 < get_or m k 0))
  unfolding in_q
  target_in x W k e =
      elim (T_or (eqb (get_or x k 0) 1) (eqb (get_or x k 0) 2) (T_true e)) [
        | inl a ↦ inl (W.ones k (eqb→eq (get_or x k 0) 1 a))
        | inr a ↦ inr (kept (eqb→eq (get_or x k 0) 2 a))
      ]
    where
      kept : get_or x k 0 ≡ 2 → (4096 ≤ k) × (0 < get_or m k 0)
      kept a = (rank-node m x W.ranks k a, (rank-there m x W.ranks k (omega arith)).1)

  opened_in : Closed → (x : List ℕ) (n : ℕ) → Within x → next_opening t x ≡ Some n → Within (opened x n)
  unfolding opening
  opened_in C x n W e =
      let w = opening_why t x n W.ranks.long e in
      let p = rank-there m x W.ranks n (omega (arith, w.1)) in
      let here : S n =
      elim (T_or (in_q x (get_or t (index n 0) 0)) (in_q x (get_or t (index n 1) 0)) (T_true w.2)) [
        | inl a ↦ C n 0 w.0 p.1 (omega arith) (target_in x W (get_or t (index n 0) 0) (is_true (in_q x (get_or t (index n 0) 0)) a))
        | inr a ↦ C n 1 w.0 p.1 (omega arith) (target_in x W (get_or t (index n 1) 0) (is_true (in_q x (get_or t (index n 1) 0)) a))
      ] in
      record {
        ranks = rank-set m x n 1 W.ranks w.1 (inl refl);
        ones = λ k z. dite (ℕ_discrete k n) (λ q. subst S (sym q) here) (λ q. W.ones k (sym (get_or-set_other x n k 1 0 q) ∙ z));
      }

  plain_not_open : (k : ℕ) → get_or (plain_marks m) k 0 ≡ 1 → ⊥
  plain_not_open k e =
      let z = rank-there m (plain_marks m) (plain_ranks m lm) k (omega arith) in
      dite (dec_lt k 4096) (λ l. omega (arith, plain-pair m lm k z.0 l z.1)) (λ l. omega (arith, plain-node m lm k z.0 (omega arith) z.1))

  pub least_open : (s : ℕ) → s < 4096 → 0 < get_or m s 0 → length t ≡ 8192 → S s → Closed → (k : ℕ) → get_or (final_marks s t m) k 0 ≡ 1 → S k
  unfolding final_marks all_covered all_opened
  least_open s b p lt h C k e =
      let y = all_opened t (set (plain_marks m) s 1) in
      let W : Within y =
      repeated-keeps (next_opening t) opened Within (opened_in C) 4096 (set (plain_marks m) s 1)
      (record { ranks = (first_opens m t s lm lt b p).ranks; ones = λ j z. dite (ℕ_discrete j s) (λ q. subst S (sym q) h) (λ q. absurd (plain_not_open j (sym (get_or-set_other (plain_marks m) s j 1 0 q) ∙ z))) }) in
      W.ones k (dite (ℕ_discrete (get_or y k 0) 1) (λ z. z) (λ z. absurd (covered_not (transitions y t) y k 1 (λ u. omega arith) (λ u. omega arith) z e)))

-- ---- covered: only targets of open pairs
pub record Reached (x t : List ℕ) (k : ℕ) : Type 0 where
  pub pair : ℕ
  pub row : ℕ
  pub below : pair < length x
  pub two : row < 2
  pub «open» : get_or x pair 0 ≡ 1
  pub is : get_or t (index pair row) 0 ≡ k

transition-from : (x t : List ℕ) (k : ℕ) → T (has (transitions x t) k) → Reached x t k
unfolding transitions
transition-from [] t k h = absurd h
transition-from (y ∷ x) [] k h = absurd h
transition-from (y ∷ x) (u ∷ []) k h = absurd h
transition-from (y ∷ x) (u ∷ (v ∷ t)) k h = go (ℕ_discrete y 1) h (transition-from x t k)
  where
    later : Reached x t k → Reached (y ∷ x) (u ∷ (v ∷ t)) k
    later R =
        let z : index (suc R.pair) R.row ≡ suc (suc (index R.pair R.row)) = omega arith in
        record { pair = suc R.pair; row = R.row; below = omega (arith, R.below); two = R.two; «open» = R.«open»; is = rw z R.is }

    go : Dec (y ≡ 1) → T (has (elim (eqb y 1) [ true ↦ u ∷ (v ∷ transitions x t) | false ↦ transitions x t ]) k) → (T (has (transitions x t) k) → Reached x t k) → Reached (y ∷ x) (u ∷ (v ∷ t)) k
    go (yes e) h ih = elim (T_or (eqb k u) (has (v ∷ transitions x t) k) (rw e at h)) [
      | inl a ↦ record { pair = 0; row = 0; below = omega arith; two = omega arith; «open» = e; is = sym (eqb→eq k u a) }
      | inr a ↦ elim (T_or (eqb k v) (has (transitions x t) k) a) [
        | inl b ↦ record { pair = 0; row = 1; below = omega arith; two = omega arith; «open» = e; is = sym (eqb→eq k v b) }
        | inr b ↦ later (ih b)
      ]
    ]
    go (no e) h ih = later (ih (skip (eqb y 1) (ne_eqb y 1 e) h))
      where
        skip : (b : Bool) → b ≡ false → T (has (elim b [ true ↦ u ∷ (v ∷ transitions x t) | false ↦ transitions x t ]) k) → T (has (transitions x t) k)
        skip true z h = absurd (T_true (sym z))
        skip false z h = h

covered_why : (l x : List ℕ) (k : ℕ) → get_or (covered x l) k 0 ≡ 3 → (get_or x k 0 ≡ 3) ⊎ T (has l k)
unfolding covered
covered_why [] x k e = inl e
covered_why (n ∷ l) x k e = ⊎_elim (λ a. dite (ℕ_discrete (get_or x k 0) 4) (λ q. inr (here q a)) (λ q. inl (sym (cover-same x n k q) ∙ a))) (λ a. inr (T_or_r (eqb k n) (has l k) a)) (covered_why l (cover x n) k e)
  where
    here : get_or x k 0 ≡ 4 → get_or (cover x n) k 0 ≡ 3 → T (has (n ∷ l) k)
    here q a =
        dite (ℕ_discrete k n) (λ z. T_or_l (eqb k n) (has l k) (T_true (eq-eqb k n z)))
        (λ z. absurd (dite (ℕ_discrete (get_or x n 0) 4)
        (λ f. let w : get_or (set x n 3) k 0 ≡ 3 = rw (cover-here x n f) at a in omega (arith, get_or-set_other x n k 3 0 z))
        (λ f. let w : get_or x k 0 ≡ 3 = rw (cover_not x n f) at a in omega arith)))

-- a covered node is a target of an open pair
pub covered-reached : (m t : List ℕ) (s : ℕ) → length m ≡ 4160 → length t ≡ 8192 → s < 4096 → 0 < get_or m s 0 → (k : ℕ) → get_or (final_marks s t m) k 0 ≡ 3 → Reached (final_marks s t m) t k
unfolding final_marks all_covered
covered-reached m t s lm lt b p k e =
    let y = all_opened t (set (plain_marks m) s 1) in
    let O = all_opens t m s (set (plain_marks m) s 1) (first_opens m t s lm lt b p) in
    let R = ⊎_elim (λ a. absurd (O.uncovered k a)) (λ a. transition-from y t k a) (covered_why (transitions y t) y k e) in
    record {
      pair = R.pair;
      row = R.row;
      below = omega (arith, R.below, O.ranks.long, (covered_ranks m (transitions y t) y O.ranks).long);
      two = R.two;
      «open» = covered_same (transitions y t) y R.pair (λ z. omega (arith, R.«open»)) ∙ R.«open»;
      is = R.is;
    }
