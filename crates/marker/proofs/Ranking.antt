-- Algorithm 1 in the form in which the code meets it. Assumes nothing.
use mathlib.Core.Path.{◌≡◌, sym, ap, ◌∙◌}
use mathlib.Core.Bool.{Bool, false, ◌||◌}
use mathlib.Core.List.{List}
use mathlib.Core.Logic.{dite}
use Prim.Native.Nat.{ℕ, ◌+◌, ◌*◌, ◌≤◌, ◌<◌}
use native.Mathlib.Omega.{arith}
use native.Mathlib.Decide.{ℕ_discrete}
use borrow.Author.Tests.{ne_eqb, lt-ltb, le-ltb}
use lib.Dec.{eqb}
use lib.ListN.{length, get_or, set, drop, drop_of_length-le, get_or-eq_default}
use Rattle.base.specs.Walks.{count}
use Rattle.base.proofs.Counts.{count_gap, count_none}
use Rattle.base.proofs.Stores.{Passing, passing_all, passing_gap}
use Rattle.records.specs.Records.{index}
use Rattle.marker.specs.declared.inner.marks.Counts.{Counts}
use Rattle.marker.specs.inner.Spans.{remade}
use Rattle.marker.specs.inner.Seen.{Holds}
use Rattle.marker.specs.Marks.{plain_mark, plain_marks, in_q, opening, all_opened, all_covered, final_marks}
use Rattle.marker.specs.inner.Parts.{plain_as}
use Rattle.marker.proofs.Marks.{Ranks, rank-pair, rank-node, none-covered, final_ranks}
use Rattle.marker.proofs.Spans.{passing_span}
use Rattle.marker.proofs.Seen.{none_seen, unmarked_past}

-- ---- plain marks
module _ (v x : ℕ) where
  pub plain_zero : x ≡ 0 → 0 ≡ plain_as v x
  unfolding plain_as
  plain_zero e = rw (e, plain_as)

  pub plain_else : (x ≡ 0 → ⊥) → v ≡ plain_as v x
  unfolding plain_as
  plain_else e = rw (ne_eqb x 0 e, plain_as)

module _ (i x : ℕ) where
  plain-pair : i < 4096 → plain_as 4 x ≡ plain_mark i x
  unfolding plain_mark
  plain-pair l =
      dite (ℕ_discrete x 0) (λ e. sym (plain_zero 4 x e) ∙ rw (e, plain_mark))
      (λ e. sym (plain_else 4 x e) ∙ rw (ne_eqb x 0 e, plain_mark) (rw (lt-ltb i 4096 l, plain_mark)))

  plain-kept : 4096 ≤ i → plain_as 2 x ≡ plain_mark i x
  unfolding plain_mark
  plain-kept l =
      dite (ℕ_discrete x 0) (λ e. sym (plain_zero 2 x e) ∙ rw (e, plain_mark))
      (λ e. sym (plain_else 2 x e) ∙ rw (ne_eqb x 0 e, plain_mark) (rw (le-ltb i 4096 l, plain_mark)))

  plain-same : x ≡ 0 → plain_mark i x ≡ x
  unfolding plain_mark
  plain-same e = rw (e, plain_mark)

-- the pairs of the old places before p are done
pub record Plain (m₀ m : List ℕ) (p : ℕ) : Type 0 where
  pub most : p ≤ 64
  pub long : length m ≡ 4160
  pub done : Passing plain_mark m₀ m (64 * p)

module _ {m₀ m : List ℕ} {p : ℕ} (P : Plain m₀ m p) where
  on : {m₁ : List ℕ} → p < 64 → Passing plain_mark m₀ m₁ (64 * p + 64) → Plain m₀ m₁ (p + 1)
  on l Q =
      let z : 64 * (p + 1) ≡ 64 * p + 64 = omega arith in
      record { most = omega arith; long = Q.long ∙ sym P.done.long ∙ P.long; done = rw z Q }

  pub plain_more : {m₁ : List ℕ} → p < 64 → m₁ ≡ remade (64 * p) (64 * p + 64) (plain_as 4) m → Plain m₀ m₁ (p + 1)
  plain_more l e =
      on l (passing_span plain_mark (plain_as 4) P.done (omega arith) (omega (arith, P.long)) e (λ k x a b. plain-pair k x (omega arith)))

  pub plain_past : {m₁ seen : List ℕ} → p < 64 → Holds seen m₀ → get_or seen p 0 ≡ 0 → m₁ ≡ m → Plain m₀ m₁ (p + 1)
  plain_past l H e d =
      rw d (on l (passing_gap plain_mark P.done (omega arith) (omega (arith, P.long)) (λ k a b. plain-same k (get_or m₀ k 0) (none_seen H p l e k a b))))

  pub plain_end : {m₁ seen : List ℕ} → Holds seen m₀ → length seen ≤ p → m₁ ≡ remade 4096 4160 (plain_as 2) m → m₁ ≡ plain_marks m₀
  unfolding plain_marks
  plain_end H l e =
      let G =
      passing_gap plain_mark {j = 4096} P.done (omega (arith, P.most)) (omega (arith, P.long))
      (λ k a b. plain-same k (get_or m₀ k 0) (unmarked_past H k (omega arith) b)) in
      let Q = passing_span plain_mark (plain_as 2) G (omega arith) (omega (arith, P.long)) e (λ k x a b. plain-kept k x a) in
      passing_all plain_mark Q (omega (arith, Q.long, P.long, P.done.long))

-- ---- open or kept
module _ (m : List ℕ) (n : ℕ) where
  pub in_past : length m ≤ n → false ≡ in_q m n
  unfolding in_q
  in_past l = let e : get_or m n 0 ≡ 0 = get_or-eq_default m 0 l in rw e

  pub in_one : get_or m n 0 ≡ 1 → eqb (get_or m n 0) 1 ≡ in_q m n
  unfolding in_q
  in_one e = rw e

  pub in_two : (get_or m n 0 ≡ 1 → ⊥) → eqb (get_or m n 0) 2 ≡ in_q m n
  unfolding in_q
  in_two e = rw (ne_eqb (get_or m n 0) 1 e)

module _ (t m : List ℕ) (i x : ℕ) where
  pub opens_not : (x ≡ 4 → ⊥) → false ≡ opening t m i x
  unfolding opening
  opens_not e = rw (ne_eqb x 4 e)

  pub opens_either : {r s : Bool} → x ≡ 4 → r ≡ in_q m (get_or t (2 * i) 0) → s ≡ in_q m (get_or t (2 * i + 1) 0) → r || s ≡ opening t m i x
  unfolding opening
  opens_either e b c = let z : index i 0 ≡ 2 * i = omega arith in rw (e, z, b, c)

-- ---- all of it, with the counts
module _ (n : ℕ) (t m : List ℕ) (lm : length m ≡ 4160) (lt : length t ≡ 8192) (b : n < 4096) where
  module _ {x : List ℕ} (e : x ≡ final_marks n t m) where
    ranks : Ranks (set m n 1) x
    ranks = rw e (final_ranks m t n lm lt b)

    -- of the kept nodes none is open
    opened-is : (r : ℕ) → count 1 x ≡ r + count 1 (drop 4096 x) → r ≡ count 1 x
    opened-is r c =
        let z = count_none 1 x {i = 4096} (omega (arith, ranks.long)) (λ k a d f. omega (arith, rank-pair (set m n 1) x ranks k (omega arith) (λ q. omega arith))) in
        omega arith

    -- only kept nodes are kept
    pub kept-is : {r : ℕ} → r ≡ count 2 (drop 4096 x) → r ≡ count 2 x
    kept-is c =
        let g = count_gap 2 x {i = 0} 4096 (omega arith) (omega (arith, ranks.long)) (λ k a d q. omega (arith, rank-node (set m n 1) x ranks k q)) in
        omega arith

  -- before covering none was covered
  covered-is : {x : List ℕ} (y r : ℕ) → x ≡ all_opened t (set (plain_marks m) n 1) → y ≡ r + count 3 x → r ≡ y
  covered-is {x} y r e c = omega (arith, count_none 3 x {i = 0} (omega arith) (λ k a d z. none-covered m t n lm lt b k (rw e at z)))

  pub rank_is : {m₁ m₂ m₃ m₄ : List ℕ} {c : Counts} → m₁ ≡ plain_marks m → m₂ ≡ set m₁ n 1 → m₃ ≡ all_opened t m₂
      → (m₄ ≡ all_covered t m₃) × (count 1 m₄ ≡ c.opened + count 1 (drop 4096 m₄)) × (count 3 m₄ ≡ c.covered + count 3 m₃)
      → (m₄ ≡ final_marks n t m) × (c.opened ≡ count 1 m₄) × (c.covered ≡ count 3 m₄)
  unfolding final_marks
  rank_is {m₄ = m₄} {c = c} p q o d =
      let f = o ∙ ap (all_opened t) (q ∙ ap (λ (x : List ℕ). set x n 1) p) in
      let e = d.0 ∙ ap (all_covered t) f in
      (e, opened-is e c.opened d.1, covered-is (count 3 m₄) c.covered f d.2)
