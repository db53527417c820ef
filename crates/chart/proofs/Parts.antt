-- The rows that leave a place, as a table of their own, and the rows of the chart that they are. Assumes nothing.
use mathlib.Core.Path.{◌≡◌, refl, sym, ap, subst, ◌∙◌}
use mathlib.Core.Bool.{Bool, true, false, not}
use mathlib.Core.List.{List, [], ◌∷◌}
use mathlib.Core.Logic.{dite}
use Prim.Native.Nat.{ℕ, zero, suc, ◌+◌, ◌%◌, ◌^◌, ◌≤◌, ◌<◌}
use native.Mathlib.Decide.{dec_le, dec_lt}
use native.Mathlib.Omega.{arith}
use borrow.Author.Tests.{eq-eqb, ne_eqb, eqb-true}
use lib.Dec.{eqb}
use lib.ListN.{length, get_or}
use Rattle.base.proofs.Tests.{differ}
use Rattle.operations.specs.declared.Operation.{Operation}
use Rattle.operations.specs.Operations.{is_known, is_assignment, operands_fit, holds}
use Rattle.operations.specs.Values.{var}
use Rattle.operations.proofs.Codes.{fit-a}
use Rattle.chart.specs.Charts.{Chart, Row, size, from, to, operation, leaving_of, leaving}
use Rattle.chart.specs.Faultless.{FaultlessChart}
use Rattle.chart.proofs.Chosen.{SameRow}
use Rattle.chart.proofs.Chosen as chosen
use Rattle.chart.proofs.Conflicts.{opposite}
use Rattle.chart.proofs.Taken.{not_assignment}

module _ (t : List ℕ) (p : ℕ) where
  abbrev leaves : Row → Bool
  leaves r = eqb r.from p

  -- whole rows
  pub whole : (n : ℕ) → n ≤ size t → length (leaving_of t p n) % 6 ≡ 0
  whole = chosen.whole leaves t

  -- so many rows before row i leave p
  abbrev pub before : ℕ → ℕ
  before i = size (leaving_of t p i)

  pub before_longer : (n : ℕ) → n < size t → from t n ≡ p → before (suc n) ≡ before n + 1
  before_longer n l e = chosen.before_longer leaves t n l (eq-eqb (from t n) p e)

  pub before_same : (n : ℕ) → (from t n ≡ p → ⊥) → before (suc n) ≡ before n
  before_same n e = chosen.before_same leaves t n (ne_eqb (from t n) p e)

  -- ---- the rows of the part
  pub before_mono : (i j : ℕ) → i ≤ j → j ≤ size t → before i ≤ before j
  before_mono = chosen.before_mono leaves t

  -- row i of the chart, if it leaves p, stands in the part
  pub stands : (i : ℕ) → i < size t → from t i ≡ p → before i < size (leaving t p)
  unfolding leaving
  stands i l e = chosen.stands leaves t i l (eq-eqb (from t i) p e)

  pub same_row : (i : ℕ) → i < size t → from t i ≡ p → SameRow (leaving t p) (before i) t i
  unfolding leaving
  same_row i l e = chosen.same_row leaves t i l (eq-eqb (from t i) p e)

  -- row k of the part is a row of the chart that leaves p
  pub record RowOf (k i : ℕ) : Type 0 where
    pub inside : i < size t
    pub from-here : from t i ≡ p
    pub place : k ≡ before i

  pub row_of : (k : ℕ) → k < size (leaving t p) → (i : ℕ) × RowOf k i
  unfolding leaving
  row_of k l =
      let (i, r) = chosen.row_of leaves t k l in
      (i, record { inside = r.inside; from-here = eqb-true (from t i) p r.chosen; place = r.place })

  pub row_same : {k i : ℕ} → RowOf k i → SameRow (leaving t p) k t i
  row_same {k} {i} r = subst (λ (x : ℕ). SameRow (leaving t p) x t i) (sym r.place) (same_row i r.inside r.from-here)

-- ---- a place has two rows at most
zeros : ℕ → List ℕ
zeros zero = []
zeros (suc n) = 0 ∷ zeros n

zeros-length : (n : ℕ) → length (zeros n) ≡ n
unfolding zeros
zeros-length zero = refl
zeros-length (suc n) = ap suc (zeros-length n)

zeros_at : (n k : ℕ) → get_or (zeros n) k 0 ≡ 0
unfolding zeros
zeros_at zero k = refl
zeros_at (suc n) zero = refl
zeros_at (suc n) (suc k) = zeros_at n k

-- three tests, no two of which agree
no_three : (a b c : Bool) → a ≡ not b → a ≡ not c → b ≡ not c → ⊥
no_three true true c p q r = differ true p
no_three true false true p q r = differ true q
no_three true false false p q r = differ false r
no_three false false c p q r = differ false p
no_three false true false p q r = differ false q
no_three false true true p q r = differ true r

module _ (C : Chart) (F : FaultlessChart C) (words : (k : ℕ) → get_or C.table k 0 < 2 ^ 32) where
  one_of : (i j : ℕ) → j < i → i < size C.table → from C.table j ≡ from C.table i
      → holds (operation C.table j) (var (zeros 64)) ≡ not (holds (operation C.table i) (var (zeros 64)))
  one_of i j l u e =
      (opposite C F words i j l u e).one (zeros 64)
      (record { count = zeros-length 64; small = λ k. rw zeros_at (omega arith) })

  pub two_at_most : (p : ℕ) → size (leaving C.table p) ≤ 2
  two_at_most p = dite (dec_le (size (leaving C.table p)) 2) (λ h. h) (λ n.
      let t = C.table in
      let (i, a) = row_of t p 0 (omega arith) in
      let (j, b) = row_of t p 1 (omega arith) in
      let (k, c) = row_of t p 2 (omega arith) in
      let ij : i < j = dite (dec_lt i j) (λ h. h) (λ h. absurd (omega (arith, before_mono t p j i (omega arith) (omega (arith, a.inside)), a.place, b.place))) in
      let jk : j < k = dite (dec_lt j k) (λ h. h) (λ h. absurd (omega (arith, before_mono t p k j (omega arith) (omega (arith, b.inside)), b.place, c.place))) in
      absurd (no_three (holds (operation t i) (var (zeros 64))) (holds (operation t j) (var (zeros 64))) (holds (operation t k) (var (zeros 64)))
      (one_of j i ij b.inside (a.from-here ∙ sym b.from-here))
      (one_of k i (omega arith) c.inside (a.from-here ∙ sym c.from-here))
      (one_of k j jk c.inside (b.from-here ∙ sym c.from-here))))

-- ---- the rows of a place of a faultless chart
-- the code of a row of a place of a faultless chart is known, and its operands fit
pub part_right : (C : Chart) (p k : ℕ) → FaultlessChart C → k < size (leaving C.table p)
    → (is_known (operation (leaving C.table p) k) ≡ true) × (operands_fit (operation (leaving C.table p) k) ≡ true)
part_right C p k F l =
    let (i, r) = row_of C.table p k l in
    subst (λ (o : Operation). (is_known o ≡ true) × (operands_fit o ≡ true)) (sym (row_same C.table p r).operation-same) ((F.rows i r.inside).known, (F.rows i r.inside).fit)

-- a row after the first of its place is no assignment: both are assumptions
pub later-row : (C : Chart) (p k : ℕ) → FaultlessChart C → 0 < k → k < size (leaving C.table p) → is_assignment (operation (leaving C.table p) k) ≡ false
later-row C p k F z l =
    let t = C.table in
    let (i, a) = row_of t p 0 (omega arith) in
    let (j, b) = row_of t p k l in
    let ij : i < j = dite (dec_lt i j) (λ h. h) (λ h. absurd (omega (arith, before_mono t p j i (omega arith) (omega (arith, a.inside)), a.place, b.place))) in
    subst (λ (o : Operation). is_assignment o ≡ false) (sym (row_same t p b).operation-same)
    (not_assignment (operation t j) (F.apart j i ij b.inside (a.from-here ∙ sym b.from-here)).later)

-- a row of a faultless chart leads to one of its places, and writes or compares one of 64 variables
module _ (C : Chart) (F : FaultlessChart C) (p k : ℕ) (l : k < size (leaving C.table p)) where
  pub row-to : to (leaving C.table p) k < C.head.places
  row-to = let (i, r) = row_of C.table p k l in rw (row_same C.table p r).to_same (F.rows i r.inside).to_below

  pub row-a : (operation (leaving C.table p) k).a < 64
  row-a =
      let (i, r) = row_of C.table p k l in
      subst (λ (o : Operation). o.a < 64) (sym (row_same C.table p r).operation-same) (fit-a (operation C.table i) (F.rows i r.inside).fit)
