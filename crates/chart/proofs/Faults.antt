-- The faults one by one, as the code comes upon them. Assumes nothing.
use mathlib.Core.Path.{◌≡◌, refl, sym, ap, ap₂, subst, ◌∙◌}
use mathlib.Core.Bool.{Bool, true, false, cond, ◌&&◌, ◌||◌, not}
use mathlib.Core.List.{List}
use Rattle.std.specs.Prelude.{Option, None, Some}
use Prim.Native.Nat.{ℕ, zero, suc, ◌-◌, ◌≤◌, ◌<◌}
use native.Mathlib.Decide.{ℕ_discrete}
use native.Mathlib.Omega.{arith}
use mathlib.Core.Logic.{dite}
use borrow.Author.Tests.{eq-eqb, ne_eqb, le-leb, leb-true, eqb-false, not-true, not-false}
use lib.Dec.{eqb, leb}
use Rattle.base.specs.Options.{when, or_else, first_of}
use Rattle.base.specs.declared.Refusal.{Refusal}
use Rattle.base.specs.Refusals.{due_in}
use Rattle.base.proofs.OnSome.{OnSome, when_on, first_on}
use Rattle.base.proofs.Tests.{and_true, NoneSince, none_here, none_left}
use Rattle.operations.specs.declared.Operation.{Operation}
use Rattle.operations.specs.Operations.{is_known, is_assumption, operands_fit}
use Rattle.operations.specs.inner.Opposed.{Opposed}
use Rattle.operations.specs.Trials.{exclusive}
use Rattle.operations.proofs.Opposed.{opposed_one}
use Rattle.chart.specs.Charts.{Chart, size, from, operation}
use Rattle.chart.specs.Faults.{strays, descends, clash, conflicts, row_fault, conflict_fault, rows_fault}
use Rattle.chart.specs.inner.Ascending.{Ascending}
use Rattle.chart.specs.inner.Faulty.{faulty, row_number}

-- ---- the first row that has a fault, by its index
-- an index that is found is below the bound
pub found_below : (p : ℕ → Bool) (n i : ℕ) → Some i ≡ first_of n (λ i. when (p i) i) → i < n
found_below p n i e =
    subst (OnSome (λ (j : ℕ). j < n)) (sym e) (first_on (λ j. j < n) n (λ i. when (p i) i) (λ j l. when_on (λ j. j < n) (p j) j l))

-- values that are there where a test passes: the first is at the first index that passes
module _ {A : Type 0} (x : ℕ → A) where
  abbrev pub value_at : Option ℕ → Option A
  value_at None = None
  value_at (Some i) = Some (x i)

  value_or : (o : Option ℕ) (b : Bool) (n : ℕ) → or_else (value_at o) (when b (x n)) ≡ value_at (or_else o (when b n))
  value_or None true n = refl
  value_or None false n = refl
  value_or (Some i) b n = refl

  pub first_by : (p : ℕ → Bool) (f : ℕ → Option A) → ((i : ℕ) → f i ≡ when (p i) (x i)) → (n : ℕ)
      → first_of n f ≡ value_at (first_of n (λ i. when (p i) i))
  unfolding first_of
  first_by p f is zero = refl
  first_by p f is (suc n) = rw (first_by p f is n, is n) (value_or (first_of n (λ i. when (p i) i)) (p n) n)

module _ (k : ℕ) (C : Chart) where
  -- the faults 4 to 7 of a row are one test and one number
  row_is : (i : ℕ) → row_fault k C i ≡ due_in k (faulty C i) (row_number C i) i
  unfolding row_fault
  row_is i = go (strays C i) (descends C.table i) (is_known (operation C.table i)) (operands_fit (operation C.table i))
    where
      go : (s d u f : Bool) → or_else (due_in k s 4 i) (or_else (due_in k d 5 i) (or_else (due_in k (not u) 6 i) (due_in k (not f) 7 i)))
          ≡ due_in k (s || (d || not (u && f))) (cond s 4 (cond d 5 (cond u 7 6))) i
      go true d u f = refl
      go false true u f = refl
      go false false true true = refl
      go false false true false = refl
      go false false false f = refl

  -- what is told of the row that is found, if one is
  abbrev fault_at : ℕ → Refusal
  fault_at i = record { number = row_number C i; chart = k; position = i }

  abbrev conflict_at : ℕ → Refusal
  conflict_at i = record { number = 8; chart = k; position = i }

  -- where a row is found
  module _ {o : Option ℕ} (e : o ≡ first_of (size C.table) (λ i. when (faulty C i) i)) where
    pub rows_by : first_of (size C.table) (row_fault k C) ≡ value_at fault_at o
    rows_by = first_by fault_at (faulty C) (row_fault k C) row_is (size C.table) ∙ ap (value_at fault_at) (sym e)

    pub row_told : {i n : ℕ} {r : Option Refusal} → o ≡ Some i → n ≡ row_number C i
        → r ≡ Some (record { number = n; chart = k; position = i }) → r ≡ rows_fault k C
    unfolding rows_fault
    row_told q h g = g ∙ rw (rows_by, q, h)

    -- and where none is
    module _ (q : o ≡ None) {o' : Option ℕ} (e' : o' ≡ first_of (size C.table) (λ i. when (conflicts C.table i) i)) where
      after-rows : value_at conflict_at o' ≡ rows_fault k C
      unfolding rows_fault conflict_fault
      after-rows =
          rw (rows_by, q, e')
          (sym (first_by conflict_at (conflicts C.table) (conflict_fault k C.table) (λ i. refl) (size C.table)))

      pub conflict_told : {i : ℕ} {r : Option Refusal} → o' ≡ Some i → r ≡ Some (conflict_at i) → r ≡ rows_fault k C
      conflict_told h g = g ∙ sym (ap (value_at conflict_at) h) ∙ after-rows

      pub none_told : o' ≡ None → None ≡ rows_fault k C
      none_told h = sym (ap (value_at conflict_at) h) ∙ after-rows

-- ---- conflicts
-- rows of another place do not clash
pub other_place : (t : List ℕ) (i j : ℕ) → (from t j ≡ from t i → ⊥) → clash t i j ≡ false
unfolding clash
other_place t i j n = rw (ne_eqb (from t j) (from t i) n)

-- rows of one place do where they are not assumptions of which exactly one holds
pub one_place : (t : List ℕ) (i j : ℕ) → from t j ≡ from t i → (f g : Operation) → f ≡ operation t j → g ≡ operation t i
    → (r : Bool) → r ≡ is_assumption f && (is_assumption g && exclusive f g) → clash t i j ≡ not r
unfolding clash
one_place t i j e f g ef eg r h =
    rw (eq-eqb (from t j) (from t i) e) (ap not (ap₂ (λ f g. is_assumption f && (is_assumption g && exclusive f g)) (sym ef) (sym eg) ∙ sym h))

-- going back from row i, a row of another place ends the search: those before it leave lower places
pub none_before : (t : List ℕ) → Ascending t → (i j : ℕ) → i < size t → NoneSince (clash t i) i j → 0 < j → (from t (j - 1) ≡ from t i → ⊥)
    → false ≡ conflicts t i
none_before t s i j u N l n =
    none_left (clash t i) i j N
    (λ k h. other_place t i k (let a = s.order k (j - 1) (omega arith) (omega (arith, N.within)) in let b = s.order (j - 1) i (omega (arith, N.within)) u in λ e. n (omega arith)))

-- row i, the rows before it asked by their distance whether they leave its place
module _ (t : List ℕ) (A : Ascending t) (i : ℕ) (u : i < size t) (r : Bool) (e : r ≡ leb 1 i && eqb (from t (i - 1)) (from t i)) where
  all : NoneSince (clash t i) i i
  all = record { within = omega arith; rest = refl }

  -- the first row of its place is in no conflict
  pub apart-first : not r ≡ true → conflicts t i ≡ false
  apart-first h =
      dite (ℕ_discrete i 0)
      (λ z. sym (none_left (clash t i) i i all (λ k l. absurd (omega arith))))
      (λ n. sym (none_before t A i i u all (omega arith)
      (eqb-false (from t (i - 1)) (from t i) (rw (le-leb 1 i (omega arith)) at (sym e ∙ not-true r h)))))

  -- nor the second, if it and the first are opposed
  pub apart-second : not r ≡ false → (q : Bool) → q ≡ leb 2 i && eqb (from t (i - 2)) (from t i) → q ≡ false
      → (f g : Operation) → f ≡ operation t (i - 1) → g ≡ operation t i → (is_assumption f ≡ true) × (is_assumption g ≡ true) × Opposed f g
      → conflicts t i ≡ false
  unfolding clash
  apart-second h q eq zq f g ef eg o =
      let v = and_true (leb 1 i) (eqb (from t (i - 1)) (from t i)) (sym e ∙ not-false r h) in
      let l : 1 ≤ i = leb-true 1 i v.0 in
      let x : exclusive (operation t (i - 1)) (operation t i) ≡ true = ap₂ exclusive (sym ef) (sym eg) ∙ sym (opposed_one f g o.2) in
      let c : clash t i (i - 1) ≡ false = rw (v.1, ap is_assumption (sym ef) ∙ o.0, ap is_assumption (sym eg) ∙ o.1, x) in
      let N : NoneSince (clash t i) i (i - 1) = none_here (clash t i) i i all (omega arith) c in
      dite (ℕ_discrete i 1)
      (λ y. sym (none_left (clash t i) i (i - 1) N (λ k m. absurd (omega arith))))
      (λ n. let w : i - 1 - 1 ≡ i - 2 = omega arith in sym (none_before t A i (i - 1) u N (omega arith)
      (rw w (eqb-false (from t (i - 2)) (from t i) (rw (le-leb 2 i (omega arith)) at (sym eq ∙ zq))))))
