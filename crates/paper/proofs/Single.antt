-- What lines 5 to 18 of Algorithm 2 find in a faultless chart of u32 entries is found by no other choice: a set is told by
-- its members, and of two edges of a place exactly one can be taken. Assumes nothing.
use mathlib.Core.Path.{◌≡◌, refl, sym, ap, ap₂, subst, ◌∙◌}
use mathlib.Core.Bool.{Bool, true, false, not}
use mathlib.Core.Logic.{◌⊎◌, inl, inr, ⊎_elim, dite, ◌↔◌}
use Rattle.std.specs.Prelude.{Option, None, Some}
use Prim.Native.Nat.{ℕ, zero, suc, ◌+◌, ◌^◌, ◌≤◌, ◌<◌}
use native.Mathlib.Omega.{arith}
use native.Mathlib.Decide.{ℕ_discrete}
use native.Mathlib.Nat.{lt_of_le_of_lt, pow-suc}
use borrow.Author.Tests.{eqb-true, eqb-false}
use lib.ListN.{replicate}
use Rattle.base.proofs.Tests.{T_true, differ}
use Rattle.base.proofs.Walks.{zeros_at}
use Rattle.operations.specs.declared.Operation.{Operation}
use Rattle.operations.specs.Assumptions.{NeverHolds, Implies, Meets}
use Rattle.operations.specs.Operations.{is_assignment}
use Rattle.chart.specs.declared.places.OldPlace.{OldPlace}
use Rattle.chart.specs.Charts.{operation}
use Rattle.chart.specs.Compared.{Compared}
use Rattle.chart.proofs.Words.{Words}
use Rattle.chart.specs.Charts as charts
use Rattle.chart.specs.Conflicts.{Opposite}
use Rattle.chart.specs.Faultless.{FaultlessChart}
use Rattle.chart.proofs.Conflicts.{two_rows}
use Rattle.align.specs.declared.spots.Spot.{Spot}
use Rattle.sets.specs.Sets.{bit, with, without, meets}
use Rattle.align.specs.Steps.{find, old_to, along, rows_at, at_alarm, onward}
use Rattle.sets.proofs.Sets.{same_set}
use Rattle.chart.proofs.Taken.{not_assignment}
use Rattle.paper.specs.Lines5to18.{Has, Meet, IsWith, IsWithout, InG, Line13, Line15}
use Rattle.paper.proofs.Members.{in_or_not}
use Rattle.paper.proofs.Stepping.{is-with, is-without, meeting, not_meeting, row-edge, no_edge, an_edge}

abbrev pub at : OldPlace → ℕ → Spot
at p s = record { place = p; set = s }

-- ---- a set is told by its members
below_power : (n : ℕ) → n < 2 ^ n
below_power zero = omega arith
below_power (suc n) = rw pow-suc (omega (arith, below_power n))

same_members : (s t : ℕ) → ((i : ℕ) → Has s i ↔ Has t i) → s ≡ t
same_members s t f =
    same_set (s + t) s t (wide s (omega arith)) (wide t (omega arith))
    (λ i l. dite (ℕ_discrete (bit s i) 1) (λ e. e ∙ sym ((f i).0 e)) (λ n. dite (ℕ_discrete (bit t i) 1) (λ e. absurd (n ((f i).1 e))) (λ m. omega arith)))
  where
    wide : (n : ℕ) → n ≤ s + t → n < 2 ^ (s + t)
    wide n l = lt_of_le_of_lt l (below_power (s + t))

pub with-is : (s v t : ℕ) → IsWith s v t → t ≡ with s v
with-is s v t w = same_members t (with s v) (λ i. let z = is-with s v i in (λ h. z.1 ((w i).0 h), λ h. (w i).1 (z.0 h)))

pub without_is : (s v t : ℕ) → s < 2 ^ 64 → v < 64 → IsWithout s v t → t ≡ without s v
without_is s v t b k w = same_members t (without s v) (λ i. let z = is-without s v b k i in (λ h. z.1 ((w i).0 h), λ h. (w i).1 (z.0 h)))

pub does_meet : (s t : ℕ) → Meet s t → meets s t ≡ true
does_meet s t m = ⊎_elim (λ e. e) (λ e. absurd (not_meeting s t e m)) (in_or_not (meets s t))

pub does_not : (s t : ℕ) → s < 2 ^ 64 → (Meet s t → ⊥) → meets s t ≡ false
does_not s t b n = ⊎_elim (λ e. absurd (n (meeting s t b e))) (λ e. e) (in_or_not (meets s t))

module _ (X : Compared) (F : FaultlessChart X.old) (words : Words X.old.table) where
  -- ---- two edges of a place: they are one, or exactly one of them can be taken
  two_edges : {ℓ : OldPlace} {op op₂ : Operation} {q q₂ : OldPlace} → InG X ℓ op q → InG X ℓ op₂ q₂
      → ((op ≡ op₂) × (q ≡ q₂)) ⊎ Opposite op op₂
  two_edges {ℓ} {op} {op₂} {q} {q₂} D E =
      dite (ℕ_discrete D.row E.row)
      (λ z. inl (
        sym D.operation ∙ ap (operation X.old.table) z ∙ E.operation,
        ap (λ (x : ℕ). record { 0 = x }) (sym D.to ∙ ap (charts.to X.old.table) z ∙ E.to),
      ))
      (λ n. inr
      (subst (λ (o : Operation). Opposite o op₂) D.operation
      (subst (λ (o : Operation). Opposite (operation X.old.table D.row) o) E.operation
      (two_rows X.old F words.small D.row E.row D.there E.there n (D.from ∙ sym E.from)))))

  -- an assignment stands alone at its place
  pub one-assignment : {ℓ : OldPlace} {op op₂ : Operation} {q q₂ : OldPlace} → InG X ℓ op q → InG X ℓ op₂ q₂ → is_assignment op ≡ true
      → (op ≡ op₂) × (q ≡ q₂)
  one-assignment {op = op} D E a = ⊎_elim (λ e. e) (λ d. absurd (T_true (sym (not_assignment op d.first) ∙ a))) (two_edges D E)

  not_opposite : (op op₂ : Operation) → op ≡ op₂ → Opposite op op₂ → ⊥
  not_opposite op op₂ e d = differ _ ((subst (λ (o : Operation). Opposite op o) (sym e) d).one (replicate 64 0) (record { count = refl; small = λ k. rw (zeros_at 64 k) (omega arith) }))

  -- ---- line 15: one edge matches
  module _ (o : Operation) where
    abbrev Match : Operation → Type 0
    Match op = (op ≡ o) ⊎ (Implies o op × (NeverHolds o → ⊥))

    implied : (op : Operation) → Match op → Implies o op
    implied op (inl e) v W m = subst (Meets v) (sym e) m
    implied op (inr i) v W m = i.0 v W m

    never : (op op₂ : Operation) → Opposite op op₂ → Implies o op → Implies o op₂ → NeverHolds o
    never op op₂ d i j v W m = T_true (sym (ap not (j v W m)) ∙ sym (d.one v W) ∙ i v W m)

    both_match : (op op₂ : Operation) → Opposite op op₂ → Match op → Match op₂ → ⊥
    both_match op op₂ d (inr i) m = i.1 (never op op₂ d i.0 (implied op₂ m))
    both_match op op₂ d (inl e) (inr j) = j.1 (never op op₂ d (implied op (inl e)) j.0)
    both_match op op₂ d (inl e) (inl f) = not_opposite op op₂ (e ∙ sym f) d

  pub one_match : {ℓ₁ ℓₚ : OldPlace} {Vδ : ℕ} {o op op₂ : Operation} {q q₂ : OldPlace} → Line15 X ℓ₁ Vδ o ℓₚ op q → Line15 X ℓ₁ Vδ o ℓₚ op₂ q₂
      → (op ≡ op₂) × (q ≡ q₂)
  one_match {o = o} {op = op} {op₂ = op₂} D E = ⊎_elim (λ e. e) (λ d. absurd (both_match o op op₂ d D.matches E.matches)) (two_edges D.edge E.edge)

  -- ---- line 13: the loop goes one way
  pub onward-is : (ℓₚ : OldPlace) (Vδ : ℕ) (op : Operation) (q : OldPlace) → Line13 X ℓₚ op q → onward X (at ℓₚ Vδ) ≡ Some (at q (with Vδ op.a))
  unfolding onward along
  onward-is ℓₚ Vδ op q M = go (at_alarm X ℓₚ) refl (find (rows_at X ℓₚ) is_assignment) refl
    where
      go : (b : Bool) → at_alarm X ℓₚ ≡ b → (x : Option ℕ) → find (rows_at X ℓₚ) is_assignment ≡ x
          → (elim b as (λ _. Option Spot) [ true ↦ None | false ↦ along Vδ (rows_at X ℓₚ) x ]) ≡ Some (at q (with Vδ op.a))
      go true d x f = absurd (M.not_err (eqb-true ℓₚ.0 X.old.head.alarm d))
      go false d None f = absurd (T_true (sym (no_edge X ℓₚ is_assignment f op q M.edge) ∙ M.assignment))
      go false d (Some k) f =
          let r = an_edge X ℓₚ is_assignment k f in
          let z = one-assignment (row-edge X ℓₚ k r.0) M.edge r.1 in
          ap₂ (λ (x : OldPlace) (o : Operation). Some (at x (with Vδ o.a))) z.1 z.0

  pub onward-none : (ℓₚ : OldPlace) (Vδ : ℕ) → ((op : Operation) (q : OldPlace) → Line13 X ℓₚ op q → ⊥) → onward X (at ℓₚ Vδ) ≡ None
  unfolding onward along
  onward-none ℓₚ Vδ n = go (at_alarm X ℓₚ) refl (find (rows_at X ℓₚ) is_assignment) refl
    where
      go : (b : Bool) → at_alarm X ℓₚ ≡ b → (x : Option ℕ) → find (rows_at X ℓₚ) is_assignment ≡ x
          → ◌≡◌ {A = Option Spot} (elim b as (λ _. Option Spot) [ true ↦ None | false ↦ along Vδ (rows_at X ℓₚ) x ]) None
      go true d x f = refl
      go false d None f = refl
      go false d (Some k) f =
          let r = an_edge X ℓₚ is_assignment k f in
          absurd
          (n (operation (rows_at X ℓₚ) k) (old_to (rows_at X ℓₚ) k)
          (record { not_err = eqb-false ℓₚ.0 X.old.head.alarm d; edge = row-edge X ℓₚ k r.0; assignment = r.1 }))
