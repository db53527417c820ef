-- The aligned step does not look at the new table: of the new chart it knows the row that it is given, and the alarm.
-- Assumes nothing.
use mathlib.Core.Path.{◌≡◌, refl, ap, ◌∙◌}
use mathlib.Core.Bool.{true, false}
use mathlib.Core.List.{List}
use Rattle.std.specs.Prelude.{Option, None, Some}
use Prim.Native.Nat.{ℕ, zero, suc}
use Rattle.base.specs.Says.{bool}
use Rattle.operations.specs.declared.Operation.{Operation}
use Rattle.operations.specs.Operations.{is_assignment, same}
use Rattle.chart.specs.Heads.{Head}
use Rattle.chart.specs.declared.places.NewPlace.{NewPlace}
use Rattle.chart.specs.Charts.{Chart, charted}
use Rattle.chart.specs.Compared.{Compared, both, is_second, heads_of}
use Rattle.align.specs.declared.spots.Spot.{Spot}
use Rattle.sets.specs.Sets.{alone, with, meets}
use Rattle.align.specs.Steps.{find, rows_at, writing_row, unequal, assigned, onward, follow, followed, counterpart, assumed, moved, fair, at_both, rescued, arrived, step}

module _ (edition : ℕ) (old : Chart) (new : Head) (t u : List ℕ) where
  abbrev X : Compared
  X = both edition old (charted new t)

  abbrev Y : Compared
  Y = both edition old (charted new u)

  assigned-same : (h : Spot) (o : Operation) (x : Option ℕ) → assigned X h o x ≡ assigned Y h o x
  unfolding assigned unequal writing_row
  assigned-same h o None = unequal-same (writing_row X h.place o.a)
    where
      unequal-same : (x : Option ℕ) → unequal X h o.a x ≡ unequal Y h o.a x
      unequal-same None = refl
      unequal-same (Some k) = refl
  assigned-same h o (Some k) = refl

  follow-same : (n met : ℕ) (h : Spot) → follow X n met h ≡ follow Y n met h
  unfolding follow onward
  follow-same zero met h = refl
  follow-same (suc n) met h = go (follow-same n) (onward X h)
    where
      go : ((met : ℕ) (h : Spot) → follow X n met h ≡ follow Y n met h) → (x : Option Spot)
          → ◌≡◌ {A = Option Spot}
          (elim x [ None ↦ Some h | Some h' ↦ elim (meets met (alone h'.place.0)) [ true ↦ None | false ↦ follow X n (with met h'.place.0) h' ] ])
          (elim x [ None ↦ Some h | Some h' ↦ elim (meets met (alone h'.place.0)) [ true ↦ None | false ↦ follow Y n (with met h'.place.0) h' ] ])
      go ih None = refl
      go ih (Some h') = λ i. elim (meets met (alone h'.place.0)) as (λ _. Option Spot) [ true ↦ None | false ↦ ih (with met h'.place.0) h' i ]

  assumed-same : (h : Spot) (o : Operation) (x : Option ℕ) → assumed X h o x ≡ assumed Y h o x
  unfolding assumed
  assumed-same h o None = refl
  assumed-same h o (Some k) = refl

  moved_same : (h : Spot) (o : Operation) → moved X h o ≡ moved Y h o
  unfolding moved followed counterpart
  moved_same h o = λ i.
      elim (is_assignment o) as (λ _. Option Spot) [
        | true ↦ Some (assigned-same h o (find (rows_at X h.place) (λ o'. same o' o)) i)
        | false ↦ elim (follow-same 64 (alone h.place.0) h i) as (λ _. Option Spot) [ None ↦ None | Some h' ↦ assumed-same h' o (counterpart X h'.place o) i ]
      ]

  rescued-same : (h : Spot) → rescued X h ≡ rescued Y h
  unfolding rescued followed at_both
  rescued-same h = λ i. elim (is_second X) as (λ _. Option Spot) [ true ↦ (ap (at_both X) (follow-same 64 (alone h.place.0) h) ∙ at_both_lem (follow Y 64 (alone h.place.0) h)) i | false ↦ None ]
    where
      at_both_lem : (x : Option Spot) → at_both X x ≡ at_both Y x
      at_both_lem None = refl
      at_both_lem (Some h) = refl

  arrived-same : (q : NewPlace) (x : Option Spot) → arrived X q x ≡ arrived Y q x
  unfolding arrived
  arrived-same q None = refl
  arrived-same q (Some h) = λ i. elim (bool (fair (heads_of X) h.place q)) as (λ _. Option Spot) [ true ↦ Some h | false ↦ rescued-same h i ]

  pub step_same : (h : Spot) (o : Operation) (q : NewPlace) → step X h o q ≡ step Y h o q
  unfolding step
  step_same h o q = ap (arrived X q) (moved_same h o) ∙ arrived-same q (moved Y h o)
