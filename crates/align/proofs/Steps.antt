-- What an aligned step comes to is a place of the old chart and a set of 64 variables. Assumes nothing.
use mathlib.Core.Bool.{Bool, true, false, ◌&&◌, ◌||◌, not}
use mathlib.Core.List.{List}
use Rattle.std.specs.Prelude.{Option, None, Some}
use Prim.Native.Nat.{ℕ, zero, suc, ◌^◌, ◌≤◌, ◌<◌}
use native.Mathlib.Omega.{arith}
use Rattle.base.specs.Says.{bool}
use Rattle.base.proofs.OnSome.{OnSome, when-so, or_on, first_on, picked, further, on_map}
use Rattle.operations.specs.declared.Operation.{Operation}
use Rattle.operations.specs.Operations.{is_assignment, is_assumption, same}
use Rattle.operations.specs.Trials.{implication}
use Rattle.chart.specs.declared.places.OldPlace.{OldPlace}
use Rattle.chart.specs.declared.places.NewPlace.{NewPlace}
use Rattle.chart.specs.Charts.{size, to, operation}
use Rattle.chart.specs.Faultless.{FaultlessChart}
use Rattle.align.specs.declared.spots.Spot.{Spot}
use Rattle.sets.specs.Sets.{alone, with, without, meets}
use Rattle.align.specs.Reads.{read_set}
use Rattle.align.specs.Steps.{find, is_implied, along, matching, matched, rewritten, rows_at, at_alarm, writing_row, unequal, assigned, onward, follow, followed, counterpart, assumed, moved, fair, at_both, rescued, arrived, step}
use Rattle.chart.proofs.Parts.{row-to, row-a}
use Rattle.sets.proofs.Sets.{with-small, without-small}
use Rattle.align.proofs.Onto.{writing-row_writes}
use Rattle.chart.specs.Compared.{Compared, is_second, heads_of}

-- the place is below b, and the set has 64 variables at most
pub record Fits (b : ℕ) (h : Spot) : Type 0 where
  pub place : h.place.0 < b
  pub set : h.set < 2 ^ 64

-- row k is there
found : (rows : List ℕ) (f : Operation → Bool) → OnSome (λ k. k < size rows) (find rows f)
unfolding find
found rows f = first_on _ (size rows) _ (λ k l. when-so _ (f (operation rows k)) k (λ t. l))

module _ (X : Compared) (F : FaultlessChart X.old) (b : ℕ) (wide : X.old.head.places ≤ b) where
  to-fits : (p : OldPlace) (k : ℕ) → k < size (rows_at X p) → to (rows_at X p) k < b
  to-fits p k l = let r = row-to X.old F p.0 k l in omega arith

  rewritten-small : (t : ℕ) (o : Operation) → o.a < 64 → t < 2 ^ 64 → rewritten t o < 2 ^ 64
  unfolding rewritten
  rewritten-small t o l f = go (meets t (read_set o))
    where
      go : (b : Bool) → (elim b as (λ _. ℕ) [ true ↦ with t o.a | false ↦ without t o.a ]) < 2 ^ 64
      go true = with-small t o.a f l
      go false = without-small t o.a f

  unequal-fits : (h : Spot) (a : ℕ) → a < 64 → (x : Option ℕ) → OnSome (λ k. k < size (rows_at X h.place)) x → Fits b h → Fits b (unequal X h a x)
  unfolding unequal
  unequal-fits h a l None q f = record { place = f.place; set = with-small h.set a f.set l }
  unequal-fits h a l (Some k) q f = record { place = to-fits h.place k q; set = with-small h.set a f.set l }

  assigned-fits : (h : Spot) (o : Operation) → o.a < 64 → (x : Option ℕ) → OnSome (λ k. k < size (rows_at X h.place)) x → Fits b h → Fits b (assigned X h o x)
  unfolding assigned
  assigned-fits h o l None q f = unequal-fits h o.a l (writing_row X h.place o.a) (on_map _ _ (writing_row X h.place o.a) (λ k A. A.inside) (writing-row_writes X h.place o.a)) f
  assigned-fits h o l (Some k) q f = record { place = to-fits h.place k q; set = rewritten-small h.set o l f.set }

  along-fits : (t : ℕ) (p : OldPlace) (x : Option ℕ) → OnSome (λ k. k < size (rows_at X p)) x → t < 2 ^ 64 → OnSome (Fits b) (along t (rows_at X p) x)
  unfolding along
  along-fits t p None q f = tt
  along-fits t p (Some k) q f = record { place = to-fits p k q; set = with-small t _ f (row-a X.old F p.0 k q) }

  onward-fits : (h : Spot) → Fits b h → OnSome (Fits b) (onward X h)
  unfolding onward
  onward-fits h f =
      picked _ (at_alarm X h.place) None (along h.set (rows_at X h.place) (find (rows_at X h.place) is_assignment)) (λ t. tt)
      (λ t. along-fits h.set h.place (find (rows_at X h.place) is_assignment) (found (rows_at X h.place) is_assignment) f.set)

  follow-fits : (n met : ℕ) (h : Spot) → Fits b h → OnSome (Fits b) (follow X n met h)
  unfolding follow
  follow-fits zero met h f = tt
  follow-fits (suc n) met h f =
      further (Fits b) _ (onward X h) (Some h) _ (onward-fits h f) f
      (λ h' f'. picked _ (meets met (alone h'.place.0)) None _ (λ t. tt) (λ t. follow-fits n (with met h'.place.0) h' f'))

  assumed-fits : (h : Spot) (o : Operation) (x : Option ℕ) → OnSome (λ k. k < size (rows_at X h.place)) x → Fits b h → OnSome (Fits b) (assumed X h o x)
  unfolding assumed matched
  assumed-fits h o None q f = f
  assumed-fits h o (Some k) q f =
      when-so _ (not (meets h.set (read_set o) || meets h.set (read_set (operation (rows_at X h.place) k)))) _
      (λ t. record { place = to-fits h.place k q; set = f.set })

  counterpart-there : (p : OldPlace) (o : Operation) → OnSome (λ k. k < size (rows_at X p)) (counterpart X p o)
  unfolding counterpart matching
  counterpart-there p o =
      picked _ (at_alarm X p) None _ (λ e. tt) (λ e. or_on _ (find (rows_at X p) (λ o'. same o' o)) _ (found (rows_at X p) (λ o'. same o' o))
      (λ _. found (rows_at X p) (λ o'. is_assumption o' && is_implied (implication o o'))))

  pub moved-fits : (h : Spot) (o : Operation) → o.a < 64 → Fits b h → OnSome (Fits b) (moved X h o)
  unfolding moved followed
  moved-fits h o l f =
      picked _ (is_assignment o) _ _
      (λ t. (assigned-fits h o l (find (rows_at X h.place) (λ o'. same o' o)) (found (rows_at X h.place) (λ o'. same o' o)) f))
      (λ t. further (Fits b) _ (follow X 64 (alone h.place.0) h) None _ (follow-fits 64 (alone h.place.0) h f) tt
      (λ h' f'. assumed-fits h' o (counterpart X h'.place o) (counterpart-there h'.place o) f'))

  rescued-fits : (h : Spot) → Fits b h → OnSome (Fits b) (rescued X h)
  unfolding rescued followed at_both
  rescued-fits h f = picked _ (is_second X) _ None (λ t. go (follow X 64 (alone h.place.0) h) (follow-fits 64 (alone h.place.0) h f)) (λ t. tt)
    where
      go : (x : Option Spot) → OnSome (Fits b) x → OnSome (Fits b) (at_both X x)
      go None f = tt
      go (Some h') f = when-so _ (at_alarm X h'.place) h' (λ t. f)

  arrived-fits : (q : NewPlace) (x : Option Spot) → OnSome (Fits b) x → OnSome (Fits b) (arrived X q x)
  unfolding arrived
  arrived-fits q None f = tt
  arrived-fits q (Some h) f = picked _ (bool (fair (heads_of X) h.place q)) (Some h) (rescued X h) (λ t. f) (λ t. rescued-fits h f)

  pub step_fits : (h : Spot) (o : Operation) (q : NewPlace) → o.a < 64 → Fits b h → OnSome (Fits b) (step X h o q)
  unfolding step
  step_fits h o q l f = arrived-fits q (moved X h o) (moved-fits h o l f)
