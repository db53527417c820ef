-- Where a step that does not fail leads does not depend on the set: only whether it fails does, so that a pair and an
-- edge of the new chart have one successor, in either edition. Assumes nothing.
use mathlib.Core.Path.{◌≡◌, refl, sym, ap, ◌∙◌}
use mathlib.Core.Bool.{Bool, true, false, ◌||◌, not}
use Rattle.std.specs.Prelude.{Option, None, Some}
use Prim.Native.Nat.{ℕ, zero, suc}
use borrow.Author.Tests.{eqb-true}
use Rattle.base.specs.Says.{bool}
use Rattle.base.proofs.OnSome.{OnSome, on_at, when-so, picked, on_map}
use Rattle.base.proofs.Tests.{is_true}
use Rattle.operations.specs.declared.Operation.{Operation}
use Rattle.operations.specs.Operations.{is_assignment, same}
use Rattle.chart.specs.declared.places.OldPlace.{OldPlace}
use Rattle.chart.specs.declared.places.NewPlace.{NewPlace}
use Rattle.chart.specs.Charts.{operation}
use Rattle.chart.specs.Compared.{Compared, is_second, heads_of}
use Rattle.align.specs.declared.spots.Spot.{Spot}
use Rattle.sets.specs.Sets.{alone, with, meets}
use Rattle.align.specs.Reads.{read_set}
use Rattle.align.specs.Steps.{find, old_to, along, matched, rows_at, at_alarm, writing_row, unequal, assigned, onward, follow, followed, counterpart, assumed, moved, fair, at_both, rescued, arrived, step}

abbrev at : OldPlace → ℕ → Spot
at p s = record { place = p; set = s }

-- both fail, or both come to one place
data Like : Option Spot → Option Spot → Type 0 where
  neither : Like None None
  both : (p : OldPlace) (s t : ℕ) → Like (Some (at p s)) (Some (at p t))

module _ (X : Compared) where
  onward_like : (p : OldPlace) (s t : ℕ) → Like (onward X (at p s)) (onward X (at p t))
  unfolding onward along
  onward_like p s t = go (at_alarm X p) (find (rows_at X p) is_assignment)
    where
      go : (b : Bool) (f : Option ℕ) → Like (elim b [ true ↦ None | false ↦ along s (rows_at X p) f ]) (elim b [ true ↦ None | false ↦ along t (rows_at X p) f ])
      go true f = neither
      go false None = neither
      go false (Some k) = both (old_to (rows_at X p) k) (with s (operation (rows_at X p) k).a) (with t (operation (rows_at X p) k).a)

  follow_like : (n met : ℕ) (p : OldPlace) (s t : ℕ) → Like (follow X n met (at p s)) (follow X n met (at p t))
  unfolding follow
  follow_like zero met p s t = neither
  follow_like (suc n) met p s t = go (λ m q u v. follow_like n m q u v) (onward_like p s t)
    where
      pick : (b : Bool) {x y : Option Spot} → Like x y → Like (elim b [ true ↦ None | false ↦ x ]) (elim b [ true ↦ None | false ↦ y ])
      pick true l = neither
      pick false l = l

      go : ((m : ℕ) (q : OldPlace) (u v : ℕ) → Like (follow X n m (at q u)) (follow X n m (at q v))) → {o o' : Option Spot} → Like o o'
          → Like (elim o [ None ↦ Some (at p s) | Some h' ↦ elim (meets met (alone h'.place.0)) [ true ↦ None | false ↦ follow X n (with met h'.place.0) h' ] ])
          (elim o' [ None ↦ Some (at p t) | Some h' ↦ elim (meets met (alone h'.place.0)) [ true ↦ None | false ↦ follow X n (with met h'.place.0) h' ] ])
      go ih neither = both p s t
      go ih (both q u v) = pick (meets met (alone q.0)) (ih (with met q.0) q u v)

  -- where lines 15 to 18 lead from ℓ_p, with the matching row if there is one
  beyond : OldPlace → Option ℕ → OldPlace
  beyond p None = p
  beyond p (Some k) = old_to (rows_at X p) k

  assumed-place : (p : OldPlace) (s : ℕ) (o : Operation) (k : Option ℕ) → OnSome (λ (h : Spot). h.place ≡ beyond p k) (assumed X (at p s) o k)
  unfolding assumed matched beyond
  assumed-place p s o None = refl
  assumed-place p s o (Some k) = when-so _ (not (meets s (read_set o) || meets s (read_set (operation (rows_at X p) k)))) _ (λ t. refl)

  -- the old place that any set leads to, if it leads anywhere
  past : OldPlace → Operation → Option Spot → OldPlace
  past p o None = p
  past p o (Some h) = beyond h.place (counterpart X h.place o)

  -- where lines 5 to 10 lead, with the equal row if there is one
  written : OldPlace → ℕ → Option ℕ → OldPlace
  written p a None = beyond p (writing_row X p a)
  written p a (Some k) = old_to (rows_at X p) k

  -- lines 5 to 18
  reached : OldPlace → Operation → OldPlace
  reached p o = elim (is_assignment o) [ true ↦ written p o.a (find (rows_at X p) (λ o'. same o' o)) | false ↦ past p o (followed X (at p 0)) ]

  one-reached : (p : OldPlace) (s : ℕ) (o : Operation) → OnSome (λ (h : Spot). h.place ≡ reached p o) (moved X (at p s) o)
  unfolding moved followed reached past assigned unequal beyond written
  one-reached p s o = go (is_assignment o)
    where
      unequal-place : (k : Option ℕ) → (unequal X (at p s) o.a k).place ≡ beyond p k
      unequal-place None = refl
      unequal-place (Some k) = refl

      assigned-place : (k : Option ℕ) → (assigned X (at p s) o k).place ≡ written p o.a k
      assigned-place None = unequal-place (writing_row X p o.a)
      assigned-place (Some k) = refl

      on : {x y : Option Spot} → Like x y → OnSome (λ (h : Spot). h.place ≡ past p o y) (elim x [ None ↦ None | Some h' ↦ assumed X h' o (counterpart X h'.place o) ])
      on neither = tt
      on (both q u v) = assumed-place q u o (counterpart X q o)

      go : (b : Bool) → OnSome (λ (h : Spot). h.place ≡ (elim b [ true ↦ written p o.a (find (rows_at X p) (λ o'. same o' o)) | false ↦ past p o (followed X (at p 0)) ]))
          (elim b [
            | true ↦ Some (assigned X (at p s) o (find (rows_at X p) (λ o'. same o' o)))
            | false ↦ elim (followed X (at p s)) [ None ↦ None | Some h' ↦ assumed X h' o (counterpart X h'.place o) ]
          ])
      go true = assigned-place (find (rows_at X p) (λ o'. same o' o))
      go false = on (follow_like 64 (alone p.0) p s 0)

  -- ---- line 27: a step that does not fail for the new alarm is at the old one too
  landed : OldPlace → NewPlace → OldPlace
  landed p q = elim (bool (fair (heads_of X) p q)) [ true ↦ p | false ↦ record { 0 = X.old.head.alarm } ]

  rescued-place : (h : Spot) → OnSome (λ (h' : Spot). h'.place ≡ record { 0 = X.old.head.alarm }) (rescued X h)
  unfolding rescued at_both
  rescued-place h = picked _ (is_second X) _ None (λ t. go (followed X h)) (λ t. tt)
    where
      go : (x : Option Spot) → OnSome (λ (h' : Spot). h'.place ≡ record { 0 = X.old.head.alarm }) (at_both X x)
      go None = tt
      go (Some h') = when-so _ (at_alarm X h'.place) h' (λ t. ap (λ (p : ℕ). record { 0 = p }) (eqb-true h'.place.0 X.old.head.alarm (is_true _ t)))

  pub successor : OldPlace → Operation → NewPlace → OldPlace
  successor p o q = landed (reached p o) q

  pub one_successor : (p : OldPlace) (s : ℕ) (o : Operation) (q : NewPlace) → OnSome (λ (h : Spot). h.place ≡ successor p o q) (step X (at p s) o q)
  unfolding step arrived successor landed
  one_successor p s o q = go (moved X (at p s) o) (one-reached p s o)
    where
      by : (h : Spot) → OnSome (λ (h' : Spot). h'.place ≡ landed h.place q) (arrived X q (Some h))
      by h = pick (bool (fair (heads_of X) h.place q))
        where
          pick : (b : Bool) → OnSome (λ (h' : Spot). h'.place ≡ (elim b [ true ↦ h.place | false ↦ record { 0 = X.old.head.alarm } ])) (elim b [ true ↦ Some h | false ↦ rescued X h ])
          pick true = refl
          pick false = rescued-place h

      go : (x : Option Spot) → OnSome (λ (h : Spot). h.place ≡ reached p o) x → OnSome (λ (h : Spot). h.place ≡ landed (reached p o) q) (arrived X q x)
      go None e = tt
      go (Some h) e = on_map _ _ (arrived X q (Some h)) (λ h' z. z ∙ ap (λ (p : OldPlace). landed p q) e) (by h)

  -- two sets
  pub set_free : (p : OldPlace) (s t : ℕ) (o : Operation) (q : NewPlace) (h h' : Spot) → step X (at p s) o q ≡ Some h → step X (at p t) o q ≡ Some h' → h.place ≡ h'.place
  set_free p s t o q h h' d e = on_at _ (one_successor p s o q) d ∙ sym (on_at _ (one_successor p t o q) e)
