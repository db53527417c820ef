-- PROCESS in the form in which the code meets it. Assumes nothing.
use mathlib.Core.Path.{◌≡◌, sym, ap, ◌∙◌}
use mathlib.Core.Bool.{Bool, true, false}
use mathlib.Core.List.{List}
use Rattle.std.specs.Prelude.{Option, None, Some}
use Prim.Native.Nat.{ℕ, ◌<◌}
use native.Mathlib.Omega.{arith}
use Rattle.chart.specs.declared.places.NewPlace.{NewPlace}
use Rattle.chart.specs.Places.{pair_number, kept_number}
use Rattle.align.specs.declared.spots.Spot.{Spot}
use Rattle.words.specs.inner.Words.{added}
use Rattle.graph.specs.Buffers.{Buffers, buffers, marked, keep, aim, due, join}
use Rattle.graph.specs.inner.Sized.{Sized}
use Rattle.graph.specs.inner.Tracks.{Tracks, listed_if}
use Rattle.graph.proofs.Tracking.{keep-tracks, aim-tracks, join-tracks}
use Rattle.detector.specs.Turns.{arrived, processed}

module _ (alarm n r : ℕ) (m t s w : List ℕ) (q : NewPlace) where
  pub came_is : {g : Buffers} {h : Spot} {came : Option Spot} → came ≡ Some h → g ≡ arrived alarm (buffers m t s w) n r q h
      → g ≡ processed alarm (buffers m t s w) n r q came
  unfolding processed
  came_is c a = a ∙ rw c

  failed_is : {m' t' s' w' t'' : List ℕ} {k : ℕ} {came : Option Spot} → came ≡ None
      → buffers m' t' s' w' ≡ keep (buffers m t s w) q → k ≡ kept_number q → ((s w : List ℕ) → buffers m' t'' s w ≡ aim (buffers m' t' s w) n r k)
      → buffers m' t'' s' w' ≡ processed alarm (buffers m t s w) n r q came
  unfolding processed
  failed_is {s' = s'} {w' = w'} c a k b = b s' w' ∙ (λ i. aim (a i) n r (k i)) ∙ rw c

  kept-is : (h : Spot) {t'' : List ℕ} {k : ℕ} {b : Bool} → k ≡ kept_number q → b ≡ marked m k → b ≡ true
      → ((s w : List ℕ) → buffers m t'' s w ≡ aim (buffers m t s w) n r k) → buffers m t'' s w ≡ arrived alarm (buffers m t s w) n r q h
  unfolding arrived
  kept-is h k b e a = a s w ∙ (λ i. aim (buffers m t s w) n r (k i)) ∙ rw (ap (marked m) (sym k) ∙ sym b ∙ e, arrived)

  joins-is : (h : Spot) {m' s' w' t'' : List ℕ} {k p : ℕ} {b : Bool} → k ≡ kept_number q → b ≡ marked m k → b ≡ false
      → p ≡ pair_number h.place q → ((t : List ℕ) → buffers m' t s' w' ≡ join alarm (buffers m t s w) p h.set)
      → ((s w : List ℕ) → buffers m' t'' s w ≡ aim (buffers m' t s w) n r p) → buffers m' t'' s' w' ≡ arrived alarm (buffers m t s w) n r q h
  unfolding arrived
  joins-is h {s' = s'} {w' = w'} k b e p j a =
      a s' w' ∙ (λ i. aim (j t i) n r (p i)) ∙ (λ i. aim (join alarm (buffers m t s w) (p i) h.set) n r (pair_number h.place q)) ∙ rw (ap (marked m) (sym k) ∙ sym b ∙ e, arrived)

  -- the same, with who waits and who was seen
  module _ {l seen : List ℕ} (x : n < 4096) (y : r < 2) (z : q.0 < 64) (S : Sized (buffers m t s w))
      (K : Tracks l seen (buffers m t s w)) where
    pub process_fails : {m' t' s' w' t'' : List ℕ} {k : ℕ} {came : Option Spot} → came ≡ None
        → buffers m' t' s' w' ≡ keep (buffers m t s w) q → k ≡ kept_number q → ((s w : List ℕ) → buffers m' t'' s w ≡ aim (buffers m' t' s w) n r k)
        → Tracks l seen (buffers m' t'' s' w') × (buffers m' t'' s' w' ≡ processed alarm (buffers m t s w) n r q came)
    process_fails {m'} {t'} {s'} {w'} {t''} {k} c a e b = (
      rw (b s' w') (aim-tracks (buffers m' t' s' w') n r k x y (rw a (keep-tracks (buffers m t s w) q S z K))),
      failed_is c a e b,
    )

    pub arrive_kept : (h : Spot) {t'' : List ℕ} {k : ℕ} {b : Bool} → k ≡ kept_number q → b ≡ marked m k → b ≡ true
        → ((s w : List ℕ) → buffers m t'' s w ≡ aim (buffers m t s w) n r k)
        → Tracks l seen (buffers m t'' s w) × (buffers m t'' s w ≡ arrived alarm (buffers m t s w) n r q h)
    arrive_kept h {k = k} d b e a = (rw (a s w) (aim-tracks (buffers m t s w) n r k x y K), kept-is h d b e a)

    pub arrive_joins : (h : Spot) {m' s' w' t'' l' seen' : List ℕ} {k p : ℕ} {b : Bool} → h.place.0 < 64
        → k ≡ kept_number q → b ≡ marked m k → b ≡ false → p ≡ pair_number h.place q
        → ((l' ≡ listed_if (due alarm m s p h.set) l p) × (seen' ≡ added seen p))
        × ((t : List ℕ) → buffers m' t s' w' ≡ join alarm (buffers m t s w) p h.set)
        → ((s w : List ℕ) → buffers m' t'' s w ≡ aim (buffers m' t s w) n r p)
        → Tracks l' seen' (buffers m' t'' s' w') × (buffers m' t'' s' w' ≡ arrived alarm (buffers m t s w) n r q h)
    arrive_joins h {m' = m'} {s' = s'} {w' = w'} {p = p} o d b e f ((u, v), j) a = (
      rw (a s' w')
          (aim-tracks (buffers m' t s' w') n r p x y (rw (j t) (join-tracks alarm (buffers m t s w) p h.set S (omega arith) K u v))),
      joins-is h d b e f j a,
    )
