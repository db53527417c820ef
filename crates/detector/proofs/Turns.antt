-- What a row comes to, case by case, and the pair that a turn takes. Assumes nothing.
use mathlib.Core.Path.{◌≡◌, refl, ap, ◌∙◌}
use mathlib.Core.Bool.{Bool, true, false, not}
use Rattle.std.specs.Prelude.{Option, None, Some}
use Prim.Native.Nat.{ℕ, ◌^◌, ◌≤◌, ◌<◌}
use native.Mathlib.Omega.{arith}
use borrow.Author.Tests.{eqb-false, eqb-true, not-true, not-false}
use lib.Dec.{eqb}
use lib.ListN.{length, get_or}
use Rattle.base.proofs.OnSome.{on_at}
use Rattle.base.proofs.Walks.{first-is, none_passes}
use Rattle.chart.specs.Charts.{size, operation, can_be_taken}
use Rattle.chart.specs.Compared.{Compared}
use Rattle.chart.specs.Faultless.{FaultlessChart}
use Rattle.chart.specs.Places.{pair_number, kept_number, old_of, new_of}
use Rattle.align.specs.declared.spots.Spot.{Spot}
use Rattle.graph.specs.Buffers.{Buffers, marked, keep, aim, join}
use Rattle.detector.specs.Turns.{rows_of, leads_to, lowest, next, set_now, step_of, arrived, processed, row_done}
use Rattle.align.proofs.Steps.{Fits, step_fits}
use Rattle.chart.proofs.Parts.{row-to, row-a}
use Rattle.chart.proofs.Takable.{takable}
use Rattle.graph.proofs.Graphs.{mark_at, set_at, wait_at, marked_yes, marked_no, is-marked, not_marked, Shaped}

module _ (X : Compared) (g : Buffers) (n v r : ℕ) where
  pub no_row : can_be_taken (rows_of X.new n) r ≡ false → row_done X g n v r ≡ g
  unfolding row_done
  no_row t = rw (t, row_done)

  pub a-row : can_be_taken (rows_of X.new n) r ≡ true → {o : Option Spot} → step_of X n v r ≡ o → row_done X g n v r ≡ processed X.old.head.alarm g n r (leads_to X.new n r) o
  unfolding row_done
  a-row t e = rw (t, row_done) (ap (processed X.old.head.alarm g n r (leads_to X.new n r)) e)

  fails_is : processed X.old.head.alarm g n r (leads_to X.new n r) None ≡ aim (keep g (leads_to X.new n r)) n r (kept_number (leads_to X.new n r))
  unfolding processed
  fails_is = refl

  kept-is : (h : Spot) → marked g.marks (kept_number (leads_to X.new n r)) ≡ true
      → processed X.old.head.alarm g n r (leads_to X.new n r) (Some h) ≡ aim g n r (kept_number (leads_to X.new n r))
  unfolding processed arrived
  kept-is h e = rw (e, arrived)

  joins-is : (h : Spot) → marked g.marks (kept_number (leads_to X.new n r)) ≡ false
      → processed X.old.head.alarm g n r (leads_to X.new n r) (Some h)
      ≡ aim (join X.old.head.alarm g (pair_number h.place (leads_to X.new n r)) h.set) n r (pair_number h.place (leads_to X.new n r))
  unfolding processed arrived
  joins-is h e = rw (e, arrived)

  -- there is no row that can be taken; or its step fails; or it leads to a place that is kept already; or to a pair
  pub by_row : (P : Buffers → Type 0)
      → (can_be_taken (rows_of X.new n) r ≡ false → P g)
      → (can_be_taken (rows_of X.new n) r ≡ true → step_of X n v r ≡ None → P (aim (keep g (leads_to X.new n r)) n r (kept_number (leads_to X.new n r))))
      → (can_be_taken (rows_of X.new n) r ≡ true → 0 < mark_at g (kept_number (leads_to X.new n r)) → P (aim g n r (kept_number (leads_to X.new n r))))
      → (can_be_taken (rows_of X.new n) r ≡ true → (h : Spot) → step_of X n v r ≡ Some h → mark_at g (kept_number (leads_to X.new n r)) ≡ 0
      → P (aim (join X.old.head.alarm g (pair_number h.place (leads_to X.new n r)) h.set) n r (pair_number h.place (leads_to X.new n r))))
      → P (row_done X g n v r)
  by_row P a b c d = go (can_be_taken (rows_of X.new n) r) refl (step_of X n v r) refl
    where
      there : can_be_taken (rows_of X.new n) r ≡ true → (h : Spot) → step_of X n v r ≡ Some h → (k : Bool) → marked g.marks (kept_number (leads_to X.new n r)) ≡ k → P (row_done X g n v r)
      there l h e true t = rw (a-row l e ∙ kept-is h t) (c l (is-marked g.marks (kept_number (leads_to X.new n r)) t))
      there l h e false t = rw (a-row l e ∙ joins-is h t) (d l h e (not_marked g.marks (kept_number (leads_to X.new n r)) t))

      go : (b : Bool) → can_be_taken (rows_of X.new n) r ≡ b → (o : Option Spot) → step_of X n v r ≡ o → P (row_done X g n v r)
      go false l o e = rw (no_row l) (a l)
      go true l None e = rw (a-row l e ∙ fails_is) (b l e)
      go true l (Some h) e = there l h e (marked g.marks (kept_number (leads_to X.new n r))) refl

-- ---- the pair in hand's set
module _ (g : Buffers) (n v : ℕ) where
  pub set_now_lem : 0 < mark_at g n → set_now g.marks g.sets n v ≡ set_at g n
  unfolding set_now
  set_now_lem l = rw (marked_yes g.marks n l, set_now)

  pub set_had : mark_at g n ≡ 0 → set_now g.marks g.sets n v ≡ v
  unfolding set_now
  set_had e = rw (marked_no g.marks n e, set_now)

  pub set_now_small : v < 2 ^ 64 → Shaped g → set_now g.marks g.sets n v < 2 ^ 64
  unfolding set_now
  set_now_small l S = go (marked g.marks n)
    where
      go : (b : Bool) → (elim b as (λ _. ℕ) [ true ↦ get_or g.sets n 0 | false ↦ v ]) < 2 ^ 64
      go true = S.small n
      go false = l

-- ---- what a step comes to
module _ (X : Compared) (F : FaultlessChart X.old) (G : FaultlessChart X.new) (n v r : ℕ) (can : can_be_taken (rows_of X.new n) r ≡ true) where
  there : r < size (rows_of X.new n)
  there = (takable (rows_of X.new n) r can).0

  pub leads-below : (leads_to X.new n r).0 < X.new.head.places
  leads-below = row-to X.new G (new_of n).0 r there

  pub step_of_fits : (b : ℕ) → X.old.head.places ≤ b → (old_of n).0 < b → v < 2 ^ 64 → (h : Spot) → step_of X n v r ≡ Some h → Fits b h
  unfolding step_of
  step_of_fits b w l k h e =
      on_at (Fits b)
      (step_fits X F b w (record { place = old_of n; set = v }) (operation (rows_of X.new n) r) (leads_to X.new n r) (row-a X.new G (new_of n).0 r there)
      (record { place = l; set = k })) e

-- ---- the pair that a turn takes
pub record Waiter (g : Buffers) (n : ℕ) : Type 0 where
  pub below : n < length g.waiting
  pub waits : 0 < wait_at g n

pub next-waits : (g : Buffers) (n : ℕ) → next g ≡ Some n → Waiter g n
unfolding next lowest
next-waits g n e =
    let f = first-is (λ i x. not (eqb x 0)) g.waiting n e in
    record { below = f.below; waits = (let z = eqb-false (wait_at g n) 0 (not-true _ f.passes) in omega arith) }

-- where there is no such pair, none waits
pub none-waits : (g : Buffers) → next g ≡ None → (k : ℕ) → k < length g.waiting → wait_at g k ≡ 0
unfolding next lowest
none-waits g e k l = eqb-true (wait_at g k) 0 (not-false _ (none_passes (λ i x. not (eqb x 0)) g.waiting e k l))
