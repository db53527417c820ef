-- The rules for a target, test by test, as the code comes upon them. Assumes nothing.
use Rattle.std.proofs.Common.{◌≡◌, ℕ, ◌/◌, ◌%◌, ◌<◌, ◌≤◌, Bool, true, false, not, ◌&&◌, eqb, List, get_or, sym, refl, ap, ◌∙◌, subst, inl, inr, arith, le-ltb, lt-ltb, eq-eqb, ne_eqb}
use Rattle.std.specs.Prelude.{Option, None, Some}
use native.Mathlib.Decide.{ℕ_discrete, dec_lt}
use Rattle.base.specs.Options.{missing, first_of}
use Rattle.base.specs.Says.{bool, Says}
use Rattle.base.specs.Tests.{within}
use Rattle.base.proofs.OnSome.{on_at}
use Rattle.base.proofs.Options.{first_at_lem, none_of, none_everywhere}
use Rattle.base.proofs.Picks.{pick_true, pick_false}
use Rattle.base.proofs.Tests.{or_none, and_false}
use Rattle.operations.specs.declared.Operation.{Operation}
use Rattle.operations.specs.Operations.{is_known, operands_fit}
use Rattle.chart.specs.declared.places.OldPlace.{OldPlace}
use Rattle.chart.specs.declared.places.NewPlace.{NewPlace}
use Rattle.chart.specs.Charts.{Chart, size, to, operation, can_be_taken, leaving}
use Rattle.chart.specs.Compared.{Compared}
use Rattle.chart.specs.Faultless.{FaultlessChart}
use Rattle.chart.specs.Places.{pair_number, kept_number, old_of, new_of}
use Rattle.align.specs.declared.spots.Spot.{Spot}
use Rattle.sets.specs.Sets.{holds_all}
use Rattle.align.specs.Steps.{step}
use Rattle.align.proofs.Moves.{part_below, step-below}
use Rattle.chart.proofs.Parts.{part_right}
use Rattle.records.specs.Records.{Graph, mark, set_at, target, index}
use Rattle.checker.specs.Rules.{target_fits, keeps, joins, joins_step, rests_at, ranked, leads, row_fits, spot}
use Rattle.checker.specs.Checks.{target_fault, rows_fault, pair_fault}

-- a place is known by its number
abbrev placed : {q : NewPlace} {x : ℕ} → q.0 ≡ x → q ≡ record { 0 = x }
placed e = λ i. record { 0 = e i }

-- ---- kept
module _ (marks : List ℕ) (q : NewPlace) (t : ℕ) {n : ℕ} (e : n ≡ kept_number q) where
  pub keeps_not : (t ≡ n → ⊥) → false ≡ bool (keeps marks q t)
  unfolding keeps
  keeps_not h = rw (ne_eqb t (kept_number q) (λ z. h (z ∙ sym e)))

  pub keeps-marked : {r : Bool} → t ≡ n → r ≡ eqb (get_or marks t 0) 2 → r ≡ bool (keeps marks q t)
  unfolding keeps
  keeps-marked z h = rw (eq-eqb t (kept_number q) (z ∙ e)) h

-- ---- the pair of a spot
module _ (marks sets : List ℕ) (q : NewPlace) (t : ℕ) (h : Spot) {n : ℕ} (e : n ≡ pair_number h.place q) where
  pub joins_not : (t ≡ n → ⊥) → false ≡ bool (joins marks sets q t h)
  unfolding joins
  joins_not z = rw (ne_eqb t (pair_number h.place q) (λ y. z (y ∙ sym e)))

  pub joins_absent : t ≡ n → get_or marks t 0 ≡ 0 → false ≡ bool (joins marks sets q t h)
  unfolding joins
  joins_absent z m = rw (eq-eqb t (pair_number h.place q) (z ∙ e), eq-eqb (get_or marks t 0) 0 m)

  pub joins_holding : {r : Bool} → t ≡ n → (get_or marks t 0 ≡ 0 → ⊥) → r ≡ holds_all (get_or sets t 0) h.set → r ≡ bool (joins marks sets q t h)
  unfolding joins
  joins_holding z m k = rw (eq-eqb t (pair_number h.place q) (z ∙ e), ne_eqb (get_or marks t 0) 0 m) k

-- ---- at the old alarm
pub rests-none : (marks : List ℕ) (q : NewPlace) (t : ℕ) → t ≡ 65535 → true ≡ bool (rests_at marks q t)
unfolding rests_at
rests-none marks q t e = rw (eq-eqb t 65535 e)

module _ (marks : List ℕ) (q : NewPlace) (t : ℕ) {k : Bool} (Some : t ≡ 65535 → ⊥) (e : k ≡ bool (keeps marks q t)) where
  pub rests-kept : k ≡ true → true ≡ bool (rests_at marks q t)
  unfolding rests_at
  rests-kept u = rw (ne_eqb t 65535 Some, sym e ∙ u)

  pub rests_nowhere : k ≡ false → 4096 ≤ t → false ≡ bool (rests_at marks q t)
  unfolding rests_at
  rests_nowhere u l = rw (ne_eqb t 65535 Some, sym e ∙ u, le-ltb t 4096 l)

  -- the target is a pair of q exactly if its new place is q
  module _ {p : NewPlace} {a : Bool} (u : k ≡ false) (l : t < 4096) (f : p ≡ new_of t) (g : a ≡ eqb p.0 q.0) where
    of_q : eqb (t % 64) q.0 ≡ a
    of_q = sym (g ∙ ap (λ (p : NewPlace). eqb p.0 q.0) f)

    pub rests_present : a && not (eqb (get_or marks t 0) 0) ≡ bool (rests_at marks q t)
    unfolding rests_at
    rests_present = rw (ne_eqb t 65535 Some, sym e ∙ u, lt-ltb t 4096 l, of_q)

-- ---- marks in order
pub ranked-none : (marks : List ℕ) (m t : ℕ) → t ≡ 65535 → true ≡ bool (ranked marks m t)
unfolding ranked
ranked-none marks m t e = rw (eq-eqb t 65535 e)

module _ (marks : List ℕ) (m t : ℕ) {r : Bool} (Some : t ≡ 65535 → ⊥) where
  pub ranked_open : get_or marks m 0 ≡ 1 → r ≡ within 1 3 (get_or marks t 0) → r ≡ bool (ranked marks m t)
  unfolding ranked
  ranked_open e h = h ∙ sym (rw (ne_eqb t 65535 Some, eq-eqb (get_or marks m 0) 1 e) (or_none (within 1 3 (get_or marks t 0))))

  pub ranked-covered : (get_or marks m 0 ≡ 1 → ⊥) → r ≡ within 3 4 (get_or marks t 0) → r ≡ bool (ranked marks m t)
  unfolding ranked
  ranked-covered e h = rw (ne_eqb t 65535 Some, ne_eqb (get_or marks m 0) 1 e) h

-- ---- the aligned step
-- a row of the part that leaves a new place
module _ (new : Chart) (F : FaultlessChart new) {rows : List ℕ} (p k : ℕ) (e : rows ≡ leaving new.table p) (l : k < size rows) where
  pub row-right : (is_known (operation rows k) ≡ true) × (operands_fit (operation rows k) ≡ true)
  row-right = subst (λ (rows : List ℕ). (is_known (operation rows k) ≡ true) × (operands_fit (operation rows k) ≡ true)) (sym e) (part_right new p k F (subst (λ (rows : List ℕ). k < size rows) e l))

  pub row_below : {q : NewPlace} → q.0 ≡ to rows k → q.0 < 64
  row_below z = subst (λ (x : ℕ). x < 64) (sym (z ∙ ap (λ (rows : List ℕ). to rows k) e)) (part_below new F p k (subst (λ (rows : List ℕ). k < size rows) e l))

module _ (X : Compared) (G : Graph) (m : ℕ) (o : Operation) (x t : ℕ) {p : OldPlace} {a : Option Spot} (e : p ≡ old_of m)
    (s : a ≡ step X (record { place = p; set = set_at G m }) o (record { 0 = x })) where
  same_step : a ≡ step X (spot G m) o (record { 0 = x })
  same_step = s ∙ ap (λ (p : OldPlace). step X (record { place = p; set = set_at G m }) o (record { 0 = x })) e

  pub stepped_below : (h : Spot) → FaultlessChart X.old → m < 4096 → a ≡ Some h → h.place.0 < 64
  stepped_below h F l z = on_at _ (step-below X F (spot G m) o (record { 0 = x }) (omega arith)) (sym same_step ∙ z)

  pub joins_failed : a ≡ None → false ≡ joins_step G.marks G.sets (record { 0 = x }) t (step X (spot G m) o (record { 0 = x }))
  unfolding joins_step
  joins_failed z = ap (joins_step G.marks G.sets (record { 0 = x }) t) (sym (sym same_step ∙ z))

  pub joins_stepped : (h : Spot) {q : NewPlace} {r : Bool} → a ≡ Some h → q.0 ≡ x → r ≡ bool (joins G.marks G.sets q t h)
      → r ≡ joins_step G.marks G.sets (record { 0 = x }) t (step X (spot G m) o (record { 0 = x }))
  unfolding joins_step
  joins_stepped h {q} z w k =
      k ∙ ap (λ (q : NewPlace). bool (joins G.marks G.sets q t h)) (placed {q = q} {x = x} w)
      ∙ ap (joins_step G.marks G.sets (record { 0 = x }) t) (sym (sym same_step ∙ z))

-- ---- where the row may lead
module _ (X : Compared) (G : Graph) (m : ℕ) (o : Operation) (x t : ℕ) {p : OldPlace} {q : NewPlace} {a : Bool} (e : p ≡ old_of m)
    (d : a ≡ eqb p.0 X.old.head.alarm) (w : q.0 ≡ x) where
  alarm : eqb (m / 64) X.old.head.alarm ≡ a
  alarm = sym (d ∙ ap (λ (p : OldPlace). eqb p.0 X.old.head.alarm) e)

  pub leads_resting : {r : Bool} → a ≡ true → r ≡ bool (rests_at G.marks q t) → r ≡ bool (leads X G m o (record { 0 = x }) t)
  unfolding leads
  leads_resting u h = h ∙ ap (λ (q : NewPlace). bool (rests_at G.marks q t)) (placed {q = q} {x = x} w) ∙ sym (rw (alarm ∙ u) (or_none (bool (rests_at G.marks (record { 0 = x }) t))))

  module _ {k : Bool} (u : a ≡ false) (h : k ≡ bool (keeps G.marks q t)) where
    kept-so : bool (keeps G.marks (record { 0 = x }) t) ≡ k
    kept-so = sym (h ∙ ap (λ (q : NewPlace). bool (keeps G.marks q t)) (placed {q = q} {x = x} w))

    pub leads-kept : k ≡ true → true ≡ bool (leads X G m o (record { 0 = x }) t)
    unfolding leads
    leads-kept v = rw (alarm ∙ u, kept-so ∙ v)

    pub leads_stepped : {r : Bool} → k ≡ false → r ≡ joins_step G.marks G.sets (record { 0 = x }) t (step X (spot G m) o (record { 0 = x }))
        → r ≡ bool (leads X G m o (record { 0 = x }) t)
    unfolding leads
    leads_stepped v j = rw (alarm ∙ u, kept-so ∙ v) j

module _ (X : Compared) (G : Graph) (m : ℕ) (rows : List ℕ) (k : ℕ) {l : Bool} (e : l ≡ bool (leads X G m (operation rows k) (record { 0 = to rows k }) (target G m k))) where
  pub row_astray : l ≡ false → false ≡ bool (row_fits X G m rows k)
  unfolding row_fits
  row_astray u = rw (sym e ∙ u)

  pub row-ranked : {r : Bool} → l ≡ true → r ≡ bool (ranked G.marks m (target G m k)) → r ≡ bool (row_fits X G m rows k)
  unfolding row_fits
  row-ranked u h = rw (sym e ∙ u) h

-- ---- the fault of a target and of a pair
module _ (X : Compared) (G : Graph) (m : ℕ) (rows : List ℕ) (k : ℕ) where
  pub not_asked : can_be_taken rows k ≡ false → None ≡ target_fault X G m rows k
  unfolding target_fault
  not_asked n = rw n

  module _ {r : Bool} (e : r ≡ bool (row_fits X G m rows k)) where
    pub row_fine : r ≡ true → None ≡ target_fault X G m rows k
    unfolding target_fault
    row_fine u = rw (sym e ∙ u, and_false (can_be_taken rows k))

    pub row_fails : r ≡ false → can_be_taken rows k ≡ true → Some (index m k) ≡ target_fault X G m rows k
    unfolding target_fault
    row_fails u c = rw (c, sym e ∙ u)

pub part_of : (t : List ℕ) (m : ℕ) {q : NewPlace} {rows : List ℕ} → q ≡ new_of m → rows ≡ leaving t q.0 → rows ≡ leaving t (new_of m).0
part_of t m e h = h ∙ ap (λ (q : NewPlace). leaving t q.0) e

module _ (X : Compared) (G : Graph) (m : ℕ) where
  pub absent : mark G m ≡ 0 → None ≡ pair_fault X G m
  unfolding pair_fault
  absent e = sym (pick_true (eqb (mark G m) 0) None (rows_fault X G m (leaving X.new.table (new_of m).0)) (eq-eqb (mark G m) 0 e))

  pub present : {q : NewPlace} {rows : List ℕ} {r : Option ℕ} → (mark G m ≡ 0 → ⊥) → q ≡ new_of m → rows ≡ leaving X.new.table q.0
      → r ≡ rows_fault X G m rows → r ≡ pair_fault X G m
  unfolding pair_fault
  present n e h f =
      f ∙ ap (rows_fault X G m) (part_of X.new.table m e h)
      ∙ sym (pick_false (eqb (mark G m) 0) None (rows_fault X G m (leaving X.new.table (new_of m).0)) (ne_eqb (mark G m) 0 n))

pub node-below : (t : ℕ) → Says (target_fits t) → (t ≡ 65535 → ⊥) → t < 4160
node-below t (inl l) n = l
node-below t (inr e) n = absurd (n e)

-- what the walk over rows or pairs comes upon is the first
pub found_at : {A : Type 0} (f : ℕ → Option A) (n i : ℕ) {x : A} → i < n → first_of i f ≡ None → f i ≡ Some x
    → Some x ≡ first_of n f
found_at f n i {x} l e h = sym (first_at_lem f n i l e (ap missing h) ∙ h)

-- a pair's two rows, one after the other
pub both-rows : (X : Compared) (G : Graph) (m : ℕ) (rows : List ℕ) → first_of 2 (target_fault X G m rows) ≡ rows_fault X G m rows
unfolding first_of rows_fault
both-rows X G m rows = refl

-- the walk over the pairs: one that has no fault, and absent ones after it
pub passed_over : (X : Compared) (G : Graph) (m r : ℕ) → first_of m (pair_fault X G) ≡ None → pair_fault X G m ≡ None
    → ((i : ℕ) → m < i → i < r → mark G i ≡ 0) → first_of r (pair_fault X G) ≡ None
passed_over X G m r e h a = none_everywhere (pair_fault X G) r (λ i l. go i l (dec_lt i m) (ℕ_discrete i m))
  where
    go : (i : ℕ) → i < r → Dec (i < m) → Dec (i ≡ m) → pair_fault X G i ≡ None
    go i l (yes u) d = none_of (pair_fault X G) m i e u
    go i l (no n) (yes q) = rw q h
    go i l (no n) (no d) = sym (absent X G i (a i (omega arith) l))
