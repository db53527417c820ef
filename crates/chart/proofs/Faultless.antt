-- A chart has no fault exactly where it is as Faultless.antt says. Assumes nothing.
use mathlib.Core.Path.{◌≡◌, sym, ◌∙◌}
use mathlib.Core.Bool.{Bool, true, false, ◌&&◌, not}
use mathlib.Core.Logic.{◌↔◌}
use Rattle.std.specs.Prelude.{Option, None}
use Prim.Native.Nat.{ℕ, zero, suc, ◌+◌, ◌-◌, ◌≤◌, ◌<◌}
use native.Mathlib.Nat.{add-suc, add-zero, add-sub_of_le, le_refl}
use native.Mathlib.Decide.{ℕ_discrete}
use native.Mathlib.Omega.{arith}
use borrow.Author.Tests.{eq-eqb, ne_eqb, eqb-true, eqb-false, lt-leb, leb-false, le-ltb, ltb-false, not-false}
use lib.Dec.{eqb, leb, ltb}
use Rattle.base.specs.Options.{when, missing, first_of}
use Rattle.base.specs.Refusals.{due_in, due}
use Rattle.base.proofs.Options.{missing-none, both-missing, not_due, none_of, none_if, none_everywhere}
use Rattle.base.proofs.Tests.{and_true, or_false, not_both, none_below, none-below_at}
use Rattle.operations.specs.Operations.{is_known, is_assumption}
use Rattle.chart.specs.Charts.{Chart, size, from, operation}
use Rattle.chart.specs.Compared.{Compared, edition_named}
use Rattle.chart.specs.Faults.{lacks, strays, from_before, descends, clash, whole, count_fault, alarm_fault, row_fault, conflict_fault, rows_fault, fault, refusal, judged}
use Rattle.chart.specs.Faultless.{FaultlessRow, Apart, FaultlessChart}
use Rattle.chart.specs.Lookup.{open_to}
use Rattle.chart.specs.inner.Ascending.{Ascending}
use Rattle.chart.specs.inner.Index.{Indexable}
use Rattle.chart.specs.inner.Faulty.{faulty}
use Rattle.chart.proofs.Faults.{rows_by}

-- ---- from the tests to what they say
pub faultless-row : (k : ℕ) (C : Chart) (i : ℕ) → row_fault k C i ≡ None → FaultlessRow C i
unfolding row_fault
faultless-row k C i e =
    let a = both-missing (due_in k (strays C i) 4 i) _ e in
    let b = both-missing (due_in k (descends C.table i) 5 i) _ a.1 in
    let c = both-missing (due_in k (not (is_known (operation C.table i))) 6 i) _ b.1 in
    let near = or_false (leb C.head.places (from C.table i)) _ (not_due _ _ a.0) in
    record {
      from-below = leb-false _ _ near.0;
      to_below = leb-false _ _ near.1;
      ascends = ltb-false _ _ (not_due _ _ b.0);
      known = not-false _ (not_due _ _ c.0);
      fit = not-false _ (not_due _ _ c.1);
    }

-- rows none of which is below the one before it stand by ascending "from"
pub ascending : (C : Chart) → ((i : ℕ) → i < size C.table → FaultlessRow C i) → Ascending C.table
ascending C R = record { order = λ i j l u. (let r = rise i (j - i) (omega arith) in rw (add-sub_of_le l) at r) }
  where
    rise : (i d : ℕ) → i + d < size C.table → from C.table i ≤ from C.table (i + d)
    rise i zero l = rw add-zero (le_refl (from C.table i))
    rise i (suc d) l =
        let r = rise i d (omega arith) in
        let s = (R (suc (i + d)) (omega arith)).ascends in
        rw add-suc (omega arith)

-- so do those among which no fault 4 to 7 is found
pub unfound : (C : Chart) {o : Option ℕ} → o ≡ first_of (size C.table) (λ i. when (faulty C i) i) → o ≡ None → Ascending C.table
unfound C e q = ascending C (λ i l. faultless-row 0 C i (none_of (row_fault 0 C) (size C.table) i (rows_by 0 C (sym q ∙ e)) l))

-- rows of one place that do not clash are apart
apart-rows : (C : Chart) (i j : ℕ) → clash C.table i j ≡ false → from C.table j ≡ from C.table i → Apart C i j
unfolding clash
apart-rows C i j e s =
    let h = not_both (eqb (from C.table j) (from C.table i)) _ e (eq-eqb _ _ s) in
    let a = and_true (is_assumption (operation C.table j)) _ h in
    let b = and_true (is_assumption (operation C.table i)) _ a.1 in
    record { earlier = a.0; later = b.0; one = b.1 }

module _ (k : ℕ) (C : Chart) (w : whole C.table ≡ true) (e : fault k C ≡ None) where
  parts : (count_fault k C ≡ None) × (alarm_fault k C ≡ None)
      × (first_of (size C.table) (row_fault k C) ≡ None) × (first_of (size C.table) (conflict_fault k C.table) ≡ None)
  unfolding fault rows_fault
  parts =
      let a = both-missing (count_fault k C) _ e in
      let b = both-missing (alarm_fault k C) _ a.1 in
      let c = both-missing (first_of (size C.table) (row_fault k C)) _ b.1 in
      (a.0, b.0, c.0, c.1)

  unfaulted : FaultlessChart C
  unfolding count_fault alarm_fault conflict_fault
  unfaulted =
      let a = both-missing (due_in k (lacks C) 1 0) _ parts.0 in
      let none-missing = or_false (eqb C.head.places 0) _ (not_due _ _ a.0) in
      let none-many = or_false (ltb 64 C.head.places) _ (not_due _ _ a.1) in
      let p : C.head.places ≡ 0 → ⊥ = eqb-false _ _ none-missing.0 in
      let r : size C.table ≡ 0 → ⊥ = eqb-false _ _ none-missing.1 in
      record {
        whole = eqb-true _ _ w;
        some_places = omega arith;
        few_places = ltb-false _ _ none-many.0;
        some-rows = omega arith;
        few_rows = ltb-false _ _ none-many.1;
        alarm_below = leb-false _ _ (not_due _ _ parts.1);
        rows = λ i l. faultless-row k C i (none_of (row_fault k C) (size C.table) i parts.2 l);
        apart = λ i j h l s. apart-rows C i j (none-below_at (clash C.table i) i j (not_due _ _ (none_of (conflict_fault k C.table) (size C.table) i parts.3 l)) h) s;
      }

pub faultless : (C : Chart) → refusal C ≡ None → FaultlessChart C
unfolding refusal
faultless C e =
    let a = both-missing (due (not (whole C.table)) 21 0) (fault 0 C) e in
    unfaulted 0 C (not-false _ (not_due _ _ a.0)) a.1

pub ascends : (C : Chart) → FaultlessChart C → Ascending C.table
ascends C F = ascending C F.rows

-- ---- and back
module _ (C : Chart) where
  row-none : (k i : ℕ) → FaultlessRow C i → row_fault k C i ≡ None
  unfolding row_fault
  row-none k i R =
      rw (
        lt-leb _ _ R.from-below,
        lt-leb _ _ R.to_below,
        le-ltb (from C.table i) (from_before C.table i) R.ascends,
        R.known,
        R.fit,
      )

  no_clash : (i j : ℕ) → (from C.table j ≡ from C.table i → Apart C i j) → clash C.table i j ≡ false
  unfolding clash
  no_clash i j h =
      elim (ℕ_discrete (from C.table j) (from C.table i)) [
        | yes e ↦ (let A = h e in rw (eq-eqb _ _ e, A.earlier, A.later, A.one))
        | no n ↦ rw (ne_eqb _ _ n)
      ]

  module _ (F : FaultlessChart C) where
    is_whole : whole C.table ≡ true
    is_whole = eq-eqb _ _ F.whole

    pub no_fault : (k : ℕ) → fault k C ≡ None
    unfolding fault count_fault alarm_fault rows_fault conflict_fault
    no_fault k =
        rw (
          ne_eqb C.head.places 0 (let l = F.some_places in λ e. omega arith),
          ne_eqb (size C.table) 0 (let l = F.some-rows in λ e. omega arith),
          le-ltb 64 C.head.places F.few_places,
          le-ltb 128 (size C.table) F.few_rows,
          lt-leb C.head.places C.head.alarm F.alarm_below,
          none_everywhere (row_fault k C) (size C.table) (λ i l. row-none k i (F.rows i l)),
        )
        (none_everywhere (conflict_fault k C.table) (size C.table)
        (λ i l. none_if _ _ (none_below (clash C.table i) i (λ j h. no_clash i j (F.apart i j h l)))))

    pub no_refusal : refusal C ≡ None
    unfolding refusal
    no_refusal = rw is_whole (no_fault 0)

  -- no refusal is due exactly where the chart is faultless
  pub faultless_exactly : (refusal C ≡ None) ↔ FaultlessChart C
  faultless_exactly = (faultless C, no_refusal)

-- ---- two charts
module _ (lent : Bool) (X : Compared) where
  pub none-judged : (lent ≡ true) × FaultlessChart X.old × FaultlessChart X.new × (edition_named X.edition ≡ true) → judged lent X ≡ None
  unfolding judged
  none-judged (l, F, H, n) = rw (l, n, is_whole X.old F, is_whole X.new H, no_fault X.old F 0) (no_fault X.new H 1)

  pub both-faultless : judged lent X ≡ None → (lent ≡ true) × FaultlessChart X.old × FaultlessChart X.new × (edition_named X.edition ≡ true)
  unfolding judged
  both-faultless e =
      let a = both-missing (due (not (lent && (edition_named X.edition && (whole X.old.table && whole X.new.table)))) 21 0) _ e in
      let b = both-missing (fault 0 X.old) (fault 1 X.new) a.1 in
      let l = and_true lent _ (not-false _ (not_due _ _ a.0)) in
      let n = and_true (edition_named X.edition) _ l.1 in
      let w = and_true (whole X.old.table) (whole X.new.table) n.1 in
      (l.0, unfaulted 0 X.old w.0 b.0, unfaulted 1 X.new w.1 b.1, n.0)

  -- none is due exactly where the lengths are the stated ones, both charts are faultless and the edition is one of the two
  pub judged_exactly : (judged lent X ≡ None) ↔ ((lent ≡ true) × FaultlessChart X.old × FaultlessChart X.new × (edition_named X.edition ≡ true))
  judged_exactly = (both-faultless, none-judged)

-- the rows of a faultless chart can be indexed
pub indexable : (C : Chart) → FaultlessChart C → Indexable C.table
indexable C F =
    record {
      ascending = ascends C F;
      few_rows = F.few_rows;
      few_places = λ i l. omega (arith, (F.rows i l).from-below, F.few_places);
    }

-- a place that lookup opens is one of a faultless chart
pub opened : (C : Chart) (p : ℕ) → open_to C p ≡ true → Ascending C.table
unfolding open_to
opened C p e =
    ascends C (faultless C (missing-none (refusal C) (and_true (missing (refusal C)) (ltb p C.head.places) e).0))
