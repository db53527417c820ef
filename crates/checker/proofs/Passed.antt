-- What a record is known by for which no refusal is due. Assumes nothing.
use Rattle.std.proofs.Common.{◌≡◌, ℕ, zero, suc, ◌<◌, true, not, ◌≢◌, List, refl, arith, ne_eqb}
use Rattle.std.specs.Prelude.{Option, None, Some}
use native.Mathlib.Decide.{dec_lt}
use borrow.Author.Tests.{not-false}
use lib.ListN.{get_or-eq_default}
use Rattle.base.specs.Options.{when, first_of}
use Rattle.base.specs.Says.{Test, bool, Says}
use Rattle.base.proofs.Options.{both-missing, not_due, none_of}
use Rattle.base.proofs.Says.{says}
use Rattle.base.proofs.Tests.{T_true, not_both}
use Rattle.chart.specs.Charts.{can_be_taken, leaving}
use Rattle.chart.specs.Compared.{Compared, edition_named, heads_of}
use Rattle.chart.specs.Faults.{judged}
use Rattle.chart.specs.Faultless.{FaultlessChart}
use Rattle.chart.specs.Places.{new_of}
use Rattle.chart.proofs.Faultless.{both-faultless}
use Rattle.records.specs.Records.{Record, mark}
use Rattle.checker.specs.Rules.{mark_fits, marks_fit, shaped, start_fits, row_fits}
use Rattle.checker.specs.Checks.{sized, rule_at, target_fault, rows_fault, pair_fault, broken, rule_fault, record_fault, refusal}

pub record Passed (X : Compared) (R : Record) : Type 0 where
  pub old-faultless : FaultlessChart X.old
  pub new-faultless : FaultlessChart X.new
  pub starts : Says (start_fits (heads_of X) R.start R.graph.marks)
  pub marked : (n : ℕ) → mark R.graph n ≢ 0 → n < 4160
  pub marks : (n : ℕ) → n < 4160 → Says (mark_fits (heads_of X) n (mark R.graph n))
  pub rules : (m k : ℕ) → m < 4096 → mark R.graph m ≢ 0 → k < 2 → can_be_taken (leaving X.new.table (new_of m).0) k ≡ true
      → Says (row_fits X R.graph m (leaving X.new.table (new_of m).0) k)

no_rule : (o : Option ℕ) → rule_at o ≡ None → o ≡ None
no_rule None e = refl
no_rule (Some i) e = let z : ◌≡◌ {A = ℕ} 0 1 = cc in absurd (omega arith)

-- a test whose failure is not due has passed
passed_test : {A : Type 0} (t : Test) (r : A) → when (not (bool t)) r ≡ None → Says t
passed_test t r e = says t (T_true (not-false (bool t) (not_due (not (bool t)) r e)))

module _ (X : Compared) (R : Record) (e : refusal X R ≡ None) where
  abbrev shape : Test
  shape = shaped (heads_of X) R.start R.graph.marks R.graph.targets

  abbrev begins : Test
  begins = start_fits (heads_of X) R.start R.graph.marks

  judged_parts : (judged (bool (sized R.graph)) X ≡ None) × (record_fault X R ≡ None)
  unfolding refusal
  judged_parts = both-missing (judged (bool (sized R.graph)) X) (record_fault X R) e

  charts : (bool (sized R.graph) ≡ true) × FaultlessChart X.old × FaultlessChart X.new × (edition_named X.edition ≡ true)
  charts = both-faultless (bool (sized R.graph)) X judged_parts.0

  pub lengths : Says (sized R.graph)
  lengths = says (sized R.graph) (T_true charts.0)

  parts : Says shape × Says begins × (first_of 4096 (pair_fault X R.graph) ≡ None)
  unfolding record_fault rule_fault broken
  parts =
      let a = both-missing _ (rule_fault X R) judged_parts.1 in
      let b = both-missing (when (not (bool begins)) 8192) (first_of 4096 (pair_fault X R.graph)) (no_rule (broken X R) a.1) in
      (passed_test shape _ a.0, passed_test begins _ b.0, b.1)

  -- past the record's marks there is none
  below_end : (n : ℕ) → mark R.graph n ≢ 0 → n < 4160
  below_end n h = elim (dec_lt n 4160) [ yes l ↦ l | no l ↦ absurd (h (get_or-eq_default R.graph.marks 0 {n = n} (omega (arith, lengths.0)))) ]

  target_passed : (m k : ℕ) (rows : List ℕ) → can_be_taken rows k ≡ true → target_fault X R.graph m rows k ≡ None → Says (row_fits X R.graph m rows k)
  unfolding target_fault
  target_passed m k rows l t = says (row_fits X R.graph m rows k) (T_true (not_both (can_be_taken rows k) (bool (row_fits X R.graph m rows k)) (not_due _ _ t) l))

  pair_passed : (m : ℕ) → m < 4096 → mark R.graph m ≢ 0 → rows_fault X R.graph m (leaving X.new.table (new_of m).0) ≡ None
  unfolding pair_fault
  pair_passed m l n = let t : pair_fault X R.graph m ≡ None = none_of (pair_fault X R.graph) 4096 m parts.2 l in rw (ne_eqb (mark R.graph m) 0 n, pair_fault) at t

  row_passed : (m k : ℕ) → m < 4096 → mark R.graph m ≢ 0 → k < 2 → can_be_taken (leaving X.new.table (new_of m).0) k ≡ true → Says (row_fits X R.graph m (leaving X.new.table (new_of m).0) k)
  unfolding rows_fault
  row_passed m zero l n u i = target_passed m 0 _ i (both-missing (target_fault X R.graph m (leaving X.new.table (new_of m).0) 0) _ (pair_passed m l n)).0
  row_passed m (suc zero) l n u i = target_passed m 1 _ i (both-missing (target_fault X R.graph m (leaving X.new.table (new_of m).0) 0) _ (pair_passed m l n)).1
  row_passed m (suc (suc k)) l n u i = absurd (omega arith)

  pub passed : Passed X R
  unfolding shaped marks_fit
  passed =
      record {
        old-faultless = charts.1;
        new-faultless = charts.2;
        starts = parts.1;
        marked = below_end;
        marks = parts.0.1.0;
        rules = row_passed;
      }
