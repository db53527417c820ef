-- A record of which every part is as the check asks is passed. Assumes nothing.
use Rattle.std.proofs.Common.{◌≡◌, ℕ, ◌<◌, Bool, true, false, not, ◌&&◌, ◌≢◌, refl, arith, eq-eqb, ne_eqb}
use mathlib.Core.Logic.{dite}
use Rattle.std.specs.Prelude.{None}
use native.Mathlib.Decide.{ℕ_discrete}
use Rattle.base.specs.Options.{when}
use Rattle.base.specs.Says.{Test, bool, Says}
use Rattle.base.proofs.Options.{none_everywhere}
use Rattle.base.proofs.Says.{said}
use Rattle.base.proofs.Tests.{is_true}
use Rattle.chart.specs.Charts.{can_be_taken, leaving}
use Rattle.chart.specs.Compared.{Compared, edition_named, heads_of}
use Rattle.chart.specs.Faultless.{FaultlessChart}
use Rattle.chart.specs.Places.{new_of}
use Rattle.chart.proofs.Faultless.{none-judged}
use Rattle.records.specs.Records.{Graph, Record, mark, index}
use Rattle.checker.specs.Rules.{shaped, start_fits, row_fits}
use Rattle.checker.specs.Checks.{sized, target_fault, rows_fault, pair_fault, broken, rule_fault, record_fault, refusal}

-- a test passes where what it says is so
pub met : (t : Test) → Says t → bool t ≡ true
met t h = is_true (bool t) (said t h)

-- each row of each present pair, those that never hold aside, is as its rule says
abbrev pub Rules : Compared → Graph → Type 0
Rules X G =
    (m k : ℕ) → m < 4096 → mark G m ≢ 0 → k < 2 → can_be_taken (leaving X.new.table (new_of m).0) k ≡ true
    → Says (row_fits X G m (leaving X.new.table (new_of m).0) k)

module _ (X : Compared) (G : Graph) (rules : Rules X G) where
  row_off : (m k : ℕ) → m < 4096 → mark G m ≢ 0 → k < 2 → target_fault X G m (leaving X.new.table (new_of m).0) k ≡ None
  unfolding target_fault
  row_off m k b p c = go (can_be_taken (leaving X.new.table (new_of m).0) k) refl
    where
      fits : Test
      fits = row_fits X G m (leaving X.new.table (new_of m).0) k

      go : (t : Bool) → can_be_taken (leaving X.new.table (new_of m).0) k ≡ t → when (t && not (bool fits)) (index m k) ≡ None
      go true e = rw (met fits (rules m k b p c e))
      go false e = refl

  pair_off : (m : ℕ) → m < 4096 → pair_fault X G m ≡ None
  unfolding pair_fault rows_fault
  pair_off m b =
      dite (ℕ_discrete (mark G m) 0) (λ e. rw (eq-eqb (mark G m) 0 e, pair_fault))
      (λ e. rw (ne_eqb (mark G m) 0 e, pair_fault) (rw (row_off m 0 b e (omega arith), row_off m 1 b e (omega arith))))

module _ (X : Compared) (R : Record) where
  pub passes : Says (sized R.graph) → FaultlessChart X.old → FaultlessChart X.new → edition_named X.edition ≡ true
      → Says (shaped (heads_of X) R.start R.graph.marks R.graph.targets)
      → Says (start_fits (heads_of X) R.start R.graph.marks)
      → Rules X R.graph
      → refusal X R ≡ None
  unfolding refusal record_fault rule_fault broken
  passes z F H n sh st rules =
      rw (
        none-judged (bool (sized R.graph)) X (met (sized R.graph) z, F, H, n),
        met (shaped (heads_of X) R.start R.graph.marks R.graph.targets) sh,
        met (start_fits (heads_of X) R.start R.graph.marks) st,
        none_everywhere (pair_fault X R.graph) 4096 (λ m b. pair_off X R.graph rules m b),
      )
