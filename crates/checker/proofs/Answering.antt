-- The refusal that is due, step by step, as the code comes upon it. Assumes nothing.
use Rattle.std.proofs.Common.{◌≡◌, ℕ, Bool, true, false, sym, refl, ap, ◌∙◌}
use Rattle.std.specs.Prelude.{Option, None, Some, Ok, Err, IsOk}
use Rattle.std.specs.Result.{result_err}
use Rattle.base.specs.Answers.{Answer}
use Rattle.base.specs.Options.{first_of}
use Rattle.base.specs.declared.Refusal.{Refusal}
use Rattle.base.specs.Refusals.{sole}
use Rattle.base.specs.Says.{bool, Says}
use Rattle.base.proofs.Says.{says}
use Rattle.base.proofs.Tests.{T_true, and_true}
use Rattle.chart.proofs.Words.{Words}
use Rattle.chart.specs.Faultless.{FaultlessChart}
use Rattle.chart.specs.Faults.{judged}
use Rattle.chart.proofs.Faultless.{both-faultless}
use Rattle.records.specs.Records.{Record}
use Rattle.checker.specs.Rules.{start_named, marks_fit, targets_fit, shaped, start_fits}
use Rattle.checker.specs.Checks.{sized, rule_at, pair_fault, broken, rule_fault, record_fault, refusal}
use Rattle.checker.specs.Promise.{Promise}
use Rattle.checker.proofs.Demand3.{demand_3_first}
use Rattle.chart.specs.Compared.{Compared, heads_of}

module _ (X : Compared) (R : Record) where
  -- ---- refusal 32
  module _ {b : Bool} (e : b ≡ bool (start_fits (heads_of X) R.start R.graph.marks)) where
    pub start-broken : b ≡ false → Some 8192 ≡ broken X R
    unfolding broken
    start-broken u = rw (sym e ∙ u)

    pub targets-judged : {r : Option ℕ} → b ≡ true → r ≡ first_of 4096 (pair_fault X R.graph) → r ≡ broken X R
    unfolding broken
    targets-judged u h = rw (sym e ∙ u) h

  -- ---- refusal 31
  module _ {b : Bool} (e : b ≡ bool (shaped (heads_of X) R.start R.graph.marks R.graph.targets)) where
    pub shape_refused : b ≡ false → Some (sole 31 0) ≡ record_fault X R
    unfolding record_fault
    shape_refused u = rw (sym e ∙ u) refl

    pub rules_judged : {r : Option ℕ} → b ≡ true → r ≡ broken X R → rule_at r ≡ record_fault X R
    unfolding record_fault rule_fault
    rules_judged u h = rw (sym e ∙ u) (ap rule_at h)

    -- what the rules are judged upon
    pub fitting : b ≡ true → bool (targets_fit R.graph.targets) ≡ true
    unfolding shaped
    fitting u =
        (and_true (bool (marks_fit (heads_of X) R.graph.marks)) _
        (and_true (bool (start_named (heads_of X) R.start)) _ (sym e ∙ u)).1).1

  -- ---- 21, and the charts
  module _ {b : Bool} (l : b ≡ bool (sized R.graph)) {o : Option Refusal} (e : o ≡ judged b X) where
    charts : o ≡ judged (bool (sized R.graph)) X
    charts = e ∙ ap (λ (b : Bool). judged b X) l

    pub charts_refused : {r : Refusal} → o ≡ Some r → Some r ≡ refusal X R
    unfolding refusal
    charts_refused q = rw (sym charts ∙ q)

    module _ (q : o ≡ None) where
      none-due : judged (bool (sized R.graph)) X ≡ None
      none-due = sym charts ∙ q

      pub accepted : FaultlessChart X.old × FaultlessChart X.new × Says (sized R.graph)
      accepted =
          let a = both-faultless (bool (sized R.graph)) X none-due in
          (a.1, a.2, says (sized R.graph) (T_true a.0))

      pub record_judged : {r : Option Refusal} → r ≡ record_fault X R → r ≡ refusal X R
      unfolding refusal
      record_judged h = rw none-due h

  -- ---- the answer with its promise
  pub promised : {A : Type 0} (a : Answer A) → Words X.old.table → Words X.new.table → result_err a ≡ refusal X R
      → IsOk a → Promise X R
  promised (Ok x) ow nw e t = demand_3_first X ow nw R (sym e)
  promised (Err r) ow nw e t = absurd (T_true t)
