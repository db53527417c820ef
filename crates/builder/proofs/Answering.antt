-- What a build answers, in the form in which the code meets it. Assumes nothing.
use mathlib.Core.Path.{◌≡◌, sym, ap, subst, ◌∙◌}
use mathlib.Core.Bool.{Bool, true}
use mathlib.Core.List.{List}
use Rattle.std.specs.Prelude.{Option, None, Some, Ok, Err}
use Prim.Native.Nat.{ℕ}
use native.Mathlib.Omega.{arith}
use Rattle.base.specs.declared.Refusal.{Refusal}
use Rattle.base.specs.Says.{bool}
use Rattle.base.specs.Answers.{Answer}
use Rattle.base.proofs.Says.{says}
use Rattle.base.proofs.Tests.{T_true}
use Rattle.chart.proofs.Words.{Words}
use Rattle.chart.specs.Compared.{Compared, edition_named, heads_of}
use Rattle.chart.specs.Faults.{judged}
use Rattle.chart.specs.Faultless.{FaultlessChart}
use Rattle.chart.proofs.Faultless.{both-faultless}
use Rattle.records.specs.Records.{record_of}
use Rattle.checker.specs.Checks.{refusal as check_refusal}
use Rattle.graph.specs.Buffers.{Buffers, buffers}
use Rattle.graph.specs.inner.Sized.{Sized}
use Rattle.detector.specs.Turns.{explored}
use Rattle.condition.specs.declared.Summary.{Summary}
use Rattle.condition.specs.Builds.{finished, start_of, built, recorded, summary}
use Rattle.builder.proofs.Passing.{record_passes}
use Rattle.paper.specs.Returned.{Returned}
use Rattle.paper.proofs.Theorem.{demand_2}
use Rattle.builder.specs.Answers.{lent, refusal, answered, left}

-- ---- what is not refused
pub record Accepted (X : Compared) (g : Buffers) : Type 0 where
  pub sized : Sized g
  pub old-faultless : FaultlessChart X.old
  pub new-faultless : FaultlessChart X.new
  pub named : edition_named X.edition ≡ true
  pub none-due : refusal X g ≡ None

module _ (X : Compared) (g : Buffers) where
  pub accepted : refusal X g ≡ None → Accepted X g
  unfolding refusal
  accepted e =
      let a = both-faultless (bool (lent g)) X e in
      let z = says (lent g) (T_true a.0) in
      record {
        sized = record { marks = z.1.0; targets = z.1.1.0; sets = z.1.1.1; waiting = z.0 };
        old-faultless = a.1;
        new-faultless = a.2;
        named = a.3;
        none-due = e;
      }

  -- as the code comes upon it: by the lengths, and the judgement of both charts
  module _ {b : Bool} (l : b ≡ bool (lent g)) {o : Option Refusal} (e : o ≡ judged b X) where
    is-due : refusal X g ≡ o
    unfolding refusal
    is-due = sym (e ∙ ap (λ (b : Bool). judged b X) l)

    pub none-judged : o ≡ None → Accepted X g
    none-judged q = accepted (is-due ∙ q)

    pub some-judged : {r : Refusal} → o ≡ Some r → refusal X g ≡ Some r
    some-judged q = is-due ∙ q

-- ---- both algorithms
module _ (X : Compared) {m t s w : List ℕ} (a : buffers m t s w ≡ explored X) where
  pub both_left : {m₁ t₁ s₁ w₁ : List ℕ} → buffers m₁ t₁ s₁ w₁ ≡ finished (heads_of X) (buffers m t s w) → buffers m₁ t₁ s₁ w₁ ≡ built X
  unfolding built
  both_left b = b ∙ ap (finished (heads_of X)) a

  pub both_summed : (m₁ : List ℕ) {sm : Summary} → sm ≡ summary (start_of (heads_of X) m) m₁ → sm ≡ summary (recorded X).start m₁
  unfolding recorded
  both_summed m₁ d = d ∙ (λ i. summary (start_of (heads_of X) (a i).marks) m₁)

-- ---- a build
module _ (X : Compared) (g : Buffers) (A : Accepted X g) {m₁ t₁ s₁ w₁ : List ℕ} {sm : Summary}
    (b : buffers m₁ t₁ s₁ w₁ ≡ built X) (d : sm ≡ summary (recorded X).start m₁) where
  pub done_answers : Ok sm ≡ answered X g
  unfolding answered recorded
  done_answers = ap Ok d ∙ (λ i. Ok (summary (recorded X).start (b i).marks)) ∙ rw A.none-due

  pub done_leaves : buffers m₁ t₁ s₁ w₁ ≡ left X g
  unfolding left
  done_leaves = b ∙ rw (A.none-due, left)

  -- what is left, with the start that is answered, is the record of the build
  module _ (x : Summary) (e : ◌≡◌ {A = Answer Summary} (Ok sm) (Ok x)) where
    record_is : record_of x.start m₁ t₁ s₁ ≡ recorded X
    unfolding recorded summary
    record_is =
        let z : x ≡ sm = cc in
        let y : x.start ≡ (recorded X).start = ap (λ (q : Summary). q.start) (z ∙ d) in
        λ i. record_of (y i) (b i).marks (b i).targets (b i).sets

    pub done_passes : check_refusal X (record_of x.start m₁ t₁ s₁) ≡ None
    done_passes = ap (check_refusal X) record_is ∙ record_passes X A.old-faultless A.new-faultless A.named

    pub done_returned : Words X.old.table → Words X.new.table → Returned X (record_of x.start m₁ t₁ s₁)
    done_returned wo wn = subst (Returned X) (sym record_is) (demand_2 X A.old-faultless A.new-faultless wo wn)

-- ---- a refusal
module _ (X : Compared) (g : Buffers) {r : Refusal} (e : refusal X g ≡ Some r) where
  pub refused_answers : Err r ≡ answered X g
  unfolding answered
  refused_answers = rw e

  pub refused-leaves : g ≡ left X g
  unfolding left
  refused-leaves = rw (e, left)

pub never_done : {A : Type 0} (r : Refusal) (x : Summary) → ◌≡◌ {A = Answer Summary} (Err r) (Ok x) → A
never_done r x e = let z : ◌≡◌ {A = ℕ} 0 1 = cc in absurd (omega arith)
