-- The numbers of a build are small, and its refusals fit. Assumes nothing.
use mathlib.Core.Path.{◌≡◌, sym, subst, ◌∙◌}
use mathlib.Core.Logic.{⊎_elim}
use Rattle.std.specs.Prelude.{None, Ok, Err}
use Prim.Native.Nat.{ℕ, ◌≤◌}
use native.Mathlib.Omega.{arith}
use Rattle.base.specs.declared.Refusal.{Refusal}
use Rattle.base.specs.Says.{bool}
use Rattle.base.specs.Walks.{count}
use Rattle.base.specs.inner.Fits.{Fits, FitsOr}
use Rattle.base.proofs.Counts.{count_most}
use Rattle.base.proofs.Fits.{unless-fits}
use Rattle.base.proofs.OnSome.{OnSome}
use Rattle.chart.proofs.Bounds.{judged-fits}
use Rattle.chart.specs.Compared.{Compared}
use Rattle.records.specs.Records.{Record}
use Rattle.checker.specs.Rules.{start_fits}
use Rattle.checker.specs.Checks.{refusal as check_refusal}
use Rattle.checker.proofs.Passed.{lengths, passed}
use Rattle.graph.specs.Buffers.{Buffers}
use Rattle.condition.specs.declared.Summary.{Summary}
use Rattle.condition.specs.Builds.{recorded, summary}
use Rattle.base.specs.Answers.{Answer}
use Rattle.builder.specs.Answers.{lent, refusal, answered}
use Rattle.builder.specs.inner.Small.{Small}
use Rattle.builder.proofs.Passing.{record_passes}
use Rattle.builder.proofs.Answering.{accepted}

-- ---- a record that passes
module _ (X : Compared) (R : Record) (e : check_refusal X R ≡ None) where
  few_marked : (v : ℕ) → count v R.graph.marks ≤ 4160
  few_marked v = omega (arith, count_most v R.graph.marks, (lengths X R e).0)

  start_small : R.start ≤ 4160
  unfolding start_fits
  start_small = ⊎_elim (λ s. omega (arith, s.0)) (λ s. omega (arith, s.0)) (passed X R e).starts

  summary-small : Small (summary R.start R.graph.marks)
  unfolding summary
  summary-small = record { start = start_small; opened = few_marked 1; kept = few_marked 2; covered = few_marked 3 }

-- ---- a build
module _ (X : Compared) (g : Buffers) where
  -- whatever a build refuses
  pub refusal-fits : OnSome Fits (refusal X g)
  unfolding refusal
  refusal-fits = judged-fits (bool (lent g)) X

  -- whatever it answers
  pub build_fits : FitsOr Small (answered X g)
  unfolding answered
  build_fits =
      unless-fits Small (refusal X g) (summary (recorded X).start (recorded X).graph.marks) refusal-fits
      (λ e. let A = accepted X g e in summary-small X (recorded X) (record_passes X A.old-faultless A.new-faultless A.named))

  -- the case of it that the code comes upon
  module _ {b : Answer Summary} (is : b ≡ answered X g) where
    pub done_small : {s : Summary} → b ≡ Ok s → Small s
    done_small e = subst (FitsOr Small) (sym is ∙ e) build_fits

    pub refused-fits : {r : Refusal} → b ≡ Err r → Fits r
    refused-fits e = subst (FitsOr Small) (sym is ∙ e) build_fits
