-- Demand 3, both halves, of the definitions alone. The first: a run that reaches the new alarm and is covered by a record
-- that the check passes has a run of the old chart, from the same values, that reaches the old alarm. The second: the check
-- passes what a build leaves, whatever its buffers held; and no build is refused that has faultless charts, the stated
-- lengths and one of the two editions. Neither takes cases on the edition. The contracts of `checker::check` and
-- `builder::build` say each half of the code. Assumes nothing.
use mathlib.Core.Path.{◌≡◌, ap, ◌∙◌}
use mathlib.Core.Bool.{true}
use Rattle.std.specs.Prelude.{None, Ok}
use Rattle.base.specs.Says.{bool}
use Rattle.base.proofs.Says.{said}
use Rattle.base.proofs.Tests.{is_true}
use Rattle.chart.proofs.Words.{Words}
use Rattle.chart.specs.Compared.{Compared, edition_named}
use Rattle.chart.specs.Faultless.{FaultlessChart}
use Rattle.chart.proofs.Faultless.{none-judged}
use Rattle.records.specs.Records.{Record, record_of}
use Rattle.checker.specs.Checks.{refusal as check_refusal}
use Rattle.checker.specs.Promise.{Promise}
use Rattle.checker.proofs.Demand3.{demand_3_first}
use Rattle.graph.specs.Buffers.{Buffers}
use Rattle.graph.specs.inner.Sized.{Sized}
use Rattle.condition.specs.declared.Summary.{Summary}
use Rattle.condition.specs.Builds.{recorded, summary}
use Rattle.builder.proofs.Passing.{record_passes}
use Rattle.builder.specs.Answers.{lent, refusal, answered, left}
use Rattle.builder.proofs.Answering.{accepted}

pub first_half : (X : Compared) → Words X.old.table → Words X.new.table → (R : Record)
    → check_refusal X R ≡ None → Promise X R
first_half = demand_3_first

module _ (X : Compared) (g : Buffers) where
  -- what a build leaves in g, with the start s
  abbrev pub left_with : Summary → Record
  left_with s = record_of s.start (left X g).marks (left X g).targets (left X g).sets

  -- faultless charts and buffers of the stated lengths are not refused, in either edition
  pub never-refused : FaultlessChart X.old → FaultlessChart X.new → edition_named X.edition ≡ true → Sized g → refusal X g ≡ None
  unfolding refusal
  never-refused F H n S =
      none-judged (bool (lent g)) X
      (is_true (bool (lent g)) (said (lent g) (S.waiting, (S.marks, (S.targets, S.sets)))), F, H, n)

  -- where none is refused, a build answers, and what it leaves in g, with the start that it answers, the check passes
  module _ (e : refusal X g ≡ None) where
    abbrev Answers : Summary → Type 0
    Answers s = answered X g ≡ Ok s

    answers : (s : Summary) × Answers s × (left_with s ≡ recorded X)
    unfolding answered left recorded summary
    answers = (summary (recorded X).start (recorded X).graph.marks, rw e, rw (e, left))

    pub second_half : (s : Summary) × Answers s × (check_refusal X (left_with s) ≡ None)
    second_half =
        let a = answers in
        let A = accepted X g e in
        (a.0, a.1, ap (check_refusal X) a.2 ∙ record_passes X A.old-faultless A.new-faultless A.named)

    -- so it keeps the promise
    pub built_promises : Words X.old.table → Words X.new.table → (s : Summary) × Answers s × Promise X (left_with s)
    built_promises wo wn = let a = second_half in (a.0, a.1, first_half X wo wn (left_with a.0) a.2)
