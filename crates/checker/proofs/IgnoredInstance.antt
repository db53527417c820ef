-- The laws of Ignored are not empty: a record that passes with 65535 at a row that never holds, away from the old
-- alarm, and one with a covered pair for a target there, which passes too and covers no more. Assumes nothing.
use Rattle.std.proofs.Common.{◌≡◌, ℕ, zero, suc, ◌<◌, true, false, not, T, List, [], ◌∷◌, get_or, set, replicate, sym, refl, ap, ◌∙◌, subst, inl, inr, arith, get_or-set_other}
use mathlib.Core.Logic.{dite}
use Rattle.std.specs.Prelude.{None}
use native.Mathlib.Decide.{ℕ_discrete}
use lib.ListN.{get_or-replicate}
use Rattle.base.specs.Says.{Says, bool}
use Rattle.base.specs.Options as options
use Rattle.base.specs.Tests as tests
use Rattle.base.proofs.Says.{says}
use Rattle.base.proofs.Tests.{T_true}
use Rattle.operations.specs.Operations as operations
use Rattle.operations.specs.Trials as trials
use Rattle.operations.specs.Trials.{never_holds}
use Rattle.chart.specs.Charts.{Chart, size, operation, can_be_taken, leaving}
use Rattle.chart.specs.Charts as charts
use Rattle.chart.specs.Faultless.{FaultlessChart}
use Rattle.chart.specs.Faults as faults
use Rattle.chart.proofs.Faultless.{faultless}
use Rattle.chart.proofs.Takable.{takable, by_test}
use Rattle.chart.specs.Places.{new_of}
use Rattle.chart.specs.Compared.{Compared, both}
use Rattle.sets.specs.Sets as sets
use Rattle.align.specs.Reads as reads
use Rattle.align.specs.Steps as steps
use Rattle.records.specs.Records.{Record, record_of, index}
use Rattle.records.specs.Records as records
use Rattle.records.proofs.Reading.{ButNever}
use Rattle.checker.specs.Following.{nodes, covered}
use Rattle.checker.specs.Rules.{marks_fit, target_fits, targets_fit, shaped, start_fits, keeps, joins, joins_step, ranked, leads, row_fits}
use Rattle.checker.specs.Checks.{sized, refusal}
use Rattle.checker.proofs.Ignored.{ignored_by_check, ignored_by_following}
use Rattle.checker.proofs.Instance.{Marked, marks, is-marked, marks-so, words_of}
use Rattle.checker.proofs.Passes.{Rules, passes}

-- both charts, `2,1,2,0,0,0 0,1,18,0,0,0 0,1,21,0,0,0`: from the start to the alarm, by row 0 if v0 < 0, which never
-- holds, and by row 1 if v0 ≥ 0
abbrev pub C : Chart
C = record { head = record { places = 2; alarm = 1 }; table = 0 ∷ 1 ∷ 18 ∷ 0 ∷ 0 ∷ 0 ∷ 0 ∷ 1 ∷ 21 ∷ 0 ∷ 0 ∷ 0 ∷ [] }

abbrev pub X : Compared
X = both 1 C C

-- from the start by row 1 to the covered pair, and by row 0 nowhere; or to that pair too
pub targets : List ℕ
targets = set (replicate 8192 65535) 1 65

pub others : List ℕ
others = set targets 0 65

abbrev pub R : Record
R = record_of 0 marks targets (replicate 4096 0)

abbrev pub R' : Record
R' = record_of 0 marks others (replicate 4096 0)

-- ---- the first passes
row-never : never_holds (operation (leaving C.table 0) 0) ≡ true
unfolding charts.rows_where charts.leaving operations.kind operations.related operations.holds trials.seats trials.trial trials.shown trials.together trials.never_holds
row-never = refl

never-taken : can_be_taken (leaving C.table 0) 0 ≡ false
unfolding charts.rows_where charts.leaving
never-taken = by_test (leaving C.table 0) 0 (omega arith) ∙ ap not row-never

sized-so : Says (sized R.graph)
unfolding marks targets
sized-so = says (sized R.graph) tt

none-due : faults.refusal C ≡ None
unfolding faults.refusal options.first_of tests.some_below charts.rows_where charts.leaving faults.count_fault faults.alarm_fault faults.row_fault faults.clash faults.conflict_fault faults.rows_fault faults.fault operations.kind operations.operand_b operations.assigned_c operations.operand_c operations.operands_fit operations.reads operations.related operations.holds trials.seats trials.trial trials.shown trials.together
none-due = refl

sound : FaultlessChart C
sound = faultless C none-due

targets-so : (i : ℕ) → i < 8192 → Says (target_fits (get_or targets i 0))
unfolding targets
targets-so i l =
    dite (ℕ_discrete i 1) (λ a. rw a (inl (omega arith)))
    (λ a. inr (get_or-set_other (replicate 8192 65535) 1 i 65 0 a ∙ get_or-replicate 8192 i 65535 0 l))

row_at : (k : ℕ) → T (bool (row_fits X R.graph 0 (leaving C.table 0) k)) → Says (row_fits X R.graph 0 (leaving C.table 0) k)
row_at k = says (row_fits X R.graph 0 (leaving C.table 0) k)

rules_so : Rules X R.graph
unfolding Marked marks targets options.first_of charts.rows_where charts.leaving operations.kind operations.operand_b operations.operand_c operations.reads operations.same sets.alone sets.joined sets.meets sets.holds_all sets.set_of reads.read_set steps.find steps.along steps.matching steps.matched steps.onward steps.follow steps.followed steps.counterpart steps.assumed steps.moved steps.arrived steps.step keeps joins joins_step ranked leads row_fits
rules_so m k l h two can =
    elim (is-marked m h) [
      | inl e ↦ subst (λ (m : ℕ). Says (row_fits X R.graph m (leaving C.table (new_of m).0) k)) (sym e) (first k two (subst (λ (m : ℕ). can_be_taken (leaving C.table (new_of m).0) k ≡ true) e can))
      | inr (inl e) ↦ absurd (nowhere (subst (λ (m : ℕ). k < size (leaving C.table (new_of m).0)) e (takable _ k can).0))
      | inr (inr e) ↦ absurd (omega arith)
    ]
  where
    first : (k : ℕ) → k < 2 → can_be_taken (leaving C.table 0) k ≡ true → Says (row_fits X R.graph 0 (leaving C.table 0) k)
    first zero u c = absurd (T_true (sym never-taken ∙ c))
    first (suc zero) u c = row_at 1 tt
    first (suc (suc k)) u c = absurd (omega arith)

    nowhere : k < size (leaving C.table (new_of 65).0) → ⊥
    nowhere u = omega arith

pub first_passes : refusal X R ≡ None
unfolding shaped marks_fit targets_fit start_fits marks
first_passes =
    passes X R sized-so sound sound refl (inl refl, (marks-so, targets-so)) (inl (refl, (refl, inl (λ e. omega arith))))
    rules_so

-- ---- so does the second
alike : ButNever C.table targets others
unfolding others
alike m k l u =
    dite (ℕ_discrete (index m k) 0)
    (λ e. let z : m ≡ 0 = omega arith in let y : k ≡ 0 = omega arith in inr (rw (z, y) row-never))
    (λ n. inl (sym (get_or-set_other targets 0 (index m k) 65 0 n)))

others_so : (i : ℕ) → i < 8192 → Says (target_fits (get_or others i 0))
unfolding others targets
others_so i l =
    dite (ℕ_discrete i 0) (λ a. rw a (inl (omega arith)))
    (λ a. subst (λ (x : ℕ). Says (target_fits x)) (sym (get_or-set_other targets 0 i 65 0 a)) (targets-so i l))

pub second_passes : refusal X R' ≡ None
unfolding targets_fit targets others
second_passes = sym (ignored_by_check X 0 marks (replicate 4096 0) targets others alike refl targets-so others_so) ∙ first_passes

-- ---- neither covers row 0
pub not_covered : covered C R (0 ∷ []) ≡ false
unfolding marks targets charts.rows_where charts.leaving operations.kind operations.related operations.holds trials.seats trials.trial trials.shown trials.together trials.never_holds records.read_target nodes covered
not_covered = refl

pub second_not_covered : covered C R' (0 ∷ []) ≡ false
second_not_covered =
    sym (ignored_by_following C sound (words_of C.table tt) marks (replicate 4096 0) targets others alike 0 (0 ∷ []) (omega arith, tt))
    ∙ not_covered
