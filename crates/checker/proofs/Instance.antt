-- The promise is not empty: a small record, made by hand, that the check passes; a run that reaches the new alarm and
-- is covered, so that there is an old run; one that is not covered; and a list of rows that is no run. Assumes nothing.
use Rattle.std.proofs.Common.{◌≡◌, ℕ, zero, suc, ◌^◌, ◌<◌, Bool, true, false, ◌&&◌, T, ltb, ◌≢◌, ◌⊎◌, List, [], ◌∷◌, get_or, set, replicate, sym, refl, ◌∙◌, subst, inl, inr, arith, ltb→lt, get_or-set_other}
use mathlib.Core.Logic.{dite}
use Rattle.std.specs.Prelude.{None}
use native.Mathlib.Decide.{ℕ_discrete}
use lib.ListN.{get_or-replicate}
use Rattle.base.specs.Says.{Says, bool}
use Rattle.base.specs.Options as options
use Rattle.base.specs.Tests as tests
use Rattle.base.proofs.Says.{says}
use Rattle.base.proofs.Tests.{T_and}
use Rattle.base.proofs.Walks.{zeros_at}
use Rattle.operations.specs.Values.{Values}
use Rattle.operations.specs.Operations as operations
use Rattle.operations.specs.Trials as trials
use Rattle.chart.specs.Charts.{Chart, size, leaving}
use Rattle.chart.proofs.Words.{Words}
use Rattle.chart.specs.Charts as charts
use Rattle.chart.specs.Faultless.{FaultlessChart}
use Rattle.chart.specs.Faults as faults
use Rattle.chart.proofs.Faultless.{faultless}
use Rattle.chart.proofs.Takable.{takable}
use Rattle.chart.specs.Places.{new_of}
use Rattle.chart.specs.Compared.{Compared, both, heads_of}
use Rattle.chart.specs.Runs.{begin, run, reaches}
use Rattle.chart.specs.Runs as runs
use Rattle.sets.specs.Sets as sets
use Rattle.align.specs.Reads as reads
use Rattle.align.specs.Steps as steps
use Rattle.records.specs.Records.{Record, record_of}
use Rattle.records.specs.Records as records
use Rattle.checker.specs.Following.{nodes, covered}
use Rattle.checker.specs.Rules.{mark_fits, marks_fit, target_fits, targets_fit, shaped, start_fits, keeps, joins, joins_step, ranked, leads, row_fits}
use Rattle.checker.specs.Checks.{sized, refusal}
use Rattle.checker.proofs.Demand3.{demand_3_first}
use Rattle.checker.proofs.Passes.{Rules, passes}

-- ---- the record
-- both charts, `2,1,2,0,0,0 0,1,16,0,0,0 0,1,17,0,0,0`: from the start to the alarm, by one row where v0 is 0, by the
-- other where it isn't
abbrev pub C : Chart
C = record { head = record { places = 2; alarm = 1 }; table = 0 ∷ 1 ∷ 16 ∷ 0 ∷ 0 ∷ 0 ∷ 0 ∷ 1 ∷ 17 ∷ 0 ∷ 0 ∷ 0 ∷ [] }

abbrev pub X : Compared
X = both 1 C C

-- the start open, the pair of both alarms covered, the new alarm kept
unfoldable pub marks : List ℕ
marks = set (set (set (replicate 4160 0) 0 1) 65 3) 4097 2

-- from the start by row 0 to the pair, by row 1 to the kept node
pub targets : List ℕ
targets = set (set (replicate 8192 65535) 0 65) 1 4097

abbrev pub R : Record
R = record_of 0 marks targets (replicate 4096 0)

-- ---- it passes
-- only three nodes are marked
unfoldable pub Marked : ℕ → Type 0
Marked n = (n ≡ 0) ⊎ (n ≡ 65) ⊎ (n ≡ 4097)

unmarked : (n : ℕ) → n ≢ 0 → n ≢ 65 → n ≢ 4097 → get_or marks n 0 ≡ 0
unfolding marks
unmarked n a b c =
    get_or-set_other (set (set (replicate 4160 0) 0 1) 65 3) 4097 n 2 0 c ∙ get_or-set_other (set (replicate 4160 0) 0 1) 65 n 3 0 b
    ∙ get_or-set_other (replicate 4160 0) 0 n 1 0 a ∙ zeros_at 4160 n

pub is-marked : (n : ℕ) → get_or marks n 0 ≢ 0 → Marked n
unfolding Marked
is-marked n h =
    dite (ℕ_discrete n 0) (λ a. inl a)
    (λ a. dite (ℕ_discrete n 65) (λ b. inr (inl b)) (λ b. dite (ℕ_discrete n 4097) (λ c. inr (inr c)) (λ c. absurd (h (unmarked n a b c)))))

sized-so : Says (sized R.graph)
unfolding marks targets
sized-so = says (sized R.graph) tt

none-due : faults.refusal C ≡ None
unfolding faults.refusal options.first_of tests.some_below charts.rows_where charts.leaving faults.count_fault faults.alarm_fault faults.row_fault faults.clash faults.conflict_fault faults.rows_fault faults.fault operations.kind operations.operand_b operations.assigned_c operations.operand_c operations.operands_fit operations.reads operations.related operations.holds trials.seats trials.trial trials.shown trials.together
none-due = refl

sound : FaultlessChart C
sound = faultless C none-due

mark_at_lem : (i : ℕ) → T (bool (mark_fits (heads_of X) i (get_or marks i 0))) → (n : ℕ) → n ≡ i
    → Says (mark_fits (heads_of X) n (get_or marks n 0))
mark_at_lem i t n e =
    subst (λ (n : ℕ). Says (mark_fits (heads_of X) n (get_or marks n 0))) (sym e)
    (says (mark_fits (heads_of X) i (get_or marks i 0)) t)

pub marks-so : (n : ℕ) → n < 4160 → Says (mark_fits (heads_of X) n (get_or marks n 0))
unfolding Marked marks
marks-so n l =
    dite (ℕ_discrete (get_or marks n 0) 0) (λ z. inl z)
    (λ h. elim (is-marked n h) [ inl e ↦ mark_at_lem 0 tt n e | inr (inl e) ↦ mark_at_lem 65 tt n e | inr (inr e) ↦ mark_at_lem 4097 tt n e ])

targets-so : (i : ℕ) → i < 8192 → Says (target_fits (get_or targets i 0))
unfolding targets
targets-so i l =
    dite (ℕ_discrete i 0) (λ a. rw a (inl (omega arith)))
    (λ a. dite (ℕ_discrete i 1) (λ b. rw b (inl (omega arith)))
    (λ b. inr (get_or-set_other (set (replicate 8192 65535) 0 65) 1 i 4097 0 b ∙ get_or-set_other (replicate 8192 65535) 0 i 65 0 a ∙ get_or-replicate 8192 i 65535 0 l)))

-- both rows of the start are as their rules say, and no row leaves the alarm
row_at : (k : ℕ) → T (bool (row_fits X R.graph 0 (leaving C.table 0) k)) → Says (row_fits X R.graph 0 (leaving C.table 0) k)
row_at k = says (row_fits X R.graph 0 (leaving C.table 0) k)

rules_so : Rules X R.graph
unfolding Marked marks targets options.first_of charts.rows_where charts.leaving operations.kind operations.operand_b operations.operand_c operations.reads operations.same sets.alone sets.joined sets.meets sets.holds_all sets.set_of reads.read_set steps.find steps.along steps.matching steps.matched steps.onward steps.follow steps.followed steps.counterpart steps.assumed steps.moved steps.arrived steps.step keeps joins joins_step ranked leads row_fits
rules_so m k l h two there =
    elim (is-marked m h) [
      | inl e ↦ subst (λ (m : ℕ). Says (row_fits X R.graph m (leaving C.table (new_of m).0) k)) (sym e) (first k two)
      | inr (inl e) ↦ absurd (nowhere (subst (λ (m : ℕ). k < size (leaving C.table (new_of m).0)) e (takable _ k there).0))
      | inr (inr e) ↦ absurd (omega arith)
    ]
  where
    first : (k : ℕ) → k < 2 → Says (row_fits X R.graph 0 (leaving C.table 0) k)
    first zero u = row_at 0 tt
    first (suc zero) u = row_at 1 tt
    first (suc (suc k)) u = absurd (omega arith)

    nowhere : k < size (leaving C.table (new_of 65).0) → ⊥
    nowhere u = omega arith

pub instance_passes : refusal X R ≡ None
unfolding shaped marks_fit targets_fit start_fits marks
instance_passes =
    passes X R sized-so sound sound refl (inl refl, (marks-so, targets-so)) (inl (refl, (refl, inl (λ e. omega arith))))
    rules_so

-- ---- what it promises
unfoldable pub zeros : List ℕ
zeros = replicate 64 0

pub zeros-values : Values zeros
unfolding zeros
zeros-values = record { count = refl; small = λ i. rw (zeros_at 64 i) (omega arith) }

unfoldable pub ones : List ℕ
ones = replicate 64 1

-- the entries of a list that is written out
abbrev pub all_small : List ℕ → Bool
all_small [] = true
all_small (x ∷ l) = ltb x (2 ^ 32) && all_small l

pub words_of : (l : List ℕ) → T (all_small l) → Words l
words_of l t = record { small = at l t }
  where
    at : (l : List ℕ) → T (all_small l) → (k : ℕ) → get_or l k 0 < 2 ^ 32
    at [] t k = omega arith
    at (x ∷ l) t zero = ltb→lt x (2 ^ 32) (T_and (ltb x (2 ^ 32)) (all_small l) t).0
    at (x ∷ l) t (suc k) = at l (T_and (ltb x (2 ^ 32)) (all_small l) t).1 k

pub ones_values : Values ones
unfolding ones
ones_values = record { count = refl; small = (words_of ones tt).small }

-- the run by row 0, from zeros: it reaches the new alarm and is covered
pub reached_alarm : reaches C zeros (0 ∷ []) ≡ true
unfolding zeros ones operations.kind operations.value operations.related operations.holds runs.lets runs.after runs.ready runs.run runs.alarmed runs.reaches
reached_alarm = refl

pub is-covered : covered C R (0 ∷ []) ≡ true
unfolding marks targets charts.rows_where charts.leaving operations.kind operations.holds operations.related trials.seats trials.trial trials.shown trials.together trials.never_holds records.read_target nodes covered
is-covered = refl

-- so there is an old run that reaches the old alarm
pub old-run : (js : List ℕ) × (reaches C zeros js ≡ true)
old-run =
    let w = words_of C.table tt in
    demand_3_first X w w R instance_passes zeros (0 ∷ []) zeros-values reached_alarm is-covered

-- the run by row 1, from ones: it reaches the new alarm and is not covered
pub reached_uncovered : reaches C ones (1 ∷ []) ≡ true
unfolding zeros ones operations.kind operations.value operations.related operations.holds runs.lets runs.after runs.ready runs.run runs.alarmed runs.reaches
reached_uncovered = refl

pub not_covered : covered C R (1 ∷ []) ≡ false
unfolding marks targets charts.rows_where charts.leaving operations.kind operations.holds operations.related trials.seats trials.trial trials.shown trials.together trials.never_holds records.read_target nodes covered
not_covered = refl

-- row 1 cannot be taken from zeros: the list is no run
pub no_run : run C (begin C zeros) (1 ∷ []) ≡ None
unfolding zeros ones operations.kind operations.value operations.related operations.holds runs.lets runs.after runs.ready runs.run runs.alarmed runs.reaches
no_run = refl
