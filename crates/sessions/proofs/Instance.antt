-- The promise is not empty of what is built: a record that a build leaves, with a run that reaches the new alarm and is
-- covered, so that there is an old run; one that is not covered; and a list of rows that is no run. Assumes nothing.
use mathlib.Core.Path.{◌≡◌, refl, ap}
use mathlib.Core.Bool.{true, false}
use mathlib.Core.List.{List, [], ◌∷◌}
use Rattle.std.specs.Prelude.{None}
use Prim.Native.Nat.{ℕ}
use lib.ListN.{set, replicate}
use Rattle.chart.specs.Charts.{Chart}
use Rattle.chart.specs.Compared.{Compared, both}
use Rattle.chart.specs.Faults.{refusal as chart_refusal}
use Rattle.chart.specs.Runs.{begin, run, reaches}
use Rattle.chart.proofs.Faultless.{faultless}
use Rattle.records.specs.Records.{Record, record_of}
use Rattle.checker.specs.Following.{nodes, covered}
use Rattle.checker.specs.Checks.{refusal}
use Rattle.checker.proofs.Demand3.{demand_3_first}
use Rattle.checker.proofs.Instance.{zeros, zeros-values, words_of}
use Rattle.condition.specs.Builds.{recorded}
use Rattle.builder.proofs.Passing.{record_passes}
use Rattle.base.specs.Options as base-options
use Rattle.base.specs.Repeat as base-repeat
use Rattle.base.specs.Walks as base-walks
use Rattle.base.specs.Tests as base-tests
use Rattle.operations.specs.Operations as operations-operations
use Rattle.operations.specs.Trials as operations-trials
use Rattle.chart.specs.Charts as chart-charts
use Rattle.chart.specs.Faults as chart-faults
use Rattle.chart.specs.Runs as chart-runs
use Rattle.sets.specs.Sets as sets-sets
use Rattle.records.specs.Records as records-records
use Rattle.align.specs.Reads as align-reads
use Rattle.align.specs.Steps as align-steps
use Rattle.checker.specs.Following as checker-following
use Rattle.graph.specs.Buffers as graph-buffers
use Rattle.detector.specs.Turns as detector-turns
use Rattle.marker.specs.Marks as marker-marks
use Rattle.condition.specs.Builds as condition-builds

-- both charts, `3,2,2,0,0,0 0,1,0,0,0,1 1,2,0,1,0,2`: two assignments, one after the other, lead to the alarm
abbrev pub C : Chart
C = record { head = record { places = 3; alarm = 2 }; table = 0 ∷ 1 ∷ 0 ∷ 0 ∷ 0 ∷ 1 ∷ 1 ∷ 2 ∷ 0 ∷ 1 ∷ 0 ∷ 2 ∷ [] }

abbrev pub X : Compared
X = both 1 C C

-- what is built of it: the start open, the pair after row 0 covered, that of both alarms beyond, and all sets empty
pub R : Record
R = record_of 0 (set (set (set (replicate 4160 0) 0 1) 65 3) 130 4) (set (set (replicate 8192 65535) 0 65) 130 130) (replicate 4096 0)

pub is-built : recorded X ≡ R
unfolding R base-options.first_of base-repeat.repeated base-walks.pass base-walks.first_from chart-charts.can_be_taken chart-charts.rows_where chart-charts.leaving operations-operations.kind operations-operations.operand_b operations-operations.assigned_c operations-operations.operand_c operations-operations.reads operations-operations.same operations-trials.never_holds sets-sets.alone sets-sets.joined sets-sets.with sets-sets.without sets-sets.meets sets-sets.holds_all sets-sets.set_of align-reads.read_set align-steps.find align-steps.along align-steps.matching align-steps.matched align-steps.rewritten align-steps.writing_row align-steps.unequal align-steps.assigned align-steps.onward align-steps.follow align-steps.followed align-steps.counterpart align-steps.assumed align-steps.moved align-steps.at_both align-steps.rescued align-steps.arrived align-steps.step graph-buffers.marked graph-buffers.gone graph-buffers.cleared graph-buffers.untargeted graph-buffers.keep graph-buffers.aim graph-buffers.due graph-buffers.waits graph-buffers.join graph-buffers.unwait detector-turns.lowest detector-turns.next detector-turns.set_now detector-turns.begun detector-turns.step_of detector-turns.arrived detector-turns.processed detector-turns.row_done detector-turns.second_done detector-turns.taken detector-turns.explored marker-marks.plain_mark marker-marks.plain_marks marker-marks.in_q marker-marks.opening marker-marks.next_opening marker-marks.all_opened marker-marks.transitions marker-marks.cover marker-marks.covered marker-marks.all_covered marker-marks.final_marks condition-builds.redirected condition-builds.final_targets condition-builds.alone condition-builds.lone condition-builds.finished condition-builds.built condition-builds.start_of condition-builds.recorded
is-built = refl

-- ---- it passes, as all that is built does
no_refusal : chart_refusal C ≡ None
unfolding chart-faults.refusal base-options.first_of base-tests.some_below chart-charts.rows_where chart-charts.leaving chart-faults.count_fault chart-faults.alarm_fault chart-faults.row_fault chart-faults.clash chart-faults.conflict_fault chart-faults.rows_fault chart-faults.fault operations-operations.kind operations-operations.operand_b operations-operations.assigned_c operations-operations.operand_c operations-operations.operands_fit operations-operations.reads
no_refusal = refl

pub built_passes : refusal X (recorded X) ≡ None
built_passes = let F = faultless C no_refusal in record_passes X F F refl

-- ---- what it promises
-- rows 0 and 1, from zeros, are a run that reaches the new alarm; it is covered before it comes there, at node 65
pub reached_alarm : reaches C zeros (0 ∷ 1 ∷ []) ≡ true
unfolding zeros operations-operations.kind operations-operations.operand_b operations-operations.value operations-operations.related operations-operations.holds chart-runs.lets chart-runs.after chart-runs.ready chart-runs.run chart-runs.alarmed chart-runs.reaches
reached_alarm = refl

pub met : nodes C (recorded X).graph (recorded X).start (0 ∷ 1 ∷ []) ≡ 0 ∷ 65 ∷ []
unfolding R operations-operations.kind operations-trials.never_holds chart-charts.rows_where chart-charts.leaving records-records.read_target checker-following.nodes
met = ap (λ (R : Record). nodes C R.graph R.start (0 ∷ 1 ∷ [])) is-built

pub is-covered : covered C (recorded X) (0 ∷ 1 ∷ []) ≡ true
unfolding R operations-operations.kind operations-trials.never_holds chart-charts.rows_where chart-charts.leaving records-records.read_target checker-following.nodes checker-following.covered
is-covered = ap (λ (R : Record). covered C R (0 ∷ 1 ∷ [])) is-built

-- so there is an old run that reaches the old alarm
pub old-run : (js : List ℕ) × (reaches C zeros js ≡ true)
old-run =
    let w = words_of C.table tt in
    demand_3_first X w w (recorded X) built_passes zeros (0 ∷ 1 ∷ []) zeros-values reached_alarm is-covered

-- the run of no rows stays at the start, which is open: it is not covered
pub not_covered : covered C (recorded X) [] ≡ false
unfolding R chart-charts.rows_where checker-following.nodes checker-following.covered
not_covered = ap (λ (R : Record). covered C R []) is-built

-- row 1 does not leave the start: the list is no run
pub no_run : run C (begin C zeros) (1 ∷ []) ≡ None
unfolding zeros operations-operations.kind operations-operations.operand_b operations-operations.value operations-operations.related operations-operations.holds chart-runs.lets chart-runs.after chart-runs.ready chart-runs.run chart-runs.alarmed chart-runs.reaches
no_run = refl
