-- The promise is not empty of what edition 2 alone covers: a run that reaches the new alarm and that its record covers, so
-- that there is an old run, and that the record of edition 1 does not cover. The charts are a worked case's. Assumes nothing.
use mathlib.Core.Path.{◌≡◌, refl, ap}
use mathlib.Core.Bool.{true, false}
use mathlib.Core.List.{List, [], ◌∷◌}
use Rattle.std.specs.Prelude.{None}
use Prim.Native.Nat.{ℕ}
use lib.ListN.{set, replicate}
use Rattle.chart.specs.Charts.{Chart}
use Rattle.chart.specs.Compared.{Compared, both}
use Rattle.chart.specs.Faults.{refusal as chart_refusal}
use Rattle.chart.proofs.Faultless.{faultless}
use Rattle.records.specs.Records.{Record, record_of}
use Rattle.checker.specs.Following.{covered}
use Rattle.checker.specs.Checks.{refusal}
use Rattle.checker.proofs.Demand3.{demand_3_first}
use Rattle.checker.proofs.Instance.{zeros, zeros-values, words_of}
use Rattle.condition.specs.Builds.{recorded}
use Rattle.builder.proofs.Passing.{record_passes}
use Rattle.base.specs.Options as base-options
use Rattle.base.specs.Repeat as base-repeat
use Rattle.base.specs.Walks as base-walks
use Rattle.base.specs.Tests as base-tests
use Rattle.operations.specs.Operations as operations-operations
use Rattle.operations.specs.Trials as operations-trials
use Rattle.chart.specs.Charts as chart-charts
use Rattle.chart.specs.Faults as chart-faults
use Rattle.chart.specs.Runs as chart-runs
use Rattle.sets.specs.Sets as sets-sets
use Rattle.records.specs.Records as records-records
use Rattle.align.specs.Reads as align-reads
use Rattle.align.specs.Steps as align-steps
use Rattle.checker.specs.Following as checker-following
use Rattle.graph.specs.Buffers as graph-buffers
use Rattle.detector.specs.Turns as detector-turns
use Rattle.marker.specs.Marks as marker-marks
use Rattle.condition.specs.Builds as condition-builds
use Rattle.chart.specs.Runs.{reaches}

-- `4,3,4,0,0,0 0,1,18,0,0,9 0,2,21,0,0,9 1,3,0,1,0,5 2,2,0,2,0,0`: behind v0 < 9 an assignment leads to the alarm
abbrev pub O : Chart
O = record { head = record { places = 4; alarm = 3 }; table = 0 ∷ 1 ∷ 18 ∷ 0 ∷ 0 ∷ 9 ∷ 0 ∷ 2 ∷ 21 ∷ 0 ∷ 0 ∷ 9 ∷ 1 ∷ 3 ∷ 0 ∷ 1 ∷ 0 ∷ 5 ∷ 2 ∷ 2 ∷ 0 ∷ 2 ∷ 0 ∷ 0 ∷ [] }

-- `4,3,3,0,0,0 0,3,18,0,0,9 0,2,21,0,0,9 2,2,0,2,0,0`: v0 < 9 leads there at once
abbrev pub N : Chart
N = record { head = record { places = 4; alarm = 3 }; table = 0 ∷ 3 ∷ 18 ∷ 0 ∷ 0 ∷ 9 ∷ 0 ∷ 2 ∷ 21 ∷ 0 ∷ 0 ∷ 9 ∷ 2 ∷ 2 ∷ 0 ∷ 2 ∷ 0 ∷ 0 ∷ [] }

-- both charts by an edition
abbrev pub X : ℕ → Compared
X edition = both edition O N

-- what edition 2 builds: the start open, the pairs after its rows covered, the first of them with what the old assignment writes
pub second : Record
second =
    record_of 0 (set (set (set (replicate 4160 0) 0 1) 130 3) 195 3) (set (set (set (replicate 8192 65535) 0 195) 1 130) 260 130)
    (set (replicate 4096 0) 195 2)

-- what edition 1 builds: the new alarm is kept
pub first : Record
first = record_of 0 (set (set (set (replicate 4160 0) 0 1) 130 3) 4099 2) (set (set (set (replicate 8192 65535) 0 4099) 1 130) 260 130) (replicate 4096 0)

pub built-second : recorded (X 2) ≡ second
unfolding second first base-options.first_of base-repeat.repeated base-walks.pass base-walks.first_from chart-charts.can_be_taken chart-charts.rows_where chart-charts.leaving operations-operations.kind operations-operations.operand_b operations-operations.assigned_c operations-operations.operand_c operations-operations.reads operations-operations.same operations-trials.never_holds sets-sets.alone sets-sets.joined sets-sets.with sets-sets.without sets-sets.meets sets-sets.holds_all sets-sets.set_of align-reads.read_set align-steps.find align-steps.along align-steps.matching align-steps.matched align-steps.rewritten align-steps.writing_row align-steps.unequal align-steps.assigned align-steps.onward align-steps.follow align-steps.followed align-steps.counterpart align-steps.assumed align-steps.moved align-steps.at_both align-steps.rescued align-steps.arrived align-steps.step graph-buffers.marked graph-buffers.gone graph-buffers.cleared graph-buffers.untargeted graph-buffers.keep graph-buffers.aim graph-buffers.due graph-buffers.waits graph-buffers.join graph-buffers.unwait detector-turns.lowest detector-turns.next detector-turns.set_now detector-turns.begun detector-turns.step_of detector-turns.arrived detector-turns.processed detector-turns.row_done detector-turns.second_done detector-turns.taken detector-turns.explored marker-marks.plain_mark marker-marks.plain_marks marker-marks.in_q marker-marks.opening marker-marks.next_opening marker-marks.all_opened marker-marks.transitions marker-marks.cover marker-marks.covered marker-marks.all_covered marker-marks.final_marks condition-builds.redirected condition-builds.final_targets condition-builds.alone condition-builds.lone condition-builds.finished condition-builds.built condition-builds.start_of condition-builds.recorded operations-operations.related operations-operations.holds operations-trials.seats operations-trials.trial operations-trials.shown operations-trials.together
built-second = refl

pub built-first : recorded (X 1) ≡ first
unfolding second first base-options.first_of base-repeat.repeated base-walks.pass base-walks.first_from chart-charts.can_be_taken chart-charts.rows_where chart-charts.leaving operations-operations.kind operations-operations.operand_b operations-operations.assigned_c operations-operations.operand_c operations-operations.reads operations-operations.same operations-trials.never_holds sets-sets.alone sets-sets.joined sets-sets.with sets-sets.without sets-sets.meets sets-sets.holds_all sets-sets.set_of align-reads.read_set align-steps.find align-steps.along align-steps.matching align-steps.matched align-steps.rewritten align-steps.writing_row align-steps.unequal align-steps.assigned align-steps.onward align-steps.follow align-steps.followed align-steps.counterpart align-steps.assumed align-steps.moved align-steps.at_both align-steps.rescued align-steps.arrived align-steps.step graph-buffers.marked graph-buffers.gone graph-buffers.cleared graph-buffers.untargeted graph-buffers.keep graph-buffers.aim graph-buffers.due graph-buffers.waits graph-buffers.join graph-buffers.unwait detector-turns.lowest detector-turns.next detector-turns.set_now detector-turns.begun detector-turns.step_of detector-turns.arrived detector-turns.processed detector-turns.row_done detector-turns.second_done detector-turns.taken detector-turns.explored marker-marks.plain_mark marker-marks.plain_marks marker-marks.in_q marker-marks.opening marker-marks.next_opening marker-marks.all_opened marker-marks.transitions marker-marks.cover marker-marks.covered marker-marks.all_covered marker-marks.final_marks condition-builds.redirected condition-builds.final_targets condition-builds.alone condition-builds.lone condition-builds.finished condition-builds.built condition-builds.start_of condition-builds.recorded operations-operations.related operations-operations.holds operations-trials.seats operations-trials.trial operations-trials.shown operations-trials.together
built-first = refl

-- ---- it passes, as all that is built does
old-right : chart_refusal O ≡ None
unfolding chart-faults.refusal base-options.first_of base-tests.some_below chart-charts.rows_where chart-charts.leaving chart-faults.count_fault chart-faults.alarm_fault chart-faults.row_fault chart-faults.clash chart-faults.conflict_fault chart-faults.rows_fault chart-faults.fault operations-operations.kind operations-operations.operand_b operations-operations.assigned_c operations-operations.operand_c operations-operations.operands_fit operations-operations.reads operations-operations.related operations-operations.holds operations-trials.seats operations-trials.trial operations-trials.shown operations-trials.together
old-right = refl

new-right : chart_refusal N ≡ None
unfolding chart-faults.refusal base-options.first_of base-tests.some_below chart-charts.rows_where chart-charts.leaving chart-faults.count_fault chart-faults.alarm_fault chart-faults.row_fault chart-faults.clash chart-faults.conflict_fault chart-faults.rows_fault chart-faults.fault operations-operations.kind operations-operations.operand_b operations-operations.assigned_c operations-operations.operand_c operations-operations.operands_fit operations-operations.reads operations-operations.related operations-operations.holds operations-trials.seats operations-trials.trial operations-trials.shown operations-trials.together
new-right = refl

pub second_passes : refusal (X 2) (recorded (X 2)) ≡ None
second_passes = record_passes (X 2) (faultless O old-right) (faultless N new-right) refl

-- ---- what it promises
-- row 0, from zeros, reaches the new alarm
pub reached_alarm : reaches N zeros (0 ∷ []) ≡ true
unfolding zeros operations-operations.kind operations-operations.operand_b operations-operations.value operations-operations.related operations-operations.holds chart-runs.lets chart-runs.after chart-runs.ready chart-runs.run chart-runs.alarmed chart-runs.reaches
reached_alarm = refl

pub is-covered : covered N (recorded (X 2)) (0 ∷ []) ≡ true
unfolding second first operations-operations.kind operations-trials.never_holds chart-charts.rows_where chart-charts.leaving records-records.read_target checker-following.nodes checker-following.covered operations-operations.related operations-operations.holds operations-trials.seats operations-trials.trial operations-trials.shown operations-trials.together
is-covered = ap (λ (R : Record). covered N R (0 ∷ [])) built-second

-- so there is an old run that reaches the old alarm
pub old-run : (js : List ℕ) × (reaches O zeros js ≡ true)
old-run = demand_3_first (X 2) (words_of O.table tt) (words_of N.table tt) (recorded (X 2)) second_passes zeros (0 ∷ []) zeros-values reached_alarm is-covered

-- in the record of edition 1 it is not covered
pub not_covered : covered N (recorded (X 1)) (0 ∷ []) ≡ false
unfolding second first operations-operations.kind operations-trials.never_holds chart-charts.rows_where chart-charts.leaving records-records.read_target checker-following.nodes checker-following.covered operations-operations.related operations-operations.holds operations-trials.seats operations-trials.trial operations-trials.shown operations-trials.together
not_covered = ap (λ (R : Record). covered N R (0 ∷ [])) built-first
