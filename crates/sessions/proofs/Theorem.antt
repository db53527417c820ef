-- The worked cases of document 01 are so: one theorem about their list, computed from the definitions. Assumes nothing.
use mathlib.Core.Path.{◌≡◌, refl, ap, ap₂, ◌∙◌}
use mathlib.Core.Bool.{Bool, true, false, ◌&&◌, not}
use mathlib.Core.List.{List, [], ◌∷◌}
use Prim.Native.Nat.{ℕ, ◌^◌}
use lib.Dec.{T, T_not, eqb, ltb, eqb→eq, ltb→lt}
use Rattle.base.proofs.Tests.{T_and, T_true}
use Rattle.operations.specs.declared.Operation.{Operation}
use Rattle.operations.specs.Operations.{value, plus}
use Rattle.operations.specs.Assumptions.{Operands}
use Rattle.operations.specs.Trials.{never, implies}
use Rattle.operations.proofs.Exact.{implies_exact, never_exact}
use Rattle.base.specs.Answers.{Answer}
use Rattle.std.specs.Prelude.{Ok, Err}
use Rattle.base.specs.Chains.{mapped}
use Rattle.chart.specs.Compared.{Compared}
use Rattle.records.specs.Records.{set_at}
use Rattle.condition.specs.Builds.{recorded}
use Rattle.report.specs.Printed.{both_read, printed_in, printed}
use Rattle.sessions.specs.Cases.{Case, prints, prints_in, tracks, implied, not_implied, anything, sum, Says, adds, bytes, Every, none, one}
use Rattle.sessions.specs.Worked.{worked}
use Rattle.base.specs.Options as base-options
use Rattle.base.specs.Repeat as base-repeat
use Rattle.base.specs.Walks as base-walks
use Rattle.base.specs.Tests as base-tests
use Rattle.operations.specs.Operations as operations-operations
use Rattle.operations.specs.Trials as operations-trials
use Rattle.chart.specs.Charts as chart-charts
use Rattle.chart.specs.Faults as chart-faults
use Rattle.text.specs.Fields as text-fields
use Rattle.text.specs.Spans as text-spans
use Rattle.text.specs.Texts as text-texts
use Rattle.text.specs.Written as text-written
use Rattle.sets.specs.Sets as sets-sets
use Rattle.records.specs.Records as records-records
use Rattle.align.specs.Reads as align-reads
use Rattle.align.specs.Steps as align-steps
use Rattle.graph.specs.Buffers as graph-buffers
use Rattle.detector.specs.Turns as detector-turns
use Rattle.marker.specs.Marks as marker-marks
use Rattle.condition.specs.Builds as condition-builds
use Rattle.report.specs.Lines as report-lines
use Rattle.report.specs.Transitions as report-transitions
use Rattle.report.specs.Printed as report-printed

-- ---- the test of a case

unfoldable same : List ℕ → List ℕ → Bool
same [] [] = true
same [] (y ∷ m) = false
same (x ∷ l) [] = false
same (x ∷ l) (y ∷ m) = eqb x y && same l m

-- the operands are those of a faultless row
unfoldable fit : Operation → Bool
fit f = ltb f.a 64 && (ltb f.b 64 && ltb f.c (2 ^ 32))

-- a number is answered, and it is this one
unfoldable is : ℕ → Answer ℕ → Bool
is n (Ok x) = eqb x n
is n (Err r) = false

unfoldable test : Case → Bool
test (prints old new out) = same (printed (bytes old) (bytes new)) (bytes out)
test (prints_in edition old new out) = same (printed_in edition (bytes old) (bytes new)) (bytes out)
test (tracks edition old new pair set) = is set (mapped (λ (X : Compared). set_at (recorded X).graph pair) (both_read edition (bytes old) (bytes new)))
test (implied f g) = fit f && (fit g && implies f g)
test (not_implied f g) = fit f && (fit g && not (implies f g))
test (anything f) = fit f && never f
test (sum x y z) = eqb (value (adds 0 y) (λ _. x)) z

unfoldable tests : List Case → Bool
tests [] = true
tests (c ∷ l) = test c && tests l

-- ---- a test that passes shows its case

same-is : (l m : List ℕ) → T (same l m) → l ≡ m
unfolding same
same-is [] [] t = refl
same-is [] (y ∷ m) t = absurd t
same-is (x ∷ l) [] t = absurd t
same-is (x ∷ l) (y ∷ m) t = let (h, r) = T_and (eqb x y) (same l m) t in ap₂ (λ (n : ℕ) (s : List ℕ). n ∷ s) (eqb→eq x y h) (same-is l m r)

is-given : (n : ℕ) (a : Answer ℕ) → T (is n a) → a ≡ Ok n
unfolding is
is-given n (Ok x) t = ap (λ (y : ℕ). Ok y) (eqb→eq x n t)
is-given n (Err r) t = absurd t

fit_is : (f : Operation) → T (fit f) → Operands f
unfolding fit
fit_is f t =
    let (a, r) = T_and (ltb f.a 64) (ltb f.b 64 && ltb f.c (2 ^ 32)) t in
    let (b, c) = T_and (ltb f.b 64) (ltb f.c (2 ^ 32)) r in
    record { a = ltb→lt f.a 64 a; b = ltb→lt f.b 64 b; c = ltb→lt f.c (2 ^ 32) c }

-- the operands of both fit, and the rest of the test passes
both-fit : (f g : Operation) (b : Bool) → T (fit f && (fit g && b)) → Operands f × Operands g × T b
both-fit f g b t =
    let (F, r) = T_and (fit f) (fit g && b) t in
    let (G, h) = T_and (fit g) b r in
    (fit_is f F, fit_is g G, h)

shows : (c : Case) → T (test c) → Says c
unfolding test value
shows (prints old new out) t = same-is (printed (bytes old) (bytes new)) (bytes out) t
shows (prints_in edition old new out) t = same-is (printed_in edition (bytes old) (bytes new)) (bytes out) t
shows (tracks edition old new pair set) t = is-given set (mapped (λ (X : Compared). set_at (recorded X).graph pair) (both_read edition (bytes old) (bytes new))) t
shows (implied f g) t = let (F, G, h) = both-fit f g (implies f g) t in (implies_exact f g F G).0 h
shows (not_implied f g) t =
    let (F, G, h) = both-fit f g (not (implies f g)) t in
    λ i. T_not (implies f g) h ((implies_exact f g F G).1 i)
shows (anything f) t = let (F, h) = T_and (fit f) (never f) t in λ g v W m. absurd ((never_exact f (fit_is f F)).0 h v W m)
shows (sum x y z) t = λ v e. ap (λ (n : ℕ). plus n y) e ∙ eqb→eq (plus x y) z t

all_show : (l : List Case) → T (tests l) → Every l
unfolding tests
all_show [] t = none
all_show (c ∷ l) t = let (h, r) = T_and (test c) (tests l) t in one (shows c h) (all_show l r)

-- ---- the theorem

-- every test passes, by computing with the definitions
computed : tests worked ≡ true
unfolding worked tests test same is fit bytes base-options.first_of base-repeat.repeated base-walks.pass base-walks.first_from base-walks.count base-tests.some_below chart-charts.can_be_taken chart-charts.rows_where chart-charts.leaving chart-faults.count_fault chart-faults.alarm_fault chart-faults.row_fault chart-faults.clash chart-faults.conflict_fault chart-faults.rows_fault chart-faults.fault operations-operations.kind operations-operations.operand_b operations-operations.assigned_c operations-operations.operand_c operations-operations.operands_fit operations-operations.reads operations-operations.same operations-operations.value operations-operations.related operations-operations.holds operations-trials.seats operations-trials.trial operations-trials.shown operations-trials.together operations-trials.never_holds text-fields.digit_of text-fields.digits text-fields.value text-fields.kind text-fields.judged text-fields.bounded text-fields.ended text-fields.number_of text-fields.number_at text-fields.followed text-fields.field_at text-fields.line_end text-fields.closed text-fields.missing text-fields.item_at text-spans.fields_at text-texts.whole text-texts.rows_at text-texts.parsed text-texts.read_text text-written.digits_in text-written.digits_of text-written.decimal text-written.closing text-written.fields_text sets-sets.alone sets-sets.joined sets-sets.with sets-sets.without sets-sets.meets sets-sets.holds_all sets-sets.set_of align-reads.read_set align-steps.find align-steps.along align-steps.matching align-steps.matched align-steps.rewritten align-steps.writing_row align-steps.unequal align-steps.assigned align-steps.onward align-steps.follow align-steps.followed align-steps.counterpart align-steps.assumed align-steps.moved align-steps.at_both align-steps.rescued align-steps.arrived align-steps.step graph-buffers.marked graph-buffers.gone graph-buffers.cleared graph-buffers.untargeted graph-buffers.keep graph-buffers.aim graph-buffers.due graph-buffers.waits graph-buffers.join graph-buffers.unwait detector-turns.lowest detector-turns.next detector-turns.set_now detector-turns.begun detector-turns.step_of detector-turns.arrived detector-turns.processed detector-turns.row_done detector-turns.second_done detector-turns.taken detector-turns.explored marker-marks.plain_mark marker-marks.plain_marks marker-marks.in_q marker-marks.opening marker-marks.next_opening marker-marks.all_opened marker-marks.transitions marker-marks.cover marker-marks.covered marker-marks.all_covered marker-marks.final_marks condition-builds.redirected condition-builds.final_targets condition-builds.alone condition-builds.lone condition-builds.finished condition-builds.built condition-builds.start_of condition-builds.recorded condition-builds.summary records-records.read_target report-lines.line report-lines.refusal_line report-transitions.rows_below report-transitions.first_row report-transitions.transition report-transitions.of_pair report-transitions.of_pairs report-transitions.remaining report-printed.both_of report-printed.both_read report-printed.summary_line report-printed.transitions report-printed.condition report-printed.condition_of report-printed.printed_in report-printed.printed
computed = refl

pub worked_cases : Every worked
worked_cases = all_show worked (T_true computed)
