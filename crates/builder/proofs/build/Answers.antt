-- `builder::build` meets its contract: the refusal that is due, or both algorithms, whose record the check passes and is
-- what the source's algorithms return. Assumes nothing.
use Rattle.std.proofs.lemmas.Result.{err_from_is_err_and}
use Rattle.std.specs.Result.{result_err}
use mathlib.Core.Path.{ap}
use Rattle.chart.proofs.Words.{Words}
use Rattle.graph.specs.Buffers.{buffers}
use Rattle.builder.proofs.Answering.{none-judged, some-judged, done_answers, done_leaves, done_passes, done_returned, refused_answers, refused-leaves, never_done}
use native.Mathlib.Omega.{arith}
use Rattle.builder.proofs.build.Goals as goal

pub unwrap-marks-requires : goal.unwrap-marks-requires
unwrap-marks-requires c =
    let a = c.args in
    let A = none-judged _ (buffers a.marks.now a.targets.now a.sets.now a.waiting.now)
    c.lent-lengths.ensures c.judged.ensures (ap result_err c.in_ok-judged.was) in
    c.as_mut_array.ensures.variant.1 A.sized.marks

pub unwrap-targets-requires : goal.unwrap-targets-requires
unwrap-targets-requires c =
    let a = c.args in
    let A = none-judged _ (buffers a.marks.now a.targets.now a.sets.now a.waiting.now)
    c.lent-lengths.ensures c.judged.ensures (ap result_err c.in_ok-judged.was) in
    c.as_mut_array-2.ensures.variant.1 A.sized.targets

pub unwrap-sets-requires : goal.unwrap-sets-requires
unwrap-sets-requires c =
    let a = c.args in
    let A = none-judged _ (buffers a.marks.now a.targets.now a.sets.now a.waiting.now)
    c.lent-lengths.ensures c.judged.ensures (ap result_err c.in_ok-judged.was) in
    c.as_mut_array-3.ensures.variant.1 A.sized.sets

pub unwrap-waiting-requires : goal.unwrap-waiting-requires
unwrap-waiting-requires c =
    let a = c.args in
    let A = none-judged _ (buffers a.marks.now a.targets.now a.sets.now a.waiting.now)
    c.lent-lengths.ensures c.judged.ensures (ap result_err c.in_ok-judged.was) in
    c.as_mut_array-4.ensures.variant.1 A.sized.waiting

pub new-charts-requires : goal.new-charts-requires
new-charts-requires c = let a = c.args in
    let A = none-judged _ (buffers a.marks.now a.targets.now a.sets.now a.waiting.now)
    c.lent-lengths.ensures c.judged.ensures (ap result_err c.in_ok-judged.was) in
    record { old_faultless = A.old-faultless; new_faultless = A.new-faultless }

pub returns : goal.returns
returns c = let a = c.args in
    let A = none-judged _ (buffers a.marks.now a.targets.now a.sets.now a.waiting.now)
    c.lent-lengths.ensures c.judged.ensures (ap result_err c.in_ok-judged.was) in
    let e = rw c.new-charts.ensures at c.complete.ensures in
    let old : Words a.old_rows.now = record { small = λ k. omega (arith, c.type_inv.old_rows k) } in
    let new : Words a.new_rows.now = record { small = λ k. omega (arith, c.type_inv.new_rows k) } in
    record {
      answer = done_answers _ _ A e.0 e.1;
      leaves = done_leaves _ _ A e.0 e.1;
      passes = done_passes _ _ A e.0 e.1;
      algorithms = λ x h. done_returned _ _ A e.0 e.1 x h old new;
    }

pub returns-in_err-judged : goal.returns-in_err-judged
returns-in_err-judged c =
    let p = err_from_is_err_and c.from_residual.result c.from_residual.ensures.1 in
    let e = some-judged _ (buffers _ _ _ _) c.lent-lengths.ensures c.judged.ensures (ap result_err c.in_err-judged.was) in
    rw (p.1, p.2) (record { answer = refused_answers _ _ e; leaves = refused-leaves _ _ e; passes = λ x h. never_done _ x h; algorithms = λ x h. never_done _ x h })
