-- `checker::check` meets its contract: the charts, then the record, and the promise of what passes. Assumes nothing.
use Rattle.std.specs.Prelude.{Some}
use Rattle.std.specs.Result.{result_err}
use Rattle.std.proofs.Common.{ap, ◌∙◌, arith}
use Rattle.std.proofs.lemmas.Result.{err_from_is_err_and}
use Rattle.chart.specs.Compared.{compared}
use Rattle.chart.proofs.Words.{Words}
use Rattle.records.specs.Records.{record_of}
use Rattle.checker.proofs.Answering.{charts_refused, accepted, record_judged, promised}
use Rattle.checker.proofs.check.Goals as goal

pub returns-in_err-judged-clause-is : goal.returns-in_err-judged-clause-is
returns-in_err-judged-clause-is c =
    let a = c.args in
    let X = compared a.heads a.old_rows.now a.new_rows.now in
    let R = record_of a.start a.marks.now a.targets.now a.sets.now in
    let p = err_from_is_err_and c.from_residual.result c.from_residual.ensures.1 in
    ap result_err p.1 ∙ ap Some p.2
    ∙ charts_refused X R c.sized.ensures c.judged.ensures (ap result_err c.in_err-judged.was)

pub unwrap-marks-requires : goal.unwrap-marks-requires
unwrap-marks-requires c =
    let a = c.args in
    let X = compared a.heads a.old_rows.now a.new_rows.now in
    let R = record_of a.start a.marks.now a.targets.now a.sets.now in
    let q = accepted X R c.sized.ensures c.judged.ensures (ap result_err c.in_ok-judged.was) in
    c.as_array.ensures.variant.1 q.2.0

pub unwrap-targets-requires : goal.unwrap-targets-requires
unwrap-targets-requires c =
    let a = c.args in
    let X = compared a.heads a.old_rows.now a.new_rows.now in
    let R = record_of a.start a.marks.now a.targets.now a.sets.now in
    let q = accepted X R c.sized.ensures c.judged.ensures (ap result_err c.in_ok-judged.was) in
    c.as_array-2.ensures.variant.1 q.2.1.0

pub unwrap-sets-requires : goal.unwrap-sets-requires
unwrap-sets-requires c =
    let a = c.args in
    let X = compared a.heads a.old_rows.now a.new_rows.now in
    let R = record_of a.start a.marks.now a.targets.now a.sets.now in
    let q = accepted X R c.sized.ensures c.judged.ensures (ap result_err c.in_ok-judged.was) in
    c.as_array-3.ensures.variant.1 q.2.1.1

pub record_fault-requires : goal.record_fault-requires
record_fault-requires c =
    let a = c.args in
    let X = compared a.heads a.old_rows.now a.new_rows.now in
    let R = record_of a.start a.marks.now a.targets.now a.sets.now in
    let q = accepted X R c.sized.ensures c.judged.ensures (ap result_err c.in_ok-judged.was) in
    record { old_faultless = q.0; new_faultless = q.1 }

pub returns : goal.returns
returns c =
    let a = c.args in
    let X = compared a.heads a.old_rows.now a.new_rows.now in
    let R = record_of a.start a.marks.now a.targets.now a.sets.now in
    let m = rw c.unwrap-marks.ensures at c.as_array.ensures.cases in
    let t = rw c.unwrap-targets.ensures at c.as_array-2.ensures.cases in
    let s = rw c.unwrap-sets.ensures at c.as_array-3.ensures.cases in
    let f = rw (m.same, t.same, s.same) at c.record_fault.ensures in
    let e = record_judged X R c.sized.ensures c.judged.ensures (ap result_err c.in_ok-judged.was) f in
    let old : Words a.old_rows.now = record { small = λ k. omega (arith, c.type_inv.old_rows k) } in
    let new : Words a.new_rows.now = record { small = λ k. omega (arith, c.type_inv.new_rows k) } in
    record { is = e; promise = promised X R c.record_fault.result old new e }
