-- `checker::record_fault` meets its contract: the shape, then the rules. Assumes nothing.
use Rattle.std.specs.Prelude.{Some}
use Rattle.std.proofs.Common.{sym, ap, ◌∙◌}
use Rattle.chart.specs.Compared.{Compared, compared}
use Rattle.records.specs.Records.{record_of}
use Rattle.checker.specs.Checks.{broken}
use Rattle.checker.proofs.Answering.{shape_refused, rules_judged, fitting}
use Rattle.checker.proofs.record_fault.Goals as goal

pub returns-then-not-shaped : goal.returns-then-not-shaped
returns-then-not-shaped c =
    ap Some c.sole.ensures ∙ shape_refused _ (record_of _ _ _ _) c.shaped.ensures c.if-not-shaped.true

pub invariant_of-examined : goal.invariant_of-examined
invariant_of-examined c =
    let a = c.args in
    let X = compared a.heads a.old_rows.now a.new_rows.now in
    let R = record_of a.start a.marks.now a.targets.now a.sets.now in
    record { fitting = fitting X R c.shaped.ensures c.if-not-shaped.false }

pub returns-in-Some : goal.returns-in-Some
returns-in-Some c =
    let a = c.args in
    let R = record_of a.start a.marks.now a.targets.now a.sets.now in
    ap Some c.sole-in-Some.ensures
    ∙ rules_judged _ R c.shaped.ensures c.if-not-shaped.false
    (sym c.in-Some.is ∙ c.broken.ensures ∙ ap (λ (X : Compared). broken X R) c.new-charts.ensures)

pub returns-in-None : goal.returns-in-None
returns-in-None c =
    let a = c.args in
    let R = record_of a.start a.marks.now a.targets.now a.sets.now in
    rules_judged _ R c.shaped.ensures c.if-not-shaped.false
    (sym c.in-None.is ∙ c.broken.ensures ∙ ap (λ (X : Compared). broken X R) c.new-charts.ensures)
