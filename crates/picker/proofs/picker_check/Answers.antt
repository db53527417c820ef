-- `picker::picker_check` meets its contract. Assumes nothing.
use mathlib.Core.Path.{sym, ◌∙◌}
use Rattle.base.proofs.Answers.{ok-missing}
use Rattle.records.specs.Records.{record_of}
use Rattle.checker.proofs.Bounds.{refusal-fits}
use Rattle.picker.specs.Numbers.{zeros}
use Rattle.picker.proofs.Answers.{packs, makes, made, due_answers, none-due, lent_is, lent_promise}
use Rattle.picker.proofs.picker_check.Goals as goal

pub packed-requires : goal.packed-requires
packed-requires c = packs (due_answers (refusal-fits _ _) _ c.check.ensures.is (made (λ _. zeros) _ _ c.map.ensures.cases))

pub returns : goal.returns
returns c = let A = c.args in
    let k = c.lent_heads-heads.ensures in
    let e = makes (due_answers (refusal-fits _ _) _ c.check.ensures.is (made (λ _. zeros) _ _ c.map.ensures.cases)) c.packed.ensures in
    record { is = rw (← lent_is _ _ _ _ _ k) e; promise = λ z. lent_promise _ _ _ A.old_rows.now A.new_rows.now (record_of A.start A.marks.now A.targets.now A.sets.now) k (c.check.ensures.promise (ok-missing _ _ (c.check.ensures.is ∙ none-due _ (refusal-fits _ _) (sym e ∙ z)))) }
