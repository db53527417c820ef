-- `picker::picker_judge` meets its contract. Assumes nothing.
use Rattle.chart.proofs.Bounds.{refusal-fits}
use Rattle.picker.specs.Numbers.{zeros}
use Rattle.picker.proofs.Answers.{packs, makes, made, due_answers}
use Rattle.picker.proofs.picker_judge.Goals as goal

pub packed-requires : goal.packed-requires
packed-requires c = packs (due_answers (refusal-fits _) _ c.judge.ensures (made (λ _. zeros) _ _ c.map.ensures.cases))

pub returns : goal.returns
returns c = makes (due_answers (refusal-fits _) _ c.judge.ensures (made (λ _. zeros) _ _ c.map.ensures.cases)) c.packed.ensures
