-- `operations::values::judge` meets its contract: refusal by refusal. Assumes nothing.
use Rattle.std.proofs.Common.{sym, ap, ◌∙◌}
use Rattle.std.specs.Prelude.{Some}
use Rattle.operations.proofs.Answers.{other_length, other_sort, unfit, fitting}
use Rattle.operations.proofs.values.judge.Goals as goal

pub returns-then-values-ne64 : goal.returns-then-values-ne64
returns-then-values-ne64 g c = ap Some c.sole.ensures ∙ other_length _ _ _ c.if-values-ne64.true

pub returns-then-not-of_sort : goal.returns-then-not-of_sort
returns-then-not-of_sort g c = ap Some c.sole-then-not-of_sort.ensures ∙ other_sort _ _ _ c.if-values-ne64.false (sym c.of_sort.ensures ∙ c.if-not-of_sort.true)

pub returns-then-not-operands_fit : goal.returns-then-not-operands_fit
returns-then-not-operands_fit g c = ap Some c.sole-then-not-operands_fit.ensures ∙ unfit _ _ _ c.if-values-ne64.false (sym c.of_sort.ensures ∙ c.if-not-of_sort.false) (sym c.operands_fit.ensures ∙ c.if-not-operands_fit.true)

pub returns : goal.returns
returns g c = fitting _ _ _ c.if-values-ne64.false (sym c.of_sort.ensures ∙ c.if-not-of_sort.false) (sym c.operands_fit.ensures ∙ c.if-not-operands_fit.false)
