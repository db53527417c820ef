-- `operations::values::value_written` meets its contract: what is refused, and what is not. Assumes nothing.
use Rattle.std.proofs.Common.{ℕ, ap, ◌∙◌, List}
use Rattle.std.proofs.lemmas.Result.{err_from_is_err_and}
use Rattle.std.specs.Prelude.{Ok}
use Rattle.base.proofs.Answers.{none-due, passed_on, goes_on}
use Rattle.operations.specs.Answers.{written_by}
use Rattle.operations.specs.Operations.{value}
use Rattle.operations.specs.Values.{var}
use Rattle.operations.proofs.Answers.{undue}
use Rattle.operations.proofs.values.value_written.Goals as goal

pub returns-in_err-judge : goal.returns-in_err-judge
unfolding written_by
returns-in_err-judge c =
    let p = err_from_is_err_and c.from_residual.result c.from_residual.ensures.1 in
    rw (p.1, p.2) (passed_on c.judge.ensures _ c.in_err-judge.was)

pub unwrap-requires : goal.unwrap-requires
unwrap-requires c = c.as_array.ensures.variant.1 (undue _ _ _ (none-due c.judge.ensures c.in_ok-judge.was)).0

pub value-requires : goal.value-requires
value-requires c =
    let u = undue _ _ _ (none-due c.judge.ensures c.in_ok-judge.was) in
    (u.1, u.2)

pub returns : goal.returns
unfolding written_by
returns c =
    let w = rw c.unwrap.ensures at c.as_array.ensures.cases in
    ap (λ (x : ℕ). Ok x) c.value.ensures
    ∙ ap (λ (v : List ℕ). Ok (value c.args.o (var v))) w.same
    ∙ goes_on c.judge.ensures _ c.in_ok-judge.was
