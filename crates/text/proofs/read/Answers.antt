-- `text::read` meets its contract: a law for each way through it. What is known where a chart was spelt is s. Assumes
-- nothing.
use Rattle.std.proofs.Common.{arith, length-take}
use Rattle.text.proofs.Cases.{handed_on}
use Rattle.base.proofs.Answers.{none-due, some-due}
use Rattle.text.proofs.Told.{read_unsized}
use Rattle.text.proofs.Filed.{read_said}
use Rattle.text.proofs.Walking.{spelt, read_unfit, read_faulty, read_chart}
use Rattle.text.proofs.read.Goals as goal

pub returns-then-table-ne768 : goal.returns-then-table-ne768
returns-then-table-ne768 c = let q = read_said _ _ _ _ (read_unsized _ _ _ c.sole.ensures c.if-table-ne768.true) in record { is = q.0; file = q.1 }

pub returns-in_err-heading : goal.returns-in_err-heading
returns-in_err-heading c =
    let q = read_said _ _ _ _ (read_unfit _ _ c.if-table-ne768.false _ c.parse.ensures.0 _ c.in_err-heading.was) in
    rw (handed_on _ c.from_residual.ensures.1) (record { is = q.0; file = q.1 })

pub overflow_mul-rows : goal.overflow_mul-rows
overflow_mul-rows c = let s = spelt _ _ c.parse.ensures.0 _ c.in_ok-heading.was in omega (arith, s.rows, s.few)

pub slice_bounds-rows-end : goal.slice_bounds-rows-end
slice_bounds-rows-end c = let s = spelt _ _ c.parse.ensures.0 _ c.in_ok-heading.was in omega (arith, s.rows, s.few)

pub slice_bounds-front-end : goal.slice_bounds-front-end
slice_bounds-front-end c = let s = spelt _ _ c.parse.ensures.0 _ c.in_ok-heading.was in simp length-take (omega (arith, s.rows, s.few))

pub returns-in_err-judge : goal.returns-in_err-judge
returns-in_err-judge c =
    let q = read_said _ _ _ _ (read_faulty _ _ c.if-table-ne768.false _ c.parse.ensures.0 _ _ _ c.in_ok-heading.was c.parse.ensures.1 _ (some-due c.judge.ensures c.in_err-judge.was)) in
    rw (handed_on _ c.from_residual-in_err-judge.ensures.1) (record { is = q.0; file = q.1 })

pub returns : goal.returns
returns c =
    let q = read_said _ _ _ _ (read_chart _ _ c.if-table-ne768.false _ c.parse.ensures.0 _ _ _ c.in_ok-heading.was c.parse.ensures.1 _ (none-due c.judge.ensures c.in_ok-judge.was) c.copy.ensures) in
    record { is = q.0; file = q.1 }
