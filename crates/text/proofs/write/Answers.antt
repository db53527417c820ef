-- `text::write` meets its contract: a law for each way through it. Assumes nothing.
use Rattle.std.proofs.Common.{arith}
use Rattle.text.proofs.Cases.{handed_on}
use Rattle.base.proofs.Answers.{none-due, some-due}
use Rattle.text.proofs.Filed.{write_said}
use Rattle.text.proofs.Told.{short_table, write_short, write_faulty, write_chart}
use Rattle.text.proofs.write.Goals as goal

pub returns-then-bytes-lt8643 : goal.returns-then-bytes-lt8643
returns-then-bytes-lt8643 c =
    let q = write_said c.args.head c.args.rows.now c.args.bytes.now (omega arith) (omega arith) (λ i. omega (arith, c.type_inv.rows i)) _ _ (write_short _ _ _ c.sole.ensures c.if-bytes-lt8643.true) in
    record { is = q.0; file = q.1 }

pub returns-in_err-judge : goal.returns-in_err-judge
returns-in_err-judge c =
    let q = write_said c.args.head c.args.rows.now c.args.bytes.now (omega arith) (omega arith) (λ i. omega (arith, c.type_inv.rows i)) _ _ (write_faulty _ _ c.if-bytes-lt8643.false _ (some-due c.judge.ensures c.in_err-judge.was)) in
    rw (handed_on _ c.from_residual.ensures.1) (record { is = q.0; file = q.1 })

pub put_chart-requires : goal.put_chart-requires
put_chart-requires c = (omega arith, short_table _ (none-due c.judge.ensures c.in_ok-judge.was))

pub returns : goal.returns
returns c =
    let q = write_said c.args.head c.args.rows.now c.args.bytes.now (omega arith) (omega arith) (λ i. omega (arith, c.type_inv.rows i)) _ _ (write_chart _ _ c.if-bytes-lt8643.false _ _ (none-due c.judge.ensures c.in_ok-judge.was) c.put_chart.ensures) in
    record { is = q.0; file = q.1 }
