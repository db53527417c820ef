-- `checker::inner::rules::gap` meets its contract. Assumes nothing.
use Rattle.std.proofs.Common.{arith}
use Rattle.checker.proofs.Shapes.{absent_all}
use Rattle.checker.proofs.inner.rules.gap.Goals as goal

pub returns-then-blank : goal.returns-then-blank
returns-then-blank c = (omega arith, absent_all c.args.marks.now _ 64 c.blank.ensures c.if-blank.true)
