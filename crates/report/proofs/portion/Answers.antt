-- A portion of the table, or of its first 768 entries where it has more. Assumes nothing.
use lib.Seq.{length-take-le}
use Rattle.report.proofs.Going.{portion_whole}
use native.Mathlib.Omega.{arith}
use Rattle.report.proofs.portion.Goals as goal

pub returns-then-table-lt768 : goal.returns-then-table-lt768
returns-then-table-lt768 c = portion_whole (omega arith) c.put_pairs.ensures

pub put_pairs-requires-2 : goal.put_pairs-requires-2
put_pairs-requires-2 c = omega (arith, length-take-le 768 c.args.table.now (omega arith))
