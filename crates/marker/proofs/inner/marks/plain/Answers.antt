-- `marker::inner::marks::plain` meets its contract. Assumes nothing.
use mathlib.Core.Path.{◌∙◌}
use Rattle.marker.proofs.Ranking.{plain_more, plain_past, plain_end}
use native.Mathlib.Omega.{arith}
use Rattle.marker.proofs.inner.marks.plain.Goals as goal
use Rattle.marker.proofs.inner.marks.plain.Goals.{then-word-ne0, else-word-ne0}

pub loop-p-preserved : goal.loop-p-preserved
loop-p-preserved c =
    let P = c.loop-p.invariant in
    elim c.if-word-ne0.branch [
      | then-word-ne0 w ↦ plain_more P (omega arith) (w.marks-is ∙ w.plain_row.ensures)
      | else-word-ne0 w ↦ plain_past P (omega arith) c.requires w.if-word-ne0.false w.marks-is
    ]

pub returns : goal.returns
returns c = plain_end c.loop-p.invariant c.requires (omega arith) c.plain_row-2.ensures
