-- `marker::inner::marks::plain_row` meets its contract. Assumes nothing.
use Rattle.marker.proofs.Spans.{remaking_start, remaking_more, remaking_end}
use native.Mathlib.Omega.{arith}
use Rattle.marker.proofs.inner.marks.plain_row.Goals as goal

pub loop-i-init : goal.loop-i-init
loop-i-init c = remaking_start _ _ _ _ (omega arith) (omega arith)

pub loop-i-preserved : goal.loop-i-preserved
loop-i-preserved c = search remaking_more

pub returns : goal.returns
returns c = search remaking_end
