-- `chart::inner::rows::can_be_taken` meets its contract: where there is no such row, and by the row. Assumes nothing.
use mathlib.Core.Path.{sym}
use native.Mathlib.Omega.{arith}
use Rattle.chart.proofs.Takable.{not_there, by_test}
use Rattle.chart.proofs.inner.rows.can_be_taken.Goals as goal

pub returns-then-rows-i : goal.returns-then-rows-i
returns-then-rows-i c = sym (not_there _ _ (omega arith))

pub returns : goal.returns
returns c = rw (c.never_holds.ensures.is, c.operation_at.ensures) (sym (by_test _ _ (omega arith)))
