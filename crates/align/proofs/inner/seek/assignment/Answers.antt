-- `align::inner::seek::assignment` meets its contract: no row, the first one, or none. Assumes nothing.
use Rattle.align.proofs.Seek.{none_at_first, found_here, nowhere, only_first}
use native.Mathlib.Omega.{arith}
use Rattle.align.proofs.inner.seek.assignment.Goals as goal

pub returns-then-rows-lt6 : goal.returns-then-rows-lt6
returns-then-rows-lt6 c = nowhere _ _ (none_at_first _ _) (omega arith)

pub returns-then-is_assignment_at : goal.returns-then-is_assignment_at
returns-then-is_assignment_at c = found_here _ _ (none_at_first _ _) (omega arith) c.is_assignment_at.ensures c.if-is_assignment_at.true

pub returns : goal.returns
returns c = only_first _ _ c.is_assignment_at.ensures c.if-is_assignment_at.false c.requires
