-- `text::fields::number_at` meets its contract: the loop keeps the value of the digits passed (`Counting`), which is
-- not 0; the measure is what is left of the text. Assumes nothing.
use Rattle.std.proofs.Common.{◌<◌, length, arith}
use Rattle.text.proofs.Numbers.{number-none, number-start, number_stop, number_zero, number-above, number_more, inside_by}
use Rattle.text.proofs.fields.number_at.Goals as goal

pub returns-then-value-gt9 : goal.returns-then-value-gt9
returns-then-value-gt9 c = search number-none

pub overflow_add-next : goal.overflow_add-next
overflow_add-next c = let h : c.args.first < length c.args.text.now = search inside_by in omega arith

pub returns-then-digit-le9 : goal.returns-then-digit-le9
returns-then-digit-le9 c = search (number_zero, number-start)

pub returns-then-value-eq0 : goal.returns-then-value-eq0
returns-then-value-eq0 c = search (number_stop, number-start)

pub loop-first-init : goal.loop-first-init
loop-first-init c = (search number-start, c.if-value-eq0.false)

pub returns-then-d-gt9 : goal.returns-then-d-gt9
returns-then-d-gt9 c = search (number_stop, c.loop-first.invariant.0)

pub returns-then-not-has_room : goal.returns-then-not-has_room
returns-then-not-has_room c = search (number-above, c.loop-first.invariant.0, c.loop-first.invariant.1)

pub loop-first-smaller : goal.loop-first-smaller
loop-first-smaller c = let h : c.loop-first.next < length c.args.text.now = search inside_by in omega arith

pub loop-first-preserved : goal.loop-first-preserved
loop-first-preserved c = (search (number_more, c.loop-first.invariant.0, c.loop-first.invariant.1), λ e. c.loop-first.invariant.1 (omega arith))
