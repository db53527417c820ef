-- `text::fields::digit` meets its contract: past the end, and by the byte less 48. Assumes nothing.
use Rattle.text.proofs.Numbers.{digit_past, digit_here}
use Rattle.std.proofs.Common.{ltb-false, sym, arith}
use Rattle.text.proofs.fields.digit.Goals as goal

pub returns-in_default : goal.returns-in_default
returns-in_default c = digit_past _ _ (ltb-false _ _ (sym c.in_default.ensures.lookup.0))

pub returns : goal.returns
returns c = search (digit_here, arith)
