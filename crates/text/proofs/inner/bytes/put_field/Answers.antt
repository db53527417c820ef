-- `text::inner::bytes::put_field` meets its contract: a number of at most ten digits, and what closes it. Assumes
-- nothing.
use Rattle.text.proofs.Decimals.{decimal_ten}
use Rattle.text.proofs.Puts.{field_room, field_put}
use Rattle.std.proofs.Common.{arith}
use Rattle.text.proofs.inner.bytes.put_field.Goals as goal

pub put_number-p-requires : goal.put_number-p-requires
put_number-p-requires c = omega (arith, decimal_ten c.args.x (omega arith))

pub put_closing-requires : goal.put_closing-requires
put_closing-requires c = field_room _ _ _ _ _ _ (omega arith) (omega arith) c.put_number-p.ensures

pub returns : goal.returns
returns c = field_put _ _ _ _ _ _ _ _ (omega arith) c.put_number-p.ensures c.put_closing.ensures
