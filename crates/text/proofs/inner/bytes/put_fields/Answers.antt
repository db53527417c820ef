-- `text::inner::bytes::put_fields` meets its contract: what is put of the numbers that are left is put as it should
-- (`Putting`). Assumes nothing.
use Rattle.std.proofs.Common.{arith}
use Rattle.text.proofs.Puts.{putting_more, putting_done}
use Rattle.text.proofs.inner.bytes.put_fields.Goals as goal

pub loop-i-preserved : goal.loop-i-preserved
loop-i-preserved c = putting_more _ _ _ _ _ _ _ c.loop-i.invariant _ _ c.loop-i-test.true c.put_field-p.ensures

pub returns : goal.returns
returns c = (search putting_done, omega arith)
