-- `text::inner::bytes::put_closing` meets its contract: CRLF and a comma. Assumes nothing.
use Rattle.text.proofs.Puts.{line_first, line_second, comma_first, line-put, comma_put}
use Rattle.text.proofs.inner.bytes.put_closing.Goals as goal

pub put_byte-p-requires : goal.put_byte-p-requires
put_byte-p-requires c = search line_first

pub put_byte-requires : goal.put_byte-requires
put_byte-requires c = search line_second

pub returns-then-field-eq5 : goal.returns-then-field-eq5
returns-then-field-eq5 c = line-put _ _ _ _ _ _ _ c.if-field-eq5.true c.put_byte-p.ensures c.put_byte.ensures

pub put_byte-requires-2 : goal.put_byte-requires-2
put_byte-requires-2 c = search comma_first

pub returns : goal.returns
returns c = search comma_put
