-- `text::inner::bytes::put_fields` meets its contract: what is put of the numbers that are left is put as it should
-- (`Putting`). Assumes nothing.
use Rattle.text.proofs.Puts.{Putting}
use Rattle.text.proofs.inner.bytes.put_fields.Given as goal

abbrev pub invariant-loop-i : goal.invariant-loop-i
invariant-loop-i l = Putting l.initial.bytes l.at l.field l.numbers l.bytes l.p l.i
