-- `text::inner::bytes::put_number` meets its contract: as put_digits does, which puts all digits but the last. Assumes
-- nothing.
use Rattle.text.proofs.Puts.{number-first, number-front, number-room, number-one, number_more}
use Rattle.text.proofs.inner.bytes.put_number.Goals as goal

pub put_byte-requires : goal.put_byte-requires
put_byte-requires c = search number-first

pub returns-then-x-lt10 : goal.returns-then-x-lt10
returns-then-x-lt10 c = search number-one

pub put_digits-p-requires : goal.put_digits-p-requires
put_digits-p-requires c = search number-front

pub put_byte-requires-2 : goal.put_byte-requires-2
put_byte-requires-2 c = search number-room

pub returns : goal.returns
returns c = search number_more
