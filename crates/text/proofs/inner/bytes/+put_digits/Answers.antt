-- `text::inner::bytes::put_digits` meets its contract: its number falls with each call of itself. Assumes nothing.
use Rattle.std.proofs.Common.{rules}
use Rattle.text.proofs.Puts.{number-first, number-front, number-room, number-one, number_more}
use Rattle.text.proofs.inner.bytes.+put_digits.Goals as goal

pub put_byte-requires : goal.put_byte-requires
put_byte-requires t c = search number-first

pub returns-then-x-lt10 : goal.returns-then-x-lt10
returns-then-x-lt10 t c = search number-one

pub put_digits-p-requires : goal.put_digits-p-requires
put_digits-p-requires t c = (search rules, search number-front)

pub put_byte-requires-2 : goal.put_byte-requires-2
put_byte-requires-2 t c = search number-room

pub returns : goal.returns
returns t c = search number_more
