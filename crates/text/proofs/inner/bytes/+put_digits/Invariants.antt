-- `text::inner::bytes::put_digits` meets its contract: its number falls with each call of itself. Assumes nothing.
use Rattle.text.proofs.inner.bytes.+put_digits.Given as goal

abbrev pub decreases-put_digits : goal.decreases-put_digits
decreases-put_digits l = l.x
