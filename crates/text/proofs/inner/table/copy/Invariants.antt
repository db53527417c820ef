-- `text::inner::table::copy` meets its contract: the front of the table is copied up to the index (`Copying`). Assumes
-- nothing.
use Rattle.text.proofs.Copying.{Copying}
use Rattle.text.proofs.inner.table.copy.Given as goal

abbrev pub invariant-loop-i : goal.invariant-loop-i
invariant-loop-i l = Copying l.numbers l.initial.table l.table l.i
