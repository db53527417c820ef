-- `text::inner::table::fields_into` meets its contract: reading the fields that are left gives what reading all gives
-- (`Reading`). Assumes nothing.
use Rattle.text.proofs.Tables.{Reading}
use Rattle.text.proofs.inner.table.fields_into.Given as goal

abbrev pub invariant-loop-i : goal.invariant-loop-i
invariant-loop-i l = Reading l.n l.field l.text l.at l.initial.table l.table l.p l.i
