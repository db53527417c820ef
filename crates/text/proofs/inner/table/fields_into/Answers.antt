-- `text::inner::table::fields_into` meets its contract: reading the fields that are left gives what reading all gives
-- (`Reading`). Assumes nothing.
use Rattle.std.proofs.Common.{refl}
use Rattle.text.proofs.Cases.{handed_on}
use Rattle.text.proofs.Tables.{reading_stop, reading_more, reading_done}
use Rattle.text.proofs.inner.table.fields_into.Goals as goal

pub returns-in_err-number : goal.returns-in_err-number
returns-in_err-number c =
    rw (handed_on _ c.from_residual.ensures.1) (reading_stop _ _ _ _ _ _ _ _ c.loop-i.invariant _ _ c.requires.0 c.loop-i-test.true c.item_at.ensures c.in_err-number.was)

pub loop-i-preserved : goal.loop-i-preserved
loop-i-preserved c = reading_more _ _ _ _ _ _ _ _ c.loop-i.invariant _ _ _ c.requires.0 c.loop-i-test.true c.item_at.ensures c.in_ok-number.was refl

pub returns : goal.returns
returns c = reading_done _ _ _ _ _ _ _ _ c.loop-i.invariant c.requires.0 c.loop-i-test.false
