-- `text::fields::item_at` meets its contract: from its callees. Assumes nothing.
use Rattle.std.proofs.Common.{sym, ◌∙◌}
use Rattle.text.proofs.Cases.{handed_on}
use Rattle.text.proofs.Numbers.{item_missing, item_there, closed_unfit}
use Rattle.text.proofs.fields.item_at.Goals as goal

pub returns-then-is_missing : goal.returns-then-is_missing
returns-then-is_missing c = search item_missing

pub returns-in_err-number : goal.returns-in_err-number
returns-in_err-number c =
    rw (handed_on _ c.from_residual.ensures.1) (item_there _ _ _ _ _ _ c.is_missing.ensures c.if-is_missing.false (sym c.in_err-number.was ∙ c.field_at.ensures) (closed_unfit _ _ _))

pub returns : goal.returns
returns c = item_there _ _ _ _ _ _ c.is_missing.ensures c.if-is_missing.false (sym c.in_ok-number.was ∙ c.field_at.ensures) c.close.ensures
