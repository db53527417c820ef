-- `text::fields::line_end` meets its contract: with the text, and by CRLF. Assumes nothing.
use Rattle.std.proofs.Common.{sym, ◌∙◌, arith}
use Rattle.text.proofs.Cases.{handed_on}
use Rattle.text.proofs.Numbers.{end_text, end_line, followed_unfit}
use Rattle.text.proofs.fields.line_end.Goals as goal

pub returns-then-text-number : goal.returns-then-text-number
returns-then-text-number c = search end_text

pub returns-in_err-returned : goal.returns-in_err-returned
returns-in_err-returned c =
    rw (handed_on _ c.from_residual.ensures.1) (end_line _ _ _ _ (omega arith) (sym c.in_err-returned.was ∙ c.follow.ensures) (followed_unfit _ _ 10))

pub returns : goal.returns
returns c = end_line _ _ _ _ (omega arith) (sym c.in_ok-returned.was ∙ c.follow.ensures) c.follow-2.ensures
