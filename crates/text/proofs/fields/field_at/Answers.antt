-- `text::fields::field_at` meets its contract: with a quote, without, and at the end of the text. Assumes nothing.
use Rattle.std.proofs.Common.{ltb-false, ltb-true, sym, ◌∙◌, arith}
use Rattle.text.proofs.Cases.{handed_on}
use Rattle.text.proofs.Numbers.{field_past, field_quoted, field_bare, followed_unfit}
use Rattle.text.proofs.fields.field_at.Goals as goal

pub returns-in_default : goal.returns-in_default
returns-in_default c = field_past _ _ _ _ c.new.ensures (ltb-false _ _ (sym c.in_default.ensures.lookup.0))

pub returns-in_err-number : goal.returns-in_err-number
returns-in_err-number c =
    let l = c.in-Some.ensures.lookup in
    rw (handed_on _ c.from_residual.ensures.1) (field_quoted _ _ _ _ _ _ (ltb-true _ _ (sym l.0)) (sym l.1 ∙ c.if-b-eq34.true) (sym c.in_err-number.was ∙ c.number_at.ensures) (followed_unfit _ _ 34))

pub returns-then-b-eq34 : goal.returns-then-b-eq34
returns-then-b-eq34 c =
    let l = c.in-Some.ensures.lookup in
    field_quoted _ _ _ _ _ _ (ltb-true _ _ (sym l.0)) (sym l.1 ∙ c.if-b-eq34.true) (sym c.in_ok-number.was ∙ c.number_at.ensures) c.follow.ensures

pub returns : goal.returns
returns c = search (field_bare, arith)
