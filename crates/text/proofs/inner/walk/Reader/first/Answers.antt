-- `text::inner::walk::Reader::first` meets its contract: its fields do not fit, or stand in the table. Assumes nothing.
use Rattle.std.proofs.Common.{sym, ◌∙◌, refl}
use Rattle.text.proofs.Cases.{handed_on}
use Rattle.text.proofs.Walking.{reached_unfit, reached_past, first_unfit, first_record}
use Rattle.text.proofs.inner.walk.Reader.first.Goals as goal

pub returns-in_err-self : goal.returns-in_err-self
returns-in_err-self c =
    let e = sym c.fields_into.ensures.0 ∙ c.in_err-self.was in
    rw (handed_on _ c.from_residual.ensures.1) (first_unfit _ _ _ e, (refl, reached_unfit _ _ _ _ _ e))

pub returns : goal.returns
returns c =
    let e = sym c.fields_into.ensures.0 ∙ c.in_ok-self.was in
    (first_record _ _ _ c.fields_into.new.table _ e refl c.fields_into.ensures.1, (refl, reached_past _ _ _ _ _ e))
