-- `text::inner::walk::Reader::rows` meets its contract: its fields do not fit, or stand in the table. Assumes nothing.
use Rattle.std.proofs.Common.{sym, ap, ◌∙◌, refl}
use Rattle.std.specs.Result.{result_err}
use Rattle.text.proofs.Cases.{handed_on}
use Rattle.text.proofs.Walking.{reached_unfit, reached_past}
use Rattle.text.proofs.inner.walk.Reader.rows.Goals as goal

pub returns-in_err-self : goal.returns-in_err-self
returns-in_err-self c =
    let e = sym c.fields_into.ensures.0 ∙ c.in_err-self.was in
    rw (handed_on _ c.from_residual.ensures.1) ((ap result_err (sym e), c.fields_into.ensures.1), (refl, reached_unfit _ _ _ _ _ e))

pub returns : goal.returns
returns c =
    let e = sym c.fields_into.ensures.0 ∙ c.in_ok-self.was in
    ((ap result_err (sym e), c.fields_into.ensures.1), (refl, reached_past _ _ _ _ _ e))
