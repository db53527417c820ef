-- `text::fields::close` meets its contract: the sixth field of a record, and another. Assumes nothing.
use Rattle.text.proofs.Numbers.{close_line, close_comma}
use Rattle.text.proofs.fields.close.Goals as goal

pub returns-then-field-eq5 : goal.returns-then-field-eq5
returns-then-field-eq5 c = search close_line

pub returns : goal.returns
returns c = search close_comma
