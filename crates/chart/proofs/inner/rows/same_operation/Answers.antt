-- `chart::inner::rows::same_operation` meets its contract: field by field. Assumes nothing.
use Rattle.operations.specs.Operations.{same}
use Rattle.chart.proofs.inner.rows.same_operation.Goals as goal

pub returns : goal.returns
unfolding same
returns c = rw (c.same_field.ensures, c.same_field-2.ensures, c.same_field-3.ensures, c.same_field-4.ensures)
