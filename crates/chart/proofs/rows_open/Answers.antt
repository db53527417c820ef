-- `chart::rows_open` meets its contract: by its test. Assumes nothing.
use mathlib.Core.Path.{sym, ◌∙◌}
use Rattle.chart.proofs.Faultless.{opened}
use Rattle.chart.proofs.rows_open.Goals as goal

pub rows_in-requires : goal.rows_in-requires
rows_in-requires c = opened _ _ (sym c.open_to.ensures ∙ c.if-open_to.true)
