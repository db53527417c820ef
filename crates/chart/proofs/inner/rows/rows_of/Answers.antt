-- `chart::inner::rows::rows_of` meets its contract, chart by chart: the rows between two entries are those that leave the place. Assumes nothing.
use mathlib.Core.Path.{sym, ◌∙◌}
use Rattle.chart.proofs.Rows.{at_old, at_new, part_old, part_new}
use Rattle.chart.proofs.inner.rows.rows_of.Goals as goal

pub rows_at-requires : goal.rows_at-requires
rows_at-requires c = at_old _ _ c.requires.indexed (rw c.in-Old.is at c.requires.ascending.1)

pub rows_at-requires-in-New : goal.rows_at-requires-in-New
rows_at-requires-in-New c = at_new _ _ c.requires.indexed (rw c.in-New.is at c.requires.ascending.1)

pub returns-in-Old : goal.returns-in-Old
returns-in-Old c = rw c.in-Old.is (c.rows_at.ensures ∙ sym (part_old _ _ c.requires.indexed (rw c.in-Old.is at c.requires.ascending.1) (rw c.in-Old.is at c.requires.ascending.0)))

pub returns-in-New : goal.returns-in-New
returns-in-New c = rw c.in-New.is (c.rows_at-in-New.ensures ∙ sym (part_new _ _ c.requires.indexed (rw c.in-New.is at c.requires.ascending.1) (rw c.in-New.is at c.requires.ascending.0)))
