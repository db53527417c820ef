-- What a comparison is of: its heads and both tables, as the definitions have them.
use Rattle.chart.specs.declared.inner.comparison.Comparison.{Comparison}
use Rattle.chart.specs.Compared.{Compared, compared}

-- the edition and both charts
abbrev pub charts_of : Comparison → Compared
charts_of c = compared c.heads c.old_rows.now c.new_rows.now
