-- What is examined: both charts and a record of the stated lengths, as the definitions have them.
use Rattle.chart.specs.Compared.{Compared}
use Rattle.chart.specs.inner.Comparisons.{charts_of}
use Rattle.records.specs.Records.{Graph, graph_of}
use Rattle.checker.specs.declared.inner.examined.Examined.{Examined}

-- the edition and both charts
abbrev pub charts_in : Examined → Compared
charts_in e = charts_of e.charts

-- the record's graph
abbrev pub graph_in : Examined → Graph
graph_in e = graph_of e.marks.now e.targets.now e.sets.now
