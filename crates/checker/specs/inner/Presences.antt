-- What a present pair is judged by, as the definitions have it.
use Rattle.chart.specs.Compared.{Compared}
use Rattle.records.specs.Records.{Graph}
use Rattle.checker.specs.declared.inner.present.Present.{Present}
use Rattle.checker.specs.inner.Examinations.{charts_in, graph_in}

-- the edition and both charts
abbrev pub charts_at : Present → Compared
charts_at p = charts_in p.examined.now

-- the record's graph, which has the pair
abbrev pub graph_at : Present → Graph
graph_at p = graph_in p.examined.now
