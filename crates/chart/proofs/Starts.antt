-- The two nodes that a build or a record of two charts can start from, by the charts.
use Prim.Native.Nat.{ℕ}
use Rattle.chart.specs.Compared.{Compared, heads_of}
use Rattle.chart.specs.Places.{start_pair, start_kept}

abbrev pub first_pair : Compared → ℕ
first_pair X = start_pair (heads_of X)

abbrev pub first_kept : Compared → ℕ
first_kept X = start_kept (heads_of X)
