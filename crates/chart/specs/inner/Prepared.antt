-- What inner functions ask of what is compared, once it has been judged and indexed.
use Rattle.std.specs.Prelude.{List, ℕ}
use Rattle.chart.specs.Compared.{Compared}
use Rattle.chart.specs.Faultless.{FaultlessChart}
use Rattle.chart.specs.inner.Index.{Indexed}

-- two faultless charts, and an index of both tables
pub record Prepared (X : Compared) (index : List ℕ) : Type 0 where
  pub old-faultless : FaultlessChart X.old
  pub new-faultless : FaultlessChart X.new
  pub indexed : Indexed X.old.table X.new.table index
