-- Rows by ascending "from", as the rows of a faultless chart stand: helps the searches for the rows of a place.
use Rattle.std.specs.Prelude.{List, ℕ, ◌≤◌, ◌<◌}
use Rattle.chart.specs.Charts.{size, from}

-- "Rows stand by ascending "from"."
pub record Ascending (t : List ℕ) : Type 0 where
  pub order : (i j : ℕ) → i ≤ j → j < size t → from t i ≤ from t j
