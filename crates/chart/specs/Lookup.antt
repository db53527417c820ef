-- The row lookup ("Charts and rows").
use Rattle.std.specs.Prelude.{◌≡◌, Bool, cond, ◌&&◌, List, [], ℕ, ◌+◌, ◌*◌, ◌≤◌, eqb, ltb, length}
use Rattle.base.specs.Options.{missing}
use Rattle.chart.specs.Charts.{Chart, leaving}
use Rattle.chart.specs.Compared.{Compared}
use Rattle.chart.specs.Faults.{refusal}

-- the chart is not faulty ("a length not a multiple of 6 included") and has the place
unfoldable pub open_to : Chart → ℕ → Bool
open_to C p = missing (refusal C) && ltb p C.head.places

-- "A lookup hands back the rows that leave a place, in whichever chart is named": 0 old, 1 new. "From a faulty chart
-- [..], for a place not below n or a chart other than 0 and 1, it hands back an empty part." The chart that is named is
-- judged, and it alone.
unfoldable pub lookup : Compared → ℕ → ℕ → List ℕ
lookup X chart p =
    cond (eqb chart 0) (cond (open_to X.old p) (leaving X.old.table p) [])
    (cond (eqb chart 1) (cond (open_to X.new p) (leaving X.new.table p) []) [])

-- "as a part of that chart's table": where a part and a table point to, and their entries. The part begins with one of
-- the table's rows, each of six entries of four bytes, and ends within the table
pub record Stands (part table : ℕ × ℕ) (entries all : List ℕ) : Type 0 where
  pub row : ℕ
  pub block : part.0 ≡ table.0
  pub offset : part.1 ≡ table.1 + row * 6 * 4
  pub inside : row * 6 + length entries ≤ length all
