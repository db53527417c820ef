-- Which of two rows never hold, as it is handed on: inner functions require it.
use Rattle.std.specs.Prelude.{◌≡◌, Bool, false, List, ℕ, ◌<◌, get_or}
use Rattle.operations.specs.Trials.{never_holds}
use Rattle.chart.specs.Charts.{size, operation}

-- whether row r of these never holds, if there is such a row
abbrev pub NeverIf : Bool → List ℕ → ℕ → Type 0
NeverIf skip rows r = r < size rows → skip ≡ never_holds (operation rows r)

-- it is so of both
abbrev pub Skipped : List Bool → List ℕ → Type 0
Skipped skips rows = (r : ℕ) → r < 2 → NeverIf (get_or skips r false) rows r
