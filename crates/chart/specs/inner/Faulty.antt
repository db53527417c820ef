-- A row's fault by a test and a number: helps the search for the first row that has one.
use Rattle.std.specs.Prelude.{Bool, cond, ◌&&◌, ◌||◌, not, ℕ}
use Rattle.operations.specs.Operations.{is_known, operands_fit}
use Rattle.chart.specs.Charts.{Chart, operation}
use Rattle.chart.specs.Faults.{strays, descends}

-- whether row i has one of the faults 4 to 7
abbrev pub faulty : Chart → ℕ → Bool
faulty C i =
    strays C i
    || (descends C.table i || not (is_known (operation C.table i) && operands_fit (operation C.table i)))

-- the first of the numbers 4 to 7 that fits row i, where one does
abbrev pub row_number : Chart → ℕ → ℕ
row_number C i = cond (strays C i) 4 (cond (descends C.table i) 5 (cond (is_known (operation C.table i)) 7 6))
