-- A chart without the rows that never hold: "Builds are then compared with the algorithms given the new chart without
-- such rows" (document 02, #101).
use Rattle.std.specs.Prelude.{Bool, cond, not, List, [], ◌∷◌, ◌++◌, ℕ, zero, suc, get_or}
use Rattle.operations.specs.Trials.{never_holds}
use Rattle.chart.specs.Charts.{Chart, charted, Row, size, row, rows_where}
use Rattle.chart.specs.Compared.{Compared, both}

-- other than "A new row that never holds"
abbrev pub is_possible : Row → Bool
is_possible r = not (never_holds r.operation)

-- a table "without such rows": the others in table order
unfoldable pub possible_rows : List ℕ → List ℕ
possible_rows t = rows_where is_possible t (size t)

-- "the new chart without such rows". It may have no row: nothing is asked of it
abbrev pub possible : Chart → Chart
possible C = charted C.head (possible_rows C.table)

-- what "the algorithms [are] given": "the new chart without such rows", and the old chart as it is
abbrev pub stripped : Compared → Compared
stripped X = both X.edition X.old (possible X.new)

-- ---- "a place's first and second row" count such rows too: the number that each row had before
-- the numbers, among the first n rows of a table, of those that are left
unfoldable pub numbers_of : List ℕ → ℕ → List ℕ
numbers_of t zero = []
numbers_of t (suc n) = numbers_of t n ++ cond (is_possible (row t n)) (n ∷ []) []

-- the number, in a table, of the r-th row that is left of it
unfoldable pub number_in : List ℕ → ℕ → ℕ
number_in t r = get_or (numbers_of t (size t)) r 0
