-- The faults of a chart, by number, chart and position, and what the calls that judge say ("Who can cause a
-- refusal": the chart's author).
use Rattle.std.specs.Prelude.{Bool, ◌&&◌, ◌||◌, not, List, ℕ, zero, suc, ◌%◌, eqb, leb, ltb, length, Option}
use Rattle.base.specs.Options.{or_else, first_of}
use Rattle.base.specs.declared.Refusal.{Refusal}
use Rattle.base.specs.Refusals.{due_in, due}
use Rattle.base.specs.Tests.{some_below}
use Rattle.operations.specs.Operations.{is_known, is_assumption, operands_fit}
use Rattle.operations.specs.Trials.{exclusive}
use Rattle.chart.specs.Heads.{Head}
use Rattle.chart.specs.Charts.{Chart, size, from, to, operation}
use Rattle.chart.specs.Compared.{Compared, edition_named}

-- ---- the tests
-- "1 no places or rows"
abbrev pub lacks : Chart → Bool
lacks C = eqb C.head.places 0 || eqb (size C.table) 0

-- "2 above 64 places or 128 rows"
abbrev pub exceeds : Chart → Bool
exceeds C = ltb 64 C.head.places || ltb 128 (size C.table)

-- "3 alarm not below n"
abbrev pub alarm_outside : Head → Bool
alarm_outside h = leb h.places h.alarm

-- "4 a place not below n"
abbrev pub strays : Chart → ℕ → Bool
strays C i = leb C.head.places (from C.table i) || leb C.head.places (to C.table i)

-- "the previous row's" "from": that of the row before row i; none is below that of the first
abbrev pub from_before : List ℕ → ℕ → ℕ
from_before t zero = 0
from_before t (suc i) = from t i

-- "5 "from" below the previous row's"
abbrev pub descends : List ℕ → ℕ → Bool
descends t i = ltb (from t i) (from_before t i)

-- "Two rows of one place must both be assumptions of which exactly one holds, for all values."
unfoldable pub clash : List ℕ → ℕ → ℕ → Bool
clash t i j =
    eqb (from t j) (from t i)
    && not (is_assumption (operation t j)
    && (is_assumption (operation t i) && exclusive (operation t j) (operation t i)))

-- "in conflict with an earlier one"
abbrev pub conflicts : List ℕ → ℕ → Bool
conflicts t i = some_below i (clash t i)

-- "a chart table's [length] isn't a multiple of 6": the test that it is
abbrev pub whole : List ℕ → Bool
whole t = eqb (length t % 6) 0

-- ---- the faults, told of chart k: "chart (0 old or sole, 1 new)"
-- "1 no places or rows; 2 above 64 places or 128 rows"
unfoldable pub count_fault : ℕ → Chart → Option Refusal
count_fault k C = or_else (due_in k (lacks C) 1 0) (due_in k (exceeds C) 2 0)

-- "3 alarm not below n"
unfoldable pub alarm_fault : ℕ → Chart → Option Refusal
alarm_fault k C = due_in k (alarm_outside C.head) 3 0

-- "Then per row (position: row from 0): 4 a place not below n; 5 "from" below the previous row's; 6 unknown op; 7
-- variable above 63 or an unused operand not 0"
unfoldable pub row_fault : ℕ → Chart → ℕ → Option Refusal
row_fault k C i =
    or_else (due_in k (strays C i) 4 i)
    (or_else (due_in k (descends C.table i) 5 i)
    (or_else (due_in k (not (is_known (operation C.table i))) 6 i)
    (due_in k (not (operands_fit (operation C.table i))) 7 i)))

-- "After all rows, 8: the first row in conflict with an earlier one."
unfoldable pub conflict_fault : ℕ → List ℕ → ℕ → Option Refusal
conflict_fault k t i = due_in k (conflicts t i) 8 i

-- 4 to 8: "Then per row [..]. After all rows, 8: the first row in conflict with an earlier one."
unfoldable pub rows_fault : ℕ → Chart → Option Refusal
rows_fault k C =
    or_else (first_of (size C.table) (row_fault k C)) (first_of (size C.table) (conflict_fault k C.table))

-- the chart's first fault, 1 to 8, by "The chart's author": "1 no places or rows; 2 [..]; 3 [..]. Then per row"
unfoldable pub fault : ℕ → Chart → Option Refusal
fault k C = or_else (count_fault k C) (or_else (alarm_fault k C) (rows_fault k C))

-- ---- what judging says
-- of a sole chart: "21, [..] a chart table's isn't a multiple of 6. Always first."
unfoldable pub refusal : Chart → Option Refusal
refusal C = or_else (due (not (whole C.table)) 21 0) (fault 0 C)

-- of two charts, where `lent` says whether the caller's other lengths are the stated ones: "21, a lent length differs
-- from the stated one [..], or a chart table's isn't a multiple of 6. Always first"; "Any other edition is 21"
-- (document 02, #104); "elsewhere the old chart comes before the new"
unfoldable pub judged : Bool → Compared → Option Refusal
judged lent X =
    or_else (due (not (lent && (edition_named X.edition && (whole X.old.table && whole X.new.table)))) 21 0)
    (or_else (fault 0 X.old) (fault 1 X.new))
