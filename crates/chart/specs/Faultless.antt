-- What a chart is like for which no refusal is due: each number of "The chart's author" read as what it rules out.
-- That this is so exactly where the computed test finds no fault is proved, in proofs/Faultless.antt.
use Rattle.std.specs.Prelude.{◌≡◌, true, ℕ, ◌%◌, ◌≤◌, ◌<◌, length}
use Rattle.operations.specs.Operations.{is_known, is_assumption, operands_fit}
use Rattle.operations.specs.Trials.{exclusive}
use Rattle.chart.specs.Charts.{Chart, size, from, to, operation}
use Rattle.chart.specs.Faults.{from_before}

-- row i has none of the faults 4 to 7: "4 a place not below n; 5 [..]; 6 unknown op; 7 [..]"
pub record FaultlessRow (C : Chart) (i : ℕ) : Type 0 where
  pub from-below : from C.table i < C.head.places
  pub to_below : to C.table i < C.head.places
  pub ascends : from_before C.table i ≤ from C.table i
  pub known : is_known (operation C.table i) ≡ true
  pub fit : operands_fit (operation C.table i) ≡ true

-- rows i and j are two "assumptions of which exactly one holds, for all values", j the earlier
pub record Apart (C : Chart) (i j : ℕ) : Type 0 where
  pub earlier : is_assumption (operation C.table j) ≡ true
  pub later : is_assumption (operation C.table i) ≡ true
  pub one : exclusive (operation C.table j) (operation C.table i) ≡ true

-- none of 1 to 8: other than "a faulty chart (a length not a multiple of 6 included)"
pub record FaultlessChart (C : Chart) : Type 0 where
  pub whole : length C.table % 6 ≡ 0
  pub some_places : 0 < C.head.places
  pub few_places : C.head.places ≤ 64
  pub some-rows : 0 < size C.table
  pub few_rows : size C.table ≤ 128
  pub alarm_below : C.head.alarm < C.head.places
  pub rows : (i : ℕ) → i < size C.table → FaultlessRow C i
  pub apart : (i j : ℕ) → j < i → i < size C.table → from C.table j ≡ from C.table i → Apart C i j
