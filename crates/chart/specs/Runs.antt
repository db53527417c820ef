-- Runs of a chart from given values ("Charts and rows").
use Rattle.std.specs.Prelude.{Bool, true, false, ◌&&◌, ◌||◌, List, [], ◌∷◌, ℕ, eqb, ltb, set, Option, None, Some}
use Rattle.operations.specs.declared.Operation.{Operation}
use Rattle.operations.specs.Operations.{kind, by_kind, value, holds}
use Rattle.operations.specs.Values.{var}
use Rattle.chart.specs.Charts.{Chart, Row, start, size, row}

-- "an assumption must hold of the values": an assignment can always be taken, an unknown code never
unfoldable pub lets : Operation → List ℕ → Bool
lets o v = by_kind (kind o.code) true (holds o (var v)) (holds o (var v)) false

-- "an assignment has written its variable, an assumption none"
unfoldable pub after : Operation → List ℕ → List ℕ
after o v = by_kind (kind o.code) (set v o.a (value o (var v))) v v v

-- "It keeps a place and the values"
pub record State : Type 0 where
  pub place : ℕ
  pub values : List ℕ

-- "at first the start, place 0, and the given ones"
abbrev pub begin : Chart → List ℕ → State
begin C v = record { place = start C.head; values = v }

-- "The place is then the row's "to""
abbrev pub taken : Row → State → State
taken r s = record { place = r.to; values = after r.operation s.values }

-- "Each row must leave the place that the rows before it led to": row i is one of the chart's rows, leaves the place
-- and can be taken
unfoldable pub ready : Chart → State → ℕ → Bool
ready C s i =
    ltb i (size C.table)
    && (eqb (row C.table i).from s.place && lets (row C.table i).operation s.values)

-- "A list with a row that can't be taken so is no run." The states of a run, the first and the one after each row: none
-- where the rows are no run
unfoldable pub run : Chart → State → List ℕ → Option (List State)
run C s [] = Some (s ∷ [])
run C s (i ∷ is) = elim (ready C s i) [ true ↦ onward s (run C (taken (row C.table i) s) is) | false ↦ None ]
  where
    onward : State → Option (List State) → Option (List State)
    onward s None = None
    onward s (Some seen) = Some (s ∷ seen)

-- "it reaches the alarm if it is ever there, its start included"
unfoldable pub alarmed : Chart → List State → Bool
alarmed C [] = false
alarmed C (s ∷ seen) = eqb s.place C.head.alarm || alarmed C seen

-- "A run is a list of rows of one chart, of any length, none included, from any 64 values": these rows are one from v,
-- and it reaches the alarm
unfoldable pub reaches : Chart → List ℕ → List ℕ → Bool
reaches C v is = elim (run C (begin C v) is) [ None ↦ false | Some seen ↦ alarmed C seen ]
