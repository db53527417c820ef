-- Algorithm 2 ("The builder"): begin, take the lowest waiting pair and its rows, until none waits.
use Rattle.std.specs.Prelude.{true, false, not, List, ℕ, ◌^◌, eqb, get_or, set, replicate, Option, None, Some}
use Rattle.base.specs.Walks.{first_from}
use Rattle.base.specs.Repeat.{repeated}
use Rattle.chart.specs.declared.places.NewPlace.{NewPlace}
use Rattle.chart.specs.Places.{pair_number, kept_number, old_of, new_of, start_pair}
use Rattle.chart.specs.declared.charts.Heads.{Heads}
use Rattle.chart.specs.Compared.{Compared, heads_of}
use Rattle.chart.specs.Charts.{Chart, to, operation, can_be_taken, leaving}
use Rattle.align.specs.declared.spots.Spot.{Spot}
use Rattle.align.specs.Steps.{step}
use Rattle.graph.specs.Buffers.{Buffers, buffers, marked, keep, aim, join, unwait}

-- "its rows": the new rows that leave the new place of pair n (line 4)
abbrev pub rows_of : Chart → ℕ → List ℕ
rows_of new n = leaving new.table (new_of n).0

-- "q2", where the r-th of them leads
abbrev pub leads_to : Chart → ℕ → ℕ → NewPlace
leads_to new n r = record { 0 = to (rows_of new n) r }

-- "Take the lowest waiting pair" (line 3): any byte other than 0 waits
unfoldable pub lowest : List ℕ → Option ℕ
lowest w = first_from (λ i x. not (eqb x 0)) 0 w

-- "Take the lowest waiting pair": the pair to take up, if one waits (lines 2 and 3)
unfoldable pub next : Buffers → Option ℕ
next g = lowest g.waiting

-- "reading its set afresh for each": its own set; "Rows of the pair in hand are finished, under the set it had, even if
-- it left the graph."
unfoldable pub set_now : List ℕ → List ℕ → ℕ → ℕ → ℕ
set_now m s n v = elim (marked m n) [ true ↦ get_or s n 0 | false ↦ v ]

-- "if q2 is kept, the target is kept q2. If not, the target is the pair; it joins the graph and its set gains the
-- step's set." (lines 29 to 33)
unfoldable pub arrived : ℕ → Buffers → ℕ → ℕ → NewPlace → Spot → Buffers
arrived alarm g n r q h =
    elim (marked g.marks (kept_number q)) [
      | true ↦ aim g n r (kept_number q)
      | false ↦ aim (join alarm g (pair_number h.place q) h.set) n r (pair_number h.place q)
    ]

-- PROCESS, lines 22 to 33. "Failed step: q2 becomes kept, all pairs with new place q2 leave the graph and the waiting
-- list; the row's target is kept q2." (lines 23 to 25)
unfoldable pub processed : ℕ → Buffers → ℕ → ℕ → NewPlace → Option Spot → Buffers
processed alarm g n r q None = aim (keep g q) n r (kept_number q)
processed alarm g n r q (Some h) = arrived alarm g n r q h

-- line 1: "Waiting: node 0, set empty, in the graph, even where place 0 is the old alarm." "What these held before has
-- no effect."
unfoldable pub begun : Heads → Buffers
begun heads =
    buffers (set (replicate 4160 0) (start_pair heads) 1) (replicate 8192 65535) (replicate 4096 0)
    (set (replicate 4096 0) (start_pair heads) 1)

module _ (X : Compared) where
  -- the aligned step from pair n under the set v by the r-th row of its new place (lines 5 to 18 and 27)
  unfoldable pub step_of : ℕ → ℕ → ℕ → Option Spot
  step_of n v r = step X (record { place = old_of n; set = v }) (operation (rows_of X.new n) r) (leads_to X.new n r)

  -- "its rows in table order": row r of pair n, under the set v, if there is such a row (line 4). "A new row that never
  -- holds has target 65535, nothing is explored behind it" (document 02, #101): it is passed over
  unfoldable pub row_done : Buffers → ℕ → ℕ → ℕ → Buffers
  row_done g n v r =
      elim (can_be_taken (rows_of X.new n) r) [
        | true ↦ processed X.old.head.alarm g n r (leads_to X.new n r) (step_of n v r)
        | false ↦ g
      ]

  -- lines 3 to 18: pair n is taken, "then its rows in table order": a place has two at most
  unfoldable pub second_done : Buffers → ℕ → ℕ → Buffers
  second_done g n v = row_done g n (set_now g.marks g.sets n v) 1

  -- "Take the lowest waiting pair, then its rows": pair n waits no more, and both rows are done
  unfoldable pub taken : Buffers → ℕ → Buffers
  taken g n = second_done (row_done (unwait g n) n (get_or g.sets n 0) 0) n (get_or g.sets n 0)

  -- line 2: as long as a pair waits. No build takes as many as 2 ^ 80 turns: nothing waits where these end, which is
  -- proved.
  unfoldable pub explored : Buffers
  explored = repeated next taken (2 ^ 80) (begun (heads_of X))
