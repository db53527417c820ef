-- A whole build: what it leaves in the four buffers, and what it answers.
use Rattle.std.specs.Prelude.{Bool, true, false, ◌||◌, not, List, map, ℕ, ltb, set, replicate}
use Rattle.base.specs.Says.{bool}
use Rattle.base.specs.Walks.{count}
use Rattle.chart.specs.declared.charts.Heads.{Heads}
use Rattle.chart.specs.Compared.{Compared, heads_of}
use Rattle.chart.specs.Places.{kept_number, new_of, old_start, new_start, start_pair, start_kept}
use Rattle.align.specs.Steps.{fair}
use Rattle.records.specs.Records.{Record}
use Rattle.graph.specs.Buffers.{Buffers, buffers, graph_in, marked}
use Rattle.detector.specs.Turns.{explored}
use Rattle.marker.specs.Marks.{final_marks}
use Rattle.condition.specs.declared.Summary.{Summary}

-- lines 20 and 21: "At the end a target whose new place is kept becomes that kept node."
unfoldable pub redirected : List ℕ → ℕ → ℕ
redirected m x =
    elim (ltb x 4096) [
      | false ↦ x
      | true ↦ elim (marked m (kept_number (new_of x))) [ true ↦ kept_number (new_of x) | false ↦ x ]
    ]

-- so every target, "At the end"
unfoldable pub final_targets : Buffers → List ℕ
final_targets g = map (redirected g.marks) g.targets

-- "the graph is node 4,096 alone, kept": every other mark 0, all targets 65535, all sets 0
unfoldable pub lone : Heads → Buffers
lone heads =
    buffers (set (replicate 4160 0) (start_kept heads) 2) (replicate 8192 65535) (replicate 4096 0) (replicate 4096 0)

module _ (heads : Heads) where
  -- line 19: "If place 0 is kept, or is the new alarm without being the old one"
  unfoldable pub alone : List ℕ → Bool
  alone m = marked m (start_kept heads) || not (bool (fair heads (old_start heads) (new_start heads)))

  -- lines 19 to 21, then Algorithm 1
  unfoldable pub finished : Buffers → Buffers
  finished g =
      elim (alone g.marks) [
        | true ↦ lone heads
        | false ↦
            buffers (final_marks (start_pair heads) (final_targets g) g.marks) (final_targets g) g.sets g.waiting
      ]

  -- "and that is the start; else the start is 0"
  unfoldable pub start_of : List ℕ → ℕ
  start_of m = elim (alone m) [ true ↦ start_kept heads | false ↦ start_pair heads ]

-- "The answer has the start and the counts of marks 1, 2 and 3."
unfoldable pub summary : ℕ → List ℕ → Summary
summary start marks = record { start = start; opened = count 1 marks; kept = count 2 marks; covered = count 3 marks }

module _ (X : Compared) where
  -- "what a whole build without refusal, on buffers holding anything, leaves": all four buffers
  unfoldable pub built : Buffers
  built = finished (heads_of X) (explored X)

  -- the record of a build: "what a whole build without refusal, on buffers holding anything, leaves in marks, targets
  -- and sets, with the start it answers"
  unfoldable pub recorded : Record
  recorded = record { start = start_of (heads_of X) (explored X).marks; graph = graph_in built }
