-- The transitions of a condition as they are printed ("Worked sessions"): "then for each transition (target of an open
-- pair) its from node, row of the new table from 0, to node and that node's mark, by from and row".
use Rattle.std.specs.Prelude.{true, false, Option, None, Some, List, [], ◌∷◌, ◌++◌, ℕ, zero, suc, ◌+◌, eqb, ltb, get_or}
use Rattle.std.proofs.Math.Seq.{slice}
use Rattle.chart.specs.Charts.{size, from}
use Rattle.chart.specs.Places.{new_of}
use Rattle.records.specs.Records.{Graph, read_target}
use Rattle.report.specs.Lines.{line}

-- ---- "row of the new table from 0"
-- "Rows stand by ascending "from"": of the first n rows of a table those whose "from" is below q
unfoldable pub rows_below : List ℕ → ℕ → ℕ → ℕ
rows_below t q zero = 0
rows_below t q (suc n) = elim (ltb (from t n) q) [ true ↦ rows_below t q n + 1 | false ↦ rows_below t q n ]

-- the first row of a place comes after the rows of all lower places: "row of the new table from 0"
unfoldable pub first_row : List ℕ → ℕ → ℕ
first_row t q = rows_below t q (size t)

-- ---- transitions
-- "unused targets are 65535": what stands at an entry, if it is a target
abbrev pub used : ℕ → Option ℕ
used x = elim (eqb x 65535) [ true ↦ None | false ↦ Some x ]

-- "its from node, row [..], to node and that node's mark": the transition from pair n by this row, if there is a target
abbrev pub transition_to : List ℕ → ℕ → ℕ → Option ℕ → List ℕ
transition_to marks n row None = []
transition_to marks n row (Some x) = line n row x (get_or marks x 0)

-- the same to x, if x is a target
unfoldable pub transition : List ℕ → ℕ → ℕ → ℕ → List ℕ
transition marks n row x = transition_to marks n row (used x)

module _ (t : List ℕ) (G : Graph) where
  -- "(target of an open pair)": those of pair n, whose mark is m, "for a place's first and second row". At a row that
  -- never holds there is none: "readers of a record take 65535 there" (document 02, #101)
  unfoldable pub of_pair : ℕ → ℕ → List ℕ
  of_pair n m =
      elim (eqb m 1) [
        | true ↦ transition G.marks n (first_row t (new_of n).0) (read_target t G n 0)
            ++ transition G.marks n (first_row t (new_of n).0 + 1) (read_target t G n 1)
        | false ↦ []
      ]

  -- "by from and row": those of the pairs from n on, by their marks
  unfoldable pub of_pairs : ℕ → List ℕ → List ℕ
  of_pairs n [] = []
  of_pairs n (m ∷ ms) = of_pair n m ++ of_pairs (n + 1) ms

-- the same by the graph: "the pair (old p, new q) is 64 × p + q", which is below 4,096
unfoldable pub remaining : List ℕ → Graph → ℕ → List ℕ
remaining t G n = of_pairs t G n (slice n 4096 G.marks)
