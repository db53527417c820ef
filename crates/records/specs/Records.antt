-- Records ("The builder", "The checker"). A record is the source's difference graph with the marks of its Algorithm 1:
-- pairs are the aligned pairs of N, kept nodes the regression bug indicators of Δ, sets V_δ, targets the edges.
use Rattle.std.specs.Prelude.{cond, List, ℕ, ◌+◌, ◌*◌, get_or}
use Rattle.operations.specs.Trials.{never_holds}
use Rattle.chart.specs.Charts.{Chart, size, from, operation, leaving_of, leaving}
use Rattle.chart.specs.Places.{new_of}

-- of "a record (start, marks, targets, sets)" what it has beside its start: marks by node, targets by pair and row,
-- sets by pair
pub record Graph : Type 0 where
  pub marks : List ℕ
  pub targets : List ℕ
  pub sets : List ℕ

-- "a record (start, marks, targets, sets), whoever made it"
pub record Record : Type 0 where
  pub start : ℕ
  pub graph : Graph

-- a graph as the code has it, in lent slices: "Lent: marks [..], targets [..], sets"
abbrev pub graph_of : List ℕ → List ℕ → List ℕ → Graph
graph_of marks targets sets = record { marks = marks; targets = targets; sets = sets }

-- "a record (start, marks, targets, sets)" as the code has it
abbrev pub record_of : ℕ → List ℕ → List ℕ → List ℕ → Record
record_of start marks targets sets = record { start = start; graph = graph_of marks targets sets }

-- the mark of a node: "2 kept [..]; 1 open [..]; 3 covered [..]; 4 beyond [..]; 0 absent"
abbrev pub mark : Graph → ℕ → ℕ
mark G n = get_or G.marks n 0

-- the set of a pair: "sets (4,096 u64, bit i for vi)"
abbrev pub set_at : Graph → ℕ → ℕ
set_at G m = get_or G.sets m 0

-- ---- targets
-- "at 2 × pair + 0 or 1 for a place's first and second row"
abbrev pub index : ℕ → ℕ → ℕ
index m k = 2 * m + k

-- the target, at a pair, of row k of its new place: "targets (8,192 u16, at 2 × pair + 0 or 1 [..])"
abbrev pub target : Graph → ℕ → ℕ → ℕ
target G m k = get_or G.targets (index m k) 0

-- "A new row that never holds has target 65535 [..], and readers of a record take 65535 there" (document 02, #101): the
-- target, at a pair, of row k of its new place as every reader takes it, under the new table t
unfoldable pub read_target : List ℕ → Graph → ℕ → ℕ → ℕ
read_target t G m k = cond (never_holds (operation (leaving t (new_of m).0) k)) 65535 (target G m k)

-- "a place's first and second row": which one row i of a table is, as so many before it leave the same place
abbrev pub rank : List ℕ → ℕ → ℕ
rank t i = size (leaving_of t (from t i) i)

-- "its target at the node": the target, at a node, of row i of the new chart, as readers take it
abbrev pub target_of : Chart → Graph → ℕ → ℕ → ℕ
target_of new G n i = read_target new.table G n (rank new.table i)
