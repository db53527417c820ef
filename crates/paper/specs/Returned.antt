-- A record is what Algorithms 2 and 1 return, given the old chart and "the new chart without such rows" as never hold
-- (document 02, #101): document 01's marks, targets and sets in the source's words. That every build leaves such a
-- record is the theorem in proofs/Theorem.antt, and that there is no other one of the stated lengths that in
-- proofs/Determined.antt.
use Rattle.std.specs.Prelude.{◌≡◌, ◌⊎◌, ◌≢◌, ◌↔◌, ℕ, ◌≤◌, ◌<◌}
use Rattle.chart.specs.declared.places.NewPlace.{NewPlace}
use Rattle.chart.specs.Places.{new_of}
use Rattle.chart.specs.Charts.{Chart, size, leaving}
use Rattle.chart.specs.Compared.{Compared}
use Rattle.chart.specs.Possible.{possible, stripped, number_in}
use Rattle.records.specs.Records.{Record, mark, set_at, target}
use Rattle.paper.specs.Nodes.{SetOf, ◌is_in◌, ◌is_not_in◌, Pair, Node, aligned, Edge, edge, number, node_number, pair_of, Numbered, NodeNumbered}
use Rattle.paper.specs.Lines5to18.{Lines5to18}
use Rattle.paper.specs.Algorithm2.{State, DifferenceGraph, Lowest, Run, Ended, returned}
use Rattle.paper.specs.Algorithm1.{Search, F, Transition}

-- an edge is told by its number among the rows that are left at a place, a target by "a place's first and second row":
-- which one of all rows that leave q is the r-th of those that are left. Beyond these it is 0, and there is no edge
abbrev pub seat : Chart → NewPlace → ℕ → ℕ
seat new q r = number_in (leaving new.table q.0) r

-- a node, if it has a number, with a mark that is so
abbrev pub Marked : Record → (ℕ → Type 0) → Node → Type 0
Marked R P x = NodeNumbered x × P (mark R.graph (node_number x))

module _ (new : Chart) (R : Record) where
  -- an edge as the record has it: "targets ([..] at 2 × pair + 0 or 1 for a place's first and second row)". 65535 is no
  -- node's number
  pub record Targeted (e : Edge) : Type 0 where
    pub pred : Numbered e.pred
    pub there : e.row < size (leaving (possible new).table e.pred.new.0)
    pub succ : NodeNumbered e.succ
    pub is : target R.graph (number e.pred) (seat new e.pred.new e.row) ≡ node_number e.succ

  -- the target of row k of pair i is a node, and there is an edge to it by that row
  pub record Aimed (G : DifferenceGraph) (i k : ℕ) : Type 0 where
    pub row : ℕ
    pub seated : seat new (new_of i) row ≡ k
    pub node : Node
    pub is : node_number node ≡ target R.graph i k
    pub edge : G.E (edge (pair_of i) row node)

  -- the difference graph G, with the sets V_δ
  pub record IsGraph (G : DifferenceGraph) (Vδ : Pair → ℕ) : Type 0 where
    pub start : R.start ≡ node_number G.n₀
    pub nodes : (x : Node) → (x is_in G.N) ↔ Marked R (λ m. m ≢ 0) x
    pub kept : (x : Node) → (x is_in G.Δ) ↔ Marked R (λ m. m ≡ 2) x
    pub edges : (e : Edge) → G.E e ↔ Targeted e
    -- "unused targets are 65535", and "A new row that never holds has target 65535": every other one is that of an edge
    pub aims : (i k : ℕ) → i < 4096 → k < 2 → (target R.graph i k ≡ 65535) ⊎ Aimed G i k
    -- V_δ on N_l, and 0 elsewhere
    pub sets : (n : Pair) → aligned n is_in G.N → set_at R.graph (number n) ≡ Vδ n
    pub bare : (n : Pair) → Numbered n → aligned n is_not_in G.N → set_at R.graph (number n) ≡ 0

  -- the condition that lines 6 and 7 make of it with Q
  pub record IsCondition (G : DifferenceGraph) (Q : SetOf Node) : Type 0 where
    -- marks 1 and 2 are Q, mark 3 is F; and no mark is above 4, so that 4 is the rest of N
    pub highest : (k : ℕ) → k < 4160 → mark R.graph k ≤ 4
    pub open_or_kept : (x : Node) → (x is_in Q) ↔ Marked R (λ m. (m ≡ 1) ⊎ (m ≡ 2)) x
    pub covered : (x : Node) → F G Q x ↔ Marked R (λ m. m ≡ 3) x
    -- "The condition's transitions are the targets of open pairs": those of line 7; and each target of an open pair is
    -- one, 65535 excepted
    pub transitions : (e : Edge) → Transition G Q e ↔ (Targeted e × (mark R.graph (number e.pred) ≡ 1))
    pub each : (i k : ℕ) → i < 4096 → k < 2 → mark R.graph i ≡ 1 → target R.graph i k ≢ 65535
        → (A : Aimed G i k) × Transition G Q (edge (pair_of i) A.row A.node)

-- the run of Algorithm 2 that always pops the lowest waiting pair, to its end, and the graph that it returns; and of
-- Algorithm 1 on that graph some search that ends, while every one that ends finds the same condition. Both are "given
-- the new chart without such rows"
pub record Returned (X : Compared) (R : Record) : Type 0 where
  pub state : State
  pub ran : Run (stripped X) (Lines5to18 (stripped X)) Lowest state
  pub ended : Ended state
  pub graph : IsGraph X.new R (returned (stripped X) state) state.Vδ
  pub Q : SetOf Node
  pub waitlist : SetOf Node
  pub searched : Search (returned (stripped X) state) Q waitlist
  pub emptied : (n : Node) → n is_not_in waitlist
  pub condition : {Q W : SetOf Node} → Search (returned (stripped X) state) Q W → ((n : Node) → n is_not_in W)
      → IsCondition X.new R (returned (stripped X) state) Q
