-- Demand 2 in the source's words: what a build leaves is what Algorithms 2 and 1 return, given the new chart without
-- the rows that never hold. For any two faultless charts Algorithm 2, popping the lowest waiting pair each time, has a
-- run that ends; the record of the build is the graph that its lines 19 to 21 return, and its marks are the condition
-- that Algorithm 1 makes of that graph. What each of these words means is `Returned`, in specs/Returned.antt. That the
-- code leaves this record is the contract of `builder::build`. Assumes nothing.
use mathlib.Core.Path.{◌≡◌, refl, sym, ap, subst, ◌∙◌}
use mathlib.Core.Bool.{Bool, true, false, ◌&&◌, ◌||◌, not}
use mathlib.Core.Logic.{⊎_elim}
use Prim.Native.Nat.{ℕ}
use native.Mathlib.Omega.{arith}
use lib.Dec.{eqb}
use lib.ListN.{length-map}
use Rattle.chart.proofs.Words.{Words}
use Rattle.chart.specs.Charts.{Chart}
use Rattle.chart.specs.Compared.{Compared, heads_of}
use Rattle.chart.specs.Faultless.{FaultlessChart}
use Rattle.chart.specs.Possible.{stripped}
use Rattle.records.specs.Records.{Record, record_of}
use Rattle.graph.specs.Buffers.{Buffers, buffers, marked}
use Rattle.chart.proofs.Starts.{first_pair, first_kept}
use Rattle.detector.specs.Turns.{explored}
use Rattle.marker.specs.Marks.{final_marks}
use Rattle.condition.specs.Builds.{redirected, final_targets, alone, finished, built, start_of, recorded}
use Rattle.condition.specs.Builds as builds
use Rattle.graph.proofs.Graphs.{marked_no}
use Rattle.detector.proofs.Measure.{nothing_waits}
use Rattle.detector.proofs.Invariant.{explored_inv}
use Rattle.condition.proofs.Left.{final}
use Rattle.paper.specs.Nodes.{SetOf, ◌is_not_in◌, Pair, Node, edge, number, NodeNumbered}
use Rattle.paper.specs.Algorithm2.{State, DifferenceGraph, Ended, line19, lone, whole, returned}
use Rattle.paper.specs.Algorithm1.{Search}
use Rattle.paper.specs.Returned.{IsGraph, IsCondition, Returned}
use Rattle.paper.proofs.Lengths.{Lengths}
use Rattle.paper.proofs.Members.{in_or_not, pair_is, number-below, numbered}
use Rattle.paper.proofs.Searching.{Found, search-ends, same-node}
use Rattle.paper.proofs.Seats.{few_left}
use Rattle.paper.proofs.Rows.{Reads}
use Rattle.paper.proofs.Rounds.{explored-ran}
use Rattle.paper.proofs.Returning.{whole-graph}
use Rattle.paper.proofs.Conditions.{whole-condition}
use Rattle.paper.proofs.Alone.{lone-graph, lone-condition}

-- the graph that is returned, and one run of Algorithm 1 on it
pub record Ends (new : Chart) (R : Record) (G : DifferenceGraph) (Vδ : Pair → ℕ) : Type 0 where
  pub lengths : Lengths R
  pub graph : IsGraph new R G Vδ
  pub found : Found G
  pub condition : {Q W : SetOf Node} → Search G Q W → ((n : Node) → n is_not_in W) → IsCondition new R G Q

searched : (X : Compared) → FaultlessChart X.new → Words X.new.table
    → {R : Record} {G : DifferenceGraph} {Vδ : Pair → ℕ} → IsGraph X.new R G Vδ → NodeNumbered G.n₀ → Found G
searched X H wn {R} {G} g a = search-ends X.new R G g.edges (λ e t. few_left X H wn e.pred.new e.row t.there) a (λ x e. ((g.kept x).0 e).0)

module _ (X : Compared) (F : FaultlessChart X.old) (H : FaultlessChart X.new) (wn : Words X.new.table) (s : State) (reads : Reads X s (explored X)) where
  -- nothing waits
  ended : Ended s
  ended n =
      ⊎_elim
      (λ e. let B = reads.sets.waits_numbered n e in
      let l = number-below n B in
      sym (ap s.waitlist (pair_is n B)) ∙ reads.sets.waits (number n) l ∙ marked_no (explored X).waiting (number n) (nothing_waits X F H (number n) l))
      (λ e. e) (in_or_not (s.waitlist n))

  -- line 19
  line19-is : line19 (stripped X) s ≡ alone (heads_of X) (explored X).marks
  unfolding line19 alone
  line19-is =
      rw (reads.sets.Δ (record { 0 = 0 }) (omega arith))
      (go (marked (explored X).marks (first_kept X)) (eqb 0 X.new.head.alarm) (eqb 0 X.old.head.alarm))
    where
      go : (k a b : Bool) → k || (a && not b) ≡ k || not (not a || b)
      go true a b = refl
      go false true true = refl
      go false true false = refl
      go false false b = refl

  -- what the build leaves
  left : Bool → Buffers
  left b =
      elim b [
        | true ↦ builds.lone (heads_of X)
        | false ↦
            buffers (final_marks (first_pair X) (final_targets (explored X)) (explored X).marks) (final_targets (explored X))
            (explored X).sets (explored X).waiting
      ]

  -- lines 20 and 21, or line 19; b tells whether the start is the lone kept node
  ends : (b : Bool) → alone (heads_of X) (explored X).marks ≡ b
      → Ends X.new
      (record_of (elim b [ true ↦ first_kept X | false ↦ first_pair X ]) (left b).marks (left b).targets (left b).sets)
      (elim b as (λ _. DifferenceGraph) [ true ↦ lone (stripped X) | false ↦ whole (stripped X) s ]) s.Vδ
  unfolding left builds.lone final_targets
  ends true e =
      let g = lone-graph X H wn s.Vδ in
      record { lengths = record { marks = refl; targets = refl; sets = refl }; graph = g; found = searched X H wn g (omega arith); condition = λ f e. lone-condition X H wn f }
  ends false e =
      let g = whole-graph X F H wn s reads e in
      let S = (explored_inv X F H).shaped.sized in
      record {
        lengths =
            record {
              marks = (final X F H e).ranks.long;
              targets = length-map (explored X).targets (redirected (explored X).marks) ∙ S.targets;
              sets = S.sets;
            };
        graph = g;
        found = searched X H wn g (numbered 0 (omega arith));
        condition = λ f z. whole-condition X F H wn s reads e f z;
      }

  -- whichever state reads what the build explores: the build's record is the graph that is returned there, with its
  -- condition
  pub read_ends : Ends X.new (recorded X) (returned (stripped X) s) s.Vδ
  unfolding recorded built finished start_of returned left
  read_ends =
      subst (λ (b : Bool). Ends X.new (recorded X) (elim b as (λ _. DifferenceGraph) [ true ↦ lone (stripped X) | false ↦ whole (stripped X) s ]) s.Vδ)
      (sym line19-is) (ends (alone (heads_of X) (explored X).marks) refl)

-- every build is one run of the source's algorithms
pub demand_2 : (X : Compared) → FaultlessChart X.old → FaultlessChart X.new → Words X.old.table → Words X.new.table
    → Returned X (recorded X)
demand_2 X F H wo wn =
    let A = explored-ran X F H wo wn in
    let E = read_ends X F H wn A.state A.reads in
    record {
      state = A.state;
      ran = A.run;
      ended = ended X F H wn A.state A.reads;
      graph = E.graph;
      Q = E.found.Q;
      waitlist = E.found.W;
      searched = E.found.search;
      emptied = E.found.emptied;
      condition = E.condition;
    }

-- a pair and a row have one edge
pub one-edge : {new : Chart} {R : Record} {G : DifferenceGraph} {Vδ : Pair → ℕ} → IsGraph new R G Vδ → (n : Pair) (r : ℕ) (x y : Node) → G.E (edge n r x) → G.E (edge n r y) → x ≡ y
one-edge g n r x y d e =
    let a = (g.edges (edge n r x)).0 d in
    let b = (g.edges (edge n r y)).0 e in
    same-node x y a.succ b.succ (sym a.is ∙ b.is)
