-- The source's Algorithm 2, the difference detector, line by line. P is the old chart, P' the new one; ℓ_err and ℓ'_err
-- are their alarms. It has two parameters: the waiting pairs that line 3 may pop, which the source leaves open
-- (document 01's choice is `Lowest`), and lines 5 to 18, which are transcribed by themselves in Lines5to18.antt. Lines
-- are counted as the listing counts them; the source's prose counts those of PROCESS one lower. "Edition 2 is compared
-- with Algorithm 2 plus these footnotes" (document 02, #104): footnote 8 stands beside line 27.
use Rattle.std.specs.Prelude.{Bool, true, false, ◌&&◌, ◌||◌, not, ◌≡◌, ◌⊎◌, List, ℕ, suc, ◌≤◌, eqb, Option, None, Some}
use Rattle.operations.specs.declared.Operation.{Operation}
use Rattle.chart.specs.declared.places.OldPlace.{OldPlace}
use Rattle.chart.specs.declared.places.NewPlace.{NewPlace}
use Rattle.chart.specs.Compared.{Compared}
use Rattle.chart.specs.Charts.{start, size, to, operation, leaving}
use Rattle.align.specs.declared.spots.Spot.{Spot}
use Rattle.sets.specs.Sets.{joined, holds_all}
use Rattle.paper.specs.Lines5to18.{Loop}
use Rattle.paper.specs.Nodes.{SetOf, ◌is_in◌, ◌is_not_in◌, empty_set, ◌plus◌, ◌minus◌, Pair, pair, Node, aligned, indicator, Edge, edge, only_place, only_pair, only_edge, only_node, with_place, number}

-- the variables of line 1. V_δ gives each pair a set of variables, as a number whose bit i tells of vi
-- (sets/specs/Sets.antt)
pub record State : Type 0 where
  pub waitlist : SetOf Pair
  pub Nₗ : SetOf Pair
  pub Eₗ : SetOf Edge
  pub Δ : SetOf NewPlace
  pub Vδ : Pair → ℕ

-- lines 5 to 18, a parameter: from ℓ_1, V_δ of the pair and the operation op' of the edge to what PROCESS is called
-- with, `none` for ℓ'_2 or ℓ of the pair (ℓ, ℓ'_2) with V_diff
abbrev pub Step : Type 1
Step = OldPlace → ℕ → Operation → Option Spot → Type 0

-- which waiting pairs line 3 may pop, a parameter
abbrev pub Choice : Type 1
Choice = State → Pair → Type 0

-- document 01's choice: "Take the lowest waiting pair"
abbrev pub Lowest : Choice
Lowest s n = (m : Pair) → m is_in s.waitlist → number n ≤ number m

-- line 3
unfoldable pub popped : State → Pair → State
popped s n = record { waitlist = s.waitlist minus only_pair n; Nₗ = s.Nₗ; Eₗ = s.Eₗ; Δ = s.Δ; Vδ = s.Vδ }

-- ---- PROCESS((pred, g', succ), V_diff), lines 22 to 33
-- lines 23 to 25: succ is in L'
unfoldable pub to_place : State → Pair → ℕ → NewPlace → State
to_place s pred g succ =
    record {
      -- line 24
      Δ = s.Δ plus only_place succ;
      Eₗ = s.Eₗ plus only_edge (edge pred g (indicator succ));
      -- line 25
      Nₗ = s.Nₗ minus with_place succ;
      waitlist = s.waitlist minus with_place succ;
      Vδ = s.Vδ;
    }

module _ (X : Compared) where
  -- ℓ_0, as in lines 1, 19 and 21
  abbrev pub ℓ₀ : OldPlace
  ℓ₀ = record { 0 = start X.old.head }

  -- ℓ'_0, as in lines 1, 19 and 21
  abbrev pub ℓ₀' : NewPlace
  ℓ₀' = record { 0 = start X.new.head }

  -- ℓ_err, as in footnote 8
  abbrev pub ℓ-err : OldPlace
  ℓ-err = record { 0 = X.old.head.alarm }

  -- ℓ_err by its test, as in lines 19, 27 and 29
  abbrev pub is_err : OldPlace → Bool
  is_err p = eqb p.0 X.old.head.alarm

  -- ℓ'_err by its test, as in lines 19 and 27
  abbrev pub is_err' : NewPlace → Bool
  is_err' q = eqb q.0 X.new.head.alarm

  -- line 1. Document 01: "Waiting: node 0, set empty, in the graph, even where place 0 is the old alarm."
  unfoldable pub begun : State
  begun =
      record {
        waitlist = only_pair (pair ℓ₀ ℓ₀');
        Nₗ = only_pair (pair ℓ₀ ℓ₀');
        Eₗ = empty_set;
        Δ = empty_set;
        Vδ = λ n. 0;
      }

  -- the test of line 29: succ is not in L × Δ, not in {ℓ_err} × L', and not in N_l or V_diff is not within V_δ(succ)
  unfoldable pub line29 : State → Pair → ℕ → Bool
  line29 s succ v =
      not (s.Δ succ.new) && (not (is_err succ.old) && (not (s.Nₗ succ) || not (holds_all (s.Vδ succ) v)))

  -- lines 29 to 33
  unfoldable pub to_pair : State → Pair → ℕ → Pair → ℕ → State
  to_pair s pred g succ v =
      record {
        -- lines 29 and 30
        waitlist = elim (line29 s succ v) [ true ↦ s.waitlist plus only_pair succ | false ↦ s.waitlist ];
        -- lines 31 and 32, where succ is not in L × Δ
        Nₗ = elim (s.Δ succ.new) [ true ↦ s.Nₗ | false ↦ s.Nₗ plus only_pair succ ];
        Vδ = λ n. elim (not (s.Δ succ.new) && only_pair succ n) [ true ↦ joined (s.Vδ n) v | false ↦ s.Vδ n ];
        -- line 33
        Eₗ = s.Eₗ plus only_edge (edge pred g (aligned succ));
        Δ = s.Δ;
      }

  -- the test of line 27: succ is in (L \ {ℓ_err}) × {ℓ'_err}
  unfoldable pub line27 : Pair → Bool
  line27 succ = not (is_err succ.old) && is_err' succ.new

  -- footnote 8, in edition 2: the implementation "first searches for an error location of the original program in its
  -- follow-up sequence of assignments": the loop of lines 12 to 14 comes from ℓ to ℓ_err, and V_diff gains what is
  -- written. "a place met twice ends the search" (document 02, #104): in a faultless chart the loop does not come to
  -- ℓ_err from there (`search-rescues`, proofs/Process.antt)
  pub record Footnote8 (ℓ : OldPlace) (Vdiff Vdiff' : ℕ) : Type 0 where
    pub edition : X.edition ≡ 2
    pub been : SetOf OldPlace
    pub search : Loop X ℓ Vdiff been ℓ-err Vdiff'

  -- PROCESS, lines 22 to 33, from a state to the one that it leaves: by the tests of lines 23 and 27
  pub data Process (s : State) (pred : Pair) (g : ℕ) : Node → ℕ → State → Type 0 where
    lines23to25 : {succ : NewPlace} {v : ℕ} → Process s pred g (indicator succ) v (to_place s pred g succ)
    -- PROCESS((pred, g', ℓ'_err), ∅)
    line27-so : {succ : Pair} {v : ℕ}
        → line27 succ ≡ true → ((v' : ℕ) → Footnote8 succ.old v v' → ⊥)
        → Process s pred g (aligned succ) v (to_place s pred g succ.new)
    -- in the place of line 27: "the step goes to both alarms and the set gains what was written" (document 02, #104)
    footnote8 : {succ : Pair} {v v' : ℕ}
        → line27 succ ≡ true → Footnote8 succ.old v v'
        → Process s pred g (aligned succ) v (to_pair s pred g (pair ℓ-err succ.new) v')
    lines29to33 : {succ : Pair} {v : ℕ}
        → line27 succ ≡ false → Process s pred g (aligned succ) v (to_pair s pred g succ v)

  -- ---- lines 1 to 18
  -- line 4: the edges g' = (ℓ'_1, op', ℓ'_2) that leave ℓ'_1
  abbrev pub edges : NewPlace → List ℕ
  edges q = leaving X.new.table q.0

  -- line 4: ℓ'_2 of edge r of these
  abbrev pub ℓ₂' : NewPlace → ℕ → NewPlace
  ℓ₂' q r = record { 0 = to (edges q) r }

  -- the calls of PROCESS in line 16, or where lines 12 to 14 are cut; and in lines 9, 10 (and its footnote 6), 17 and
  -- 18: from a state to the one that the call leaves
  abbrev pub Called : State → Pair → ℕ → Option Spot → State → Type 0
  Called s n r None t = Process s n r (indicator (ℓ₂' n.new r)) 0 t
  Called s n r (Some h) t = Process s n r (aligned (pair h.place (ℓ₂' n.new r))) h.set t

  module _ (lines5to18 : Step) where
    -- line 4: the first k edges of the pair n one after another, "its rows in table order, reading its set afresh for
    -- each". V_δ keeps the set of a pair that left N_l: "Rows of the pair in hand are finished, under the set it had,
    -- even if it left the graph."
    pub data ForEach (s : State) (n : Pair) : ℕ → State → Type 0 where
      none_yet : ForEach s n 0 s
      one_more : {k : ℕ} {t u : State} (o : Option Spot) → ForEach s n k t
          → lines5to18 n.old (t.Vδ n) (operation (edges n.new) k) o
          → Called t n k o u → ForEach s n (suc k) u

    -- the states that the loop of line 2 can come to, where line 3 pops waiting pairs of this choice
    pub data Run (line3 : Choice) : State → Type 0 where
      line1 : Run line3 begun
      lines3to18 : {s t : State} (n : Pair) → Run line3 s → n is_in s.waitlist → line3 s n
          → ForEach (popped s n) n (size (edges n.new)) t → Run line3 t

-- line 2: the waitlist is empty
abbrev pub Ended : State → Type 0
Ended s = (n : Pair) → n is_not_in s.waitlist

-- ---- lines 19 to 21: the difference graph that is returned
-- "A DG(P, P') = (N, E, n_0, Δ)" (Definition 4)
pub record DifferenceGraph : Type 1 where
  pub N : SetOf Node
  pub E : Edge → Type 0
  pub n₀ : Node
  pub Δ : SetOf Node

-- line 21: N_l ∪ Δ
unfoldable pub nodes : State → SetOf Node
nodes s (aligned n) = s.Nₗ n
nodes s (indicator q) = s.Δ q

-- line 21: Δ, as nodes
unfoldable pub indicators : State → SetOf Node
indicators s (aligned n) = false
indicators s (indicator q) = s.Δ q

-- line 20: n' ∈ Δ ∧ ∃ (n, g, (·, n')) ∈ E_l
abbrev pub Replaced : State → Pair → ℕ → Node → Type 0
Replaced s n r (aligned m) = ⊥
Replaced s n r (indicator q) = (q is_in s.Δ) × ((p : OldPlace) × (edge n r (aligned (pair p q)) is_in s.Eₗ))

-- line 20. Document 01: "At the end a target whose new place is kept becomes that kept node."
pub record Line20 (s : State) (e : Edge) : Type 0 where
  pub from : e.pred is_in s.Nₗ
  pub to : e.succ is_in nodes s
  pub edge : (e is_in s.Eₗ) ⊎ Replaced s e.pred e.row e.succ

module _ (X : Compared) where
  -- the test of line 19: ℓ'_0 ∈ Δ ∨ (ℓ'_0 = ℓ'_err ∧ ℓ_0 ≠ ℓ_err)
  unfoldable pub line19 : State → Bool
  line19 s = s.Δ (ℓ₀' X) || (is_err' X (ℓ₀' X) && not (is_err X (ℓ₀ X)))

  -- line 19. Document 01: "If place 0 is kept, or is the new alarm without being the old one, the graph is node 4,096
  -- alone, kept"
  abbrev pub lone : DifferenceGraph
  lone =
      record {
        N = only_node (indicator (ℓ₀' X));
        E = λ e. ⊥;
        n₀ = indicator (ℓ₀' X);
        Δ = only_node (indicator (ℓ₀' X));
      }

  -- line 21
  abbrev pub whole : State → DifferenceGraph
  whole s = record { N = nodes s; E = Line20 s; n₀ = aligned (pair (ℓ₀ X) (ℓ₀' X)); Δ = indicators s }

  -- lines 19 and 21: what is returned, by the test of line 19
  unfoldable pub returned : State → DifferenceGraph
  returned s = elim (line19 s) [ true ↦ lone | false ↦ whole s ]
