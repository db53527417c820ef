-- The marks of a build are the condition that lines 6 and 7 of Algorithm 1 make of the graph, whichever nodes line 3
-- popped. Assumes nothing.
use mathlib.Core.Path.{◌≡◌, refl, sym, ap, subst, ◌∙◌}
use mathlib.Core.Bool.{true, false}
use mathlib.Core.Logic.{◌⊎◌, inl, inr, ⊎_elim, dite, ◌≢◌}
use Prim.Native.Nat.{ℕ, ◌≤◌, ◌<◌}
use native.Mathlib.Omega.{arith}
use native.Mathlib.Decide.{dec_lt}
use lib.ListN.{get_or-eq_default}
use Rattle.base.proofs.Tests.{T_true}
use Rattle.chart.specs.Places.{kept_number, new_of}
use Rattle.chart.specs.Compared.{Compared, heads_of}
use Rattle.chart.proofs.Words.{Words}
use Rattle.chart.specs.Faultless.{FaultlessChart}
use Rattle.chart.specs.Possible.{stripped}
use Rattle.records.specs.Records.{mark, target}
use Rattle.chart.proofs.Starts.{first_pair}
use Rattle.detector.specs.Turns.{explored}
use Rattle.condition.specs.Builds.{final_targets, alone}
use Rattle.graph.proofs.Graphs.{mark_at}
use Rattle.detector.proofs.Invariant.{explored_inv}
use Rattle.marker.proofs.Least.{Closed}
use Rattle.marker.proofs.Marks.{rank-pair}
use Rattle.condition.proofs.Left.{marks, left, final}
use Rattle.condition.proofs.Right.{open_closed, open_least, covered_only, covered_all}
use Rattle.paper.specs.Nodes.{SetOf, ◌is_in◌, ◌is_not_in◌, Pair, Node, aligned, indicator, Edge, edge, only_node, number, node_number, pair_of, Numbered, NodeNumbered}
use Rattle.paper.specs.Algorithm2.{State, DifferenceGraph, nodes, indicators, whole}
use Rattle.paper.specs.Algorithm1.{Search, F, Transition}
use Rattle.paper.specs.Returned.{seat, Marked, Targeted, Aimed, IsGraph, IsCondition}
use Rattle.paper.proofs.Members.{in_first, in_second, not_in, in_or_not, the_node, pair_is, number_is, number-below, numbered}
use Rattle.paper.proofs.Searching.{within, first_found, closed, node-below, same-node}
use Rattle.paper.proofs.Seats.{at_pair, first_or_second}
use Rattle.paper.proofs.Rows.{Reads}
use Rattle.paper.proofs.Returning.{built-graph, left-mark, mark-most, whole-graph}

module _ (X : Compared) (F' : FaultlessChart X.old) (H : FaultlessChart X.new) (wn : Words X.new.table) (last : State) (reads : Reads X last (explored X))
    (joint : alone (heads_of X) (explored X).marks ≡ false) where
  abbrev G : DifferenceGraph
  G = whole (stripped X) last

  abbrev W : IsGraph X.new (built-graph X F' H wn last reads joint) G last.Vδ
  W = whole-graph X F' H wn last reads joint

  abbrev m : ℕ → ℕ
  m k = mark (left X F' H joint) k

  abbrev to : ℕ → ℕ → ℕ
  to i r = target (left X F' H joint) i r

  -- a target by a row that is left is one of two
  two : {e : Edge} → Targeted X.new (built-graph X F' H wn last reads joint) e → seat X.new e.pred.new e.row < 2
  two {e} t = first_or_second X H wn (at_pair X e.pred t.pred e.row t.there)

  Open : Node → Type 0
  Open x = Marked (built-graph X F' H wn last reads joint) (λ k. (k ≡ 1) ⊎ (k ≡ 2)) x

  -- a pair of Q is open
  pair_open : (n : Pair) → Numbered n → (m (number n) ≡ 1) ⊎ (m (number n) ≡ 2) → m (number n) ≡ 1
  unfolding indicators
  pair_open n B e = ⊎_elim (λ a. a) (λ a. absurd (not_kept ((W.kept (aligned n)).1 (B, a)))) e
    where
      not_kept : G.Δ (aligned n) ≡ true → ⊥
      not_kept e = T_true e

  module _ {Q waits : SetOf Node} (search : Search G Q waits) (emptied : (x : Node) → x is_not_in waits) where
    Q_open : (x : Node) → x is_in Q → Open x
    unfolding Open nodes
    Q_open =
        (within G Open (numbered 0 (omega arith), inl (final X F' H joint).start) (λ x e. let k = (W.kept x).0 e in (k.0, inr k.1))
        (λ p x o D. let t = (W.edges (edge D.pair D.row x)).0 D.edge in
        let z = open_closed X F' H joint (number D.pair) (seat X.new D.pair.new D.row) (number-below D.pair t.pred) ((W.nodes (aligned D.pair)).0 D.edge.from).1 (two t)
        (subst (λ (k : ℕ). (m k ≡ 1) ⊎ (m k ≡ 2)) (sym t.is) o.1) in
        subst Open (sym D.is) (t.pred, inl z)) search).1

    -- an edge of the graph by pair and target
    led : (i k : ℕ) → i < 4096 → k < 2 → (x : Node) → NodeNumbered x → to i k ≡ node_number x → (r : ℕ) × G.E (edge (pair_of i) r x)
    led i k l c x B e =
        ⊎_elim (λ u. absurd (omega (arith, node-below x B)))
        (λ A. let z : A.node ≡ x = same-node A.node x ((W.nodes A.node).0 A.edge.to).0 B (A.is ∙ e) in
        (A.row, subst (λ (y : Node). G.E (edge (pair_of i) A.row y)) z A.edge)) (W.aims i k l c)

    kept-Q : (x : Node) → NodeNumbered x → m (node_number x) ≡ 2 → x is_in Q
    kept-Q x B e = first_found G search x (in_second (only_node G.n₀ x) (G.Δ x) ((W.kept x).1 (B, e)))

    Found : ℕ → Type 0
    Found k = (k < 4096) × (aligned (pair_of k) is_in Q)

    found_closed : Closed (explored X).marks (final_targets (explored X)) (explored_inv X F' H).shaped.sized.marks Found
    unfolding Found
    found_closed i k l p c e = (l, ⊎_elim (λ f. by (aligned (pair_of (to i k))) (numbered (to i k) f.0) (sym (number_is (to i k))) f.1) (λ f. up f.0 f.1) e)
      where
        by : (x : Node) → NodeNumbered x → to i k ≡ node_number x → x is_in Q → aligned (pair_of i) is_in Q
        by x B z q = let (r, E) = led i k l c x B z in closed G search (aligned (pair_of i)) x q (emptied x) (record { pair = pair_of i; row = r; is = refl; edge = E })

        up : 4096 ≤ to i k → 0 < mark_at (explored X) (to i k) → aligned (pair_of i) is_in Q
        up a b =
            let d : to i k < 4160 = dite (dec_lt (to i k) 4160) (λ z. z) (λ z. absurd (omega (arith, get_or-eq_default (explored X).marks 0 {n = to i k} (omega (arith, (explored_inv X F' H).shaped.sized.marks))))) in
            let z : to i k ≡ kept_number (new_of (to i k)) = omega arith in
            by (indicator (new_of (to i k))) (omega arith) z (kept-Q (indicator (new_of (to i k))) (omega arith) (subst (λ (j : ℕ). m j ≡ 2) z ((final X F' H joint).ranks.node (to i k) a d b)))

    found_first : Found (first_pair X)
    unfolding Found
    found_first = (omega arith, first_found G search (aligned (pair_of 0)) (in_first (only_node G.n₀ (aligned (pair_of 0))) (G.Δ (aligned (pair_of 0))) (the_node (aligned (pair_of 0)))))

    open_Q : (x : Node) → Open x → x is_in Q
    unfolding Open Found
    open_Q x o = ⊎_elim (λ e. one x o.0 e) (λ e. kept-Q x o.0 e) o.1
      where
        one : (x : Node) → NodeNumbered x → m (node_number x) ≡ 1 → x is_in Q
        one (aligned n) B e =
            let f = open_least X F' H joint Found found_first found_closed (number n) e in
            subst (λ (k : Pair). aligned k is_in Q) (pair_is n B) f.1
        one (indicator q) b e =
            absurd (let z = rank-pair (explored X).marks (marks X F' H joint) (final X F' H joint).ranks (kept_number q) (omega arith) (λ k. omega arith) in omega arith)

    not_open : (x : Node) → NodeNumbered x → x is_not_in Q → (m (node_number x) ≡ 1 → ⊥) × (m (node_number x) ≡ 2 → ⊥)
    unfolding Open
    not_open x B o = (λ e. not_in (open_Q x (B, inl e)) o, λ e. not_in (open_Q x (B, inr e)) o)

    -- a pair of Q has mark 1
    pair_one : (n : Pair) → aligned n is_in Q → m (number n) ≡ 1
    unfolding Open
    pair_one n e = let o = Q_open (aligned n) e in pair_open n o.0 o.1

    -- ---- line 6
    F-covered : (x : Node) → F G Q x → Marked (built-graph X F' H wn last reads joint) (λ k. k ≡ 3) x
    F-covered x f =
        let D = f.edge in
        let t = (W.edges (edge D.pair D.row x)).0 D.edge in
        let there = (W.nodes x).0 D.edge.to in
        let o = not_open x there.0 f.outside in
        let below : node_number x < 4096 =
        dite (dec_lt (node_number x) 4096) (λ z. z)
        (λ z. let k = left-mark X F' H wn last reads joint (node_number x) there.1 in absurd (o.1 ((final X F' H joint).ranks.node (node_number x) (omega arith) k.0 k.1))) in (
          there.0,
          subst (λ (k : ℕ). m k ≡ 3) t.is
              (covered_all X F' H joint (number D.pair) (seat X.new D.pair.new D.row) (number-below D.pair t.pred) (pair_one D.pair (subst (λ (y : Node). y is_in Q) D.is f.«open»)) (two t) (omega (arith, t.is))
              (subst (λ (k : ℕ). m k ≢ 0) (sym t.is) there.1) (subst (λ (k : ℕ). m k ≢ 1) (sym t.is) o.0)),
        )

    covered-F : (x : Node) → Marked (built-graph X F' H wn last reads joint) (λ k. k ≡ 3) x → F G Q x
    unfolding Open
    covered-F x M =
        let T = covered_only X F' H joint (node_number x) M.1 in
        let l = rank-pair (explored X).marks (marks X F' H joint) (final X F' H joint).ranks T.pair (omega (arith, T.«open»)) (λ k. omega (arith, T.«open»)) in
        let (r, E) = led T.pair T.row l T.two x M.0 T.is in
        record {
          pred = aligned (pair_of T.pair);
          edge = record { pair = pair_of T.pair; row = r; is = refl; edge = E };
          «open» = open_Q (aligned (pair_of T.pair)) (numbered T.pair l, inl (ap m (number_is T.pair) ∙ T.«open»));
          outside = ⊎_elim (λ h. absurd (let o = Q_open x h in ⊎_elim (λ e. omega (arith, M.1)) (λ e. omega (arith, M.1)) o.1)) (λ h. h) (in_or_not (Q x));
        }

    -- ---- line 7
    transition : (e : Edge) → Targeted X.new (built-graph X F' H wn last reads joint) e → m (number e.pred) ≡ 1 → Transition G Q e
    unfolding Open
    transition e t o =
        let f = (W.edges e).1 t in
        let q = open_Q (aligned e.pred) (t.pred, inl o) in
        record {
          edge = f;
          from = q;
          to = ⊎_elim (λ h. inl h) (λ h. inr (record { pred = aligned e.pred; edge = record { pair = e.pred; row = e.row; is = refl; edge = f }; «open» = q; outside = h })) (in_or_not (Q e.succ));
        }

    each : (i k : ℕ) → i < 4096 → k < 2 → m i ≡ 1 → to i k ≢ 65535
        → (A : Aimed X.new (built-graph X F' H wn last reads joint) G i k) × Transition G Q (edge (pair_of i) A.row A.node)
    each i k l c o u =
        ⊎_elim (λ d. absurd (u d))
        (λ A. let e = edge (pair_of i) A.row A.node in (A, transition e ((W.edges e).0 A.edge) (ap m (number_is i) ∙ o)))
        (W.aims i k l c)

    pub whole-condition : IsCondition X.new (built-graph X F' H wn last reads joint) G Q
    unfolding Open
    whole-condition =
        record {
          highest = λ k l. mark-most X F' H wn last reads joint k;
          open_or_kept = λ x. (Q_open x, open_Q x);
          covered = λ x. (F-covered x, covered-F x);
          transitions = λ e. (λ t. ((W.edges e).0 t.edge, pair_one e.pred t.from), λ t. transition e t.0 t.1);
          each = each;
        }
