-- Algorithm 1's search: it finds the least set that has n_0 and Δ and every node from which one of its nodes is reached
-- by an edge; and on a graph whose edges are a record's targets it can be run to its end. Assumes nothing.
use mathlib.Core.Path.{◌≡◌, refl, sym, ap, subst, ◌∙◌}
use mathlib.Core.Bool.{Bool, true, false, ◌&&◌, ◌||◌, not}
use mathlib.Core.Logic.{inl, inr, ⊎_elim, ◌↔◌, ◌≢◌}
use Rattle.std.specs.Prelude.{Option, Some}
use Prim.Native.Nat.{ℕ, zero, suc, ◌+◌, ◌≤◌, ◌<◌}
use native.Mathlib.Omega.{arith}
use borrow.Author.Tests.{eq-eqb, eqb-true, lt-ltb, le-ltb, ltb-true, ltb-false, not-true}
use lib.Dec.{eqb, ltb}
use Rattle.base.specs.Options.{when, first_of}
use Rattle.base.specs.Repeat.{repeated}
use Rattle.base.proofs.OnSome.{on_at, when-so, first_on}
use Rattle.base.proofs.Options.{none_of, not_due}
use Rattle.base.proofs.Repeat.{Falls, rests, repeated-keeps}
use Rattle.base.proofs.Sums.{sum, sum_lt, sum-most}
use Rattle.base.proofs.Tests.{T_true, is_true, and_true}
use Rattle.chart.specs.Places.{new_of}
use Rattle.chart.specs.Charts.{Chart, size, leaving}
use Rattle.chart.specs.Possible.{possible}
use Rattle.records.specs.Records.{Record, target}
use Rattle.paper.specs.Nodes.{SetOf, ◌is_in◌, ◌is_not_in◌, ◌plus◌, ◌minus◌, Pair, Node, aligned, indicator, Edge, edge, only_node, number, node_number, pair_of, Numbered, NodeNumbered}
use Rattle.paper.specs.Algorithm2.{DifferenceGraph}
use Rattle.paper.specs.Algorithm1.{Precedes, Turn, Search, line1, lines3to5}
use Rattle.paper.specs.Returned.{Targeted, seat}
use Rattle.paper.proofs.Members.{in_either, in_first, in_second, not_in, in_or_not, only_node_lem, the_node, pair_is, number_is, number-below, numbered}

-- ---- what any search finds
module _ (G : DifferenceGraph) where
  -- no more than every set that has n_0 and Δ and is so closed
  pub within : (S : Node → Type 0) → S G.n₀ → ((x : Node) → x is_in G.Δ → S x) → ((p x : Node) → S x → Precedes G p x → S p)
      → {Q W : SetOf Node} → Search G Q W → ((x : Node) → x is_in W → S x) × ((x : Node) → x is_in Q → S x)
  within S a b c line1 = (first, first)
    where
      first : (x : Node) → only_node G.n₀ x || G.Δ x ≡ true → S x
      first x e = ⊎_elim (λ h. subst S (only_node_lem G.n₀ x h) a) (λ h. b x h) (in_either (only_node G.n₀ x) (G.Δ x) e)
  within S a b c (lines3to5 n s t) =
      let ih = within S a b c s in (
        λ x e. ⊎_elim (λ h. ih.0 x h.0) (λ h. c x n (ih.0 n t.pops) h.0) ((t.waits x).0 e),
        λ x e. ⊎_elim (λ h. ih.1 x h) (λ h. c x n (ih.0 n t.pops) h) ((t.adds x).0 e),
      )

  pub first_found : {Q W : SetOf Node} → Search G Q W → (x : Node) → only_node G.n₀ x || G.Δ x ≡ true → x is_in Q
  first_found line1 x e = e
  first_found (lines3to5 n s t) x e = (t.adds x).1 (inl (first_found s x e))

  pub closed : {Q W : SetOf Node} → Search G Q W → (p x : Node) → x is_in Q → x is_not_in W → Precedes G p x → p is_in Q
  closed line1 p x q w d = absurd (not_in q w)
  closed (lines3to5 {Q} {W} {Q'} {W'} n s t) p x q w d =
      ⊎_elim (λ h. ⊎_elim (λ k. popped h k) (λ k. (t.adds p).1 (inl (closed s p x h k d))) (in_or_not (W x)))
      (λ h. ⊎_elim (λ k. ⊎_elim (λ j. popped k j) (λ j. (t.adds p).1 (inl (closed s p x k j d))) (in_or_not (W x))) (λ k. absurd (not_in ((t.waits x).1 (inr (h, k))) w)) (in_or_not (Q x)))
      ((t.adds x).0 q)
    where
      popped : x is_in Q → x is_in W → p is_in Q'
      popped h k =
          ⊎_elim (λ e. (t.adds p).1 (inr (subst (λ (y : Node). Precedes G p y) (sym (only_node_lem n x e)) d)))
          (λ e. absurd (not_in ((t.waits x).1 (inl (k, λ z. not_in (subst (λ (y : Node). y is_in only_node n) (sym z) (the_node n)) e))) w))
          (in_or_not (only_node n x))

-- ---- nodes by number
pub node_of : ℕ → Node
node_of i = elim (ltb i 4096) [ true ↦ aligned (pair_of i) | false ↦ indicator (new_of i) ]

pub node-is : (x : Node) → NodeNumbered x → node_of (node_number x) ≡ x
unfolding node_of
node-is (aligned n) B = rw (lt-ltb (number n) 4096 (number-below n B), node_of) (ap aligned (pair_is n B))
node-is (indicator q) b = rw (le-ltb (4096 + q.0) 4096 (omega arith), node_of) (ap (λ (y : ℕ). indicator (record { 0 = y })) (omega arith))

pub same-node : (x y : Node) → NodeNumbered x → NodeNumbered y → node_number x ≡ node_number y → x ≡ y
same-node x y A B e = sym (node-is x A) ∙ ap node_of e ∙ node-is y B

pub node-below : (x : Node) → NodeNumbered x → node_number x < 4160
node-below (aligned n) B = omega (arith, number-below n B)
node-below (indicator q) b = omega arith

-- every number below 4160 is one of them
pub node_of_numbered : (k : ℕ) → k < 4160 → NodeNumbered (node_of k) × (node_number (node_of k) ≡ k)
unfolding node_of
node_of_numbered k l = go (ltb k 4096) refl
  where
    go : (b : Bool) → ltb k 4096 ≡ b
        → let x : Node = elim b as (λ _. Node) [ true ↦ aligned (pair_of k) | false ↦ indicator (new_of k) ] in NodeNumbered x × (node_number x ≡ k)
    go true e = (numbered k (ltb-true k 4096 e), number_is k)
    go false e = let z = ltb-false k 4096 e in (omega arith, omega arith)

small : SetOf Pair
small n = ltb n.old.0 64 && ltb n.new.0 64

small_numbered : (n : Pair) → n is_in small → Numbered n
unfolding small
small_numbered n e =
    let z = and_true (ltb n.old.0 64) _ e in
    record { old = ltb-true n.old.0 64 z.0; new = ltb-true n.new.0 64 z.1 }

numbered_small : (n : Pair) → Numbered n → n is_in small
unfolding small
numbered_small n B = rw (lt-ltb n.old.0 64 B.old, lt-ltb n.new.0 64 B.new)

-- what a node still weighs: 2 outside Q, 1 in the waitlist
rest : Bool → Bool → ℕ
rest true true = 1
rest true false = 0
rest false true = 3
rest false false = 2

rest-most : (q w : Bool) → rest q w ≤ 3
unfolding rest
rest-most true true = omega arith
rest-most true false = omega arith
rest-most false true = omega arith
rest-most false false = omega arith

-- p: the node precedes the one popped; e: it is the one popped
rest_le : (q w p e : Bool) → rest (q || p) (w && not e || p && not q) ≤ rest q w
unfolding rest
rest_le true true true true = omega arith
rest_le true true true false = omega arith
rest_le true true false true = omega arith
rest_le true true false false = omega arith
rest_le true false true e = omega arith
rest_le true false false e = omega arith
rest_le false true true true = omega arith
rest_le false true true false = omega arith
rest_le false true false true = omega arith
rest_le false true false false = omega arith
rest_le false false true e = omega arith
rest_le false false false e = omega arith

rest_lt : (q p : Bool) → rest (q || p) (true && not true || p && not q) < rest q true
unfolding rest
rest_lt true true = omega arith
rest_lt true false = omega arith
rest_lt false true = omega arith
rest_lt false false = omega arith

-- ---- a search to the end
pub record Found (G : DifferenceGraph) : Type 0 where
  pub Q : SetOf Node
  pub W : SetOf Node
  pub search : Search G Q W
  pub emptied : (x : Node) → x is_not_in W

module _ (new : Chart) (R : Record) (G : DifferenceGraph) (edges : (e : Edge) → G.E e ↔ Targeted new R e) (few : (e : Edge) → Targeted new R e → e.row < 2) where
  -- the target of pair n by the r-th of the rows that are left is x
  hits : Node → Pair → ℕ → Bool
  hits x n r = ltb r (size (leaving (possible new).table n.new.0)) && eqb (target R.graph (number n) (seat new n.new r)) (node_number x)

  precedes : Node → SetOf Node
  precedes x (aligned n) = small n && (hits x n 0 || hits x n 1)
  precedes x (indicator q) = false

  precedes_numbered : (x p : Node) → p is_in precedes x → NodeNumbered p
  unfolding precedes
  precedes_numbered x (aligned n) e = small_numbered n (and_true (small n) _ e).0
  precedes_numbered x (indicator q) e = absurd (T_true e)

  module _ (x : Node) (B : NodeNumbered x) where
    precedes_so : (p : Node) → p is_in precedes x → Precedes G p x
    unfolding precedes hits
    precedes_so (indicator q) e = absurd (T_true e)
    precedes_so (aligned n) e =
        let z = and_true (small n) _ e in
        ⊎_elim (by 0 (small_numbered n z.0)) (by 1 (small_numbered n z.0)) (in_either (hits x n 0) (hits x n 1) z.1)
      where
        by : (r : ℕ) → Numbered n → hits x n r ≡ true → Precedes G (aligned n) x
        by r A h =
            let y = and_true (ltb r (size (leaving (possible new).table n.new.0))) _ h in
            record {
              pair = n;
              row = r;
              is = refl;
              edge = (edges (edge n r x)).1 (record { pred = A; there = ltb-true r _ y.0; succ = B; is = eqb-true (target R.graph (number n) (seat new n.new r)) (node_number x) y.1 });
            }

    so_precedes : (p : Node) → Precedes G p x → p is_in precedes x
    unfolding precedes hits
    so_precedes p D =
        let t = (edges (edge D.pair D.row x)).0 D.edge in
        subst (λ (y : Node). y is_in precedes x) (sym D.is) (rw (numbered_small D.pair t.pred) (by D.row (few _ t) (hit D.row t)))
      where
        hit : (r : ℕ) → Targeted new R (edge D.pair r x) → hits x D.pair r ≡ true
        hit r t = rw (lt-ltb r _ t.there, eq-eqb (target R.graph (number D.pair) (seat new D.pair.new r)) (node_number x) t.is)

        by : (r : ℕ) → r < 2 → hits x D.pair r ≡ true → hits x D.pair 0 || hits x D.pair 1 ≡ true
        by zero b h = in_first (hits x D.pair 0) (hits x D.pair 1) h
        by (suc zero) b h = in_second (hits x D.pair 0) (hits x D.pair 1) h
        by (suc (suc r)) b h = absurd (omega arith)

  record Now : Type 0 where
    Q : SetOf Node
    W : SetOf Node

  find : Now → Option ℕ
  find s = first_of 4160 (λ i. when (s.W (node_of i)) i)

  act : Now → ℕ → Now
  act s i = record { Q = s.Q plus precedes (node_of i); W = (s.W minus only_node (node_of i)) plus (precedes (node_of i) minus s.Q) }

  record Good (s : Now) : Type 0 where
    search : Search G s.Q s.W
    numbered : (x : Node) → x is_in s.W → NodeNumbered x

  found : (s : Now) (i : ℕ) → find s ≡ Some i → (i < 4160) × (node_of i is_in s.W)
  unfolding find
  found s i e =
      on_at Waits (first_on Waits 4160 (λ k. when (s.W (node_of k)) k) (λ k l. when-so Waits (s.W (node_of k)) k (λ t. (l, is_true (s.W (node_of k)) t)))) e
    where
      Waits : ℕ → Type 0
      Waits k = (k < 4160) × (node_of k is_in s.W)

  turn : (s : Now) (x : Node) → x is_in s.W → NodeNumbered x → Turn G s.Q s.W x (s.Q plus precedes x) ((s.W minus only_node x) plus (precedes x minus s.Q))
  turn s x w B =
      record {
        pops = w;
        adds = λ n. (
          λ e. ⊎_elim (λ h. inl h) (λ h. inr (precedes_so x B n h)) (in_either (s.Q n) (precedes x n) e),
          λ e. ⊎_elim (λ h. in_first (s.Q n) (precedes x n) h) (λ h. in_second (s.Q n) (precedes x n) (so_precedes x B n h)) e,
        );
        waits = λ n. (
          λ e. ⊎_elim (λ h. let z = and_true (s.W n) _ h in inl (z.0, λ y. not_in (subst (λ (m : Node). m is_in only_node x) (sym y) (the_node x)) (not-true (only_node x n) z.1)))
              (λ h. let z = and_true (precedes x n) _ h in inr (precedes_so x B n z.0, not-true (s.Q n) z.1)) (in_either (s.W n && not (only_node x n)) _ e),
          λ e. ⊎_elim (λ h. in_first (s.W n && not (only_node x n)) _ (rw (h.0, other n h.1))) (λ h. in_second (s.W n && not (only_node x n)) _ (rw (so_precedes x B n h.0, h.1))) e,
        );
      }
    where
      other : (n : Node) → n ≢ x → only_node x n ≡ false
      other n f = ⊎_elim (λ h. absurd (f (sym (only_node_lem x n h)))) (λ h. h) (in_or_not (only_node x n))

  act_good : (s : Now) (i : ℕ) → Good s → find s ≡ Some i → Good (act s i)
  unfolding act
  act_good s i A e =
      let w = (found s i e).1 in
      record {
        search = lines3to5 (node_of i) A.search (turn s (node_of i) w (A.numbered (node_of i) w));
        numbered = λ x h. ⊎_elim (λ k. A.numbered x (and_true (s.W x) _ k).0) (λ k. precedes_numbered (node_of i) x (and_true (precedes (node_of i) x) _ k).0)
            (in_either (s.W x && not (only_node (node_of i) x)) _ h);
      }

  weight : Now → ℕ
  weight s = sum 4160 (λ i. rest (s.Q (node_of i)) (s.W (node_of i)))

  falls : Falls find act weight Good
  unfolding weight act
  falls =
      record {
        keeps = act_good;
        less = λ s i A e.
            (let z = found s i e in
            sum_lt 4160 i (λ j. rest ((act s i).Q (node_of j)) ((act s i).W (node_of j))) (λ j. rest (s.Q (node_of j)) (s.W (node_of j))) z.0
            (rw (z.1, the_node (node_of i)) (rest_lt (s.Q (node_of i)) (precedes (node_of i) (node_of i))))
            (λ j l. rest_le (s.Q (node_of j)) (s.W (node_of j)) (precedes (node_of i) (node_of j)) (only_node (node_of i) (node_of j))));
      }

  pub search-ends : NodeNumbered G.n₀ → ((x : Node) → x is_in G.Δ → NodeNumbered x) → Found G
  unfolding weight find
  search-ends a b =
      record {
        Q = last.Q;
        W = last.W;
        search = good.search;
        emptied = λ x. ⊎_elim (λ h. absurd (not_in (subst (λ (y : Node). y is_in last.W) (sym (node-is x (good.numbered x h))) h) (none-waits (node_number x) (node-below x (good.numbered x h))))) (λ h. h) (in_or_not (last.W x));
      }
    where
      first : Now
      first = record { Q = only_node G.n₀ plus G.Δ; W = only_node G.n₀ plus G.Δ }

      first_good : Good first
      first_good = record { search = line1; numbered = λ x e. ⊎_elim (λ h. subst NodeNumbered (only_node_lem G.n₀ x h) a) (b x) (in_either (only_node G.n₀ x) (G.Δ x) e) }

      last : Now
      last = repeated find act 12480 first

      good : Good last
      good = repeated-keeps find act Good act_good 12480 first first_good

      none-waits : (i : ℕ) → i < 4160 → node_of i is_not_in last.W
      none-waits i l = not_due (last.W (node_of i)) i (none_of (λ k. when (last.W (node_of k)) k) 4160 i (rests find act weight Good falls 12480 first first_good light) l)
        where
          light : weight first ≤ 12480
          light = omega (arith, sum-most 4160 3 (λ i. rest (first.Q (node_of i)) (first.W (node_of i))) (λ i. rest-most (first.Q (node_of i)) (first.W (node_of i))))
