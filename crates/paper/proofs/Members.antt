-- Members of the source's sets, and the numbers of nodes. Assumes nothing.
use mathlib.Core.Path.{◌≡◌, refl, sym, ap, ap₂, ◌∙◌}
use mathlib.Core.Bool.{Bool, true, false, ◌||◌}
use mathlib.Core.Logic.{◌⊎◌, inl, inr, dite}
use Prim.Native.Nat.{ℕ, ◌/◌, ◌%◌, ◌<◌}
use native.Mathlib.Omega.{arith}
use native.Mathlib.Decide.{ℕ_discrete}
use borrow.Author.Tests.{eq-eqb, ne_eqb, eqb-true}
use lib.Dec.{eqb}
use Rattle.base.proofs.Tests.{T_true, and_true, and_false}
use Rattle.chart.specs.declared.places.NewPlace.{NewPlace}
use Rattle.paper.specs.Nodes.{◌is_in◌, ◌is_not_in◌, Pair, pair, Node, aligned, indicator, Edge, edge, only_place, only_pair, only_node, only_edge, number, pair_of, Numbered}

-- ---- unions
pub in_either : (a b : Bool) → a || b ≡ true → (a ≡ true) ⊎ (b ≡ true)
in_either true b e = inl refl
in_either false b e = inr e

pub in_first : (a b : Bool) → a ≡ true → a || b ≡ true
in_first true b e = refl
in_first false b e = absurd (T_true e)

pub in_second : (a b : Bool) → b ≡ true → a || b ≡ true
in_second true b e = refl
in_second false b e = e

pub in_neither : (a b : Bool) → a ≡ false → b ≡ false → a || b ≡ false
in_neither true b d e = d
in_neither false b d e = e

pub not_in : {b : Bool} → b ≡ true → b ≡ false → ⊥
not_in d e = T_true (sym e ∙ d)

pub in_or_not : (b : Bool) → (b ≡ true) ⊎ (b ≡ false)
in_or_not true = inl refl
in_or_not false = inr refl

-- ---- {n}
pub only_pair_lem : (m n : Pair) → n is_in only_pair m → m ≡ n
unfolding only_pair
only_pair_lem m n e =
    let z = and_true (eqb m.old.0 n.old.0) _ e in
    ap₂ (λ (x y : ℕ). pair (record { 0 = x }) (record { 0 = y })) (eqb-true m.old.0 n.old.0 z.0) (eqb-true m.new.0 n.new.0 z.1)

pub the_pair : (n : Pair) → n is_in only_pair n
unfolding only_pair
the_pair n = rw (eq-eqb n.old.0 n.old.0 refl, eq-eqb n.new.0 n.new.0 refl)

pub the_place : (q : NewPlace) → q is_in only_place q
unfolding only_place
the_place q = eq-eqb q.0 q.0 refl

pub only_place_lem : (p q : NewPlace) → q is_in only_place p → p ≡ q
unfolding only_place
only_place_lem p q e = ap (λ (x : ℕ). record { 0 = x }) (eqb-true p.0 q.0 e)

pub only_node_lem : (x y : Node) → y is_in only_node x → x ≡ y
unfolding only_node
only_node_lem (aligned m) (aligned n) e = ap aligned (only_pair_lem m n e)
only_node_lem (aligned m) (indicator q) e = absurd (T_true e)
only_node_lem (indicator p) (aligned n) e = absurd (T_true e)
only_node_lem (indicator p) (indicator q) e = ap indicator (only_place_lem p q e)

pub the_node : (x : Node) → x is_in only_node x
unfolding only_node
the_node (aligned m) = the_pair m
the_node (indicator q) = the_place q

pub only_edge_lem : (d e : Edge) → e is_in only_edge d → d ≡ e
unfolding only_edge
only_edge_lem d e h =
    let y = and_true (only_pair d.pred e.pred) _ h in
    let z = and_true (eqb d.row e.row) _ y.1 in
    ap₂ (λ (n : Pair) (k : Edge). edge n k.row k.succ) (only_pair_lem d.pred e.pred y.0)
    (ap₂ (λ (r : ℕ) (x : Node). edge d.pred r x) (eqb-true d.row e.row z.0) (only_node_lem d.succ e.succ z.1))

pub the_edge : (e : Edge) → e is_in only_edge e
unfolding only_edge
the_edge e = rw (the_pair e.pred, eq-eqb e.row e.row refl) (the_node e.succ)

-- an edge of another pair or row
pub other_edge : (n m : Pair) (r k : ℕ) (x y : Node) → (m is_not_in only_pair n) ⊎ (k ≡ r → ⊥) → edge m k y is_not_in only_edge (edge n r x)
unfolding only_edge
other_edge n m r k x y (inl e) = rw e
other_edge n m r k x y (inr e) = rw (ne_eqb r k (λ z. e (sym z))) (and_false (only_pair n m))

-- ---- pairs by number
pub numbered : (i : ℕ) → i < 4096 → Numbered (pair_of i)
numbered i b = record { old = omega arith; new = omega arith }

pub pair_is : (n : Pair) → Numbered n → pair_of (number n) ≡ n
pair_is n B =
    ap₂ (λ (x y : ℕ). pair (record { 0 = x }) (record { 0 = y })) (omega (arith, B.new)) (omega (arith, B.new))

pub number_is : (i : ℕ) → number (pair_of i) ≡ i
number_is i = omega arith

pub number-below : (n : Pair) → Numbered n → number n < 4096
number-below n B = omega (arith, B.old, B.new)

module _ (t i : ℕ) where
  pub same-pair : i ≡ t → pair_of i is_in only_pair (pair_of t)
  same-pair e = rw e (the_pair (pair_of t))

  pub other_pair : (i ≡ t → ⊥) → pair_of i is_not_in only_pair (pair_of t)
  unfolding only_pair
  other_pair e =
      dite (ℕ_discrete (t / 64) (i / 64)) (λ a. rw (ne_eqb (t % 64) (i % 64) (λ b. e (omega arith))) (and_false (eqb (t / 64) (i / 64))))
      (λ a. rw (ne_eqb (t / 64) (i / 64) a))
