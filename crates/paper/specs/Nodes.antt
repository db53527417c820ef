-- The source's own data: sets, the nodes and edges of a difference graph; and the numbers that document 01 gives to its
-- nodes.
use Rattle.std.specs.Prelude.{◌≡◌, Bool, true, false, ◌&&◌, ◌||◌, not, ℕ, ◌<◌, eqb}
use Rattle.chart.specs.declared.places.OldPlace.{OldPlace}
use Rattle.chart.specs.declared.places.NewPlace.{NewPlace}
use Rattle.chart.specs.Places.{pair_number, kept_number, old_of, new_of}

-- ---- a set of the source, by its test of membership; and the source's ∈, ∉, ∅, ∪ and \
abbrev pub SetOf : Type 0 → Type 0
SetOf A = A → Bool

infix 40 ◌is_in◌
infix 40 ◌is_not_in◌
infixl 60 ◌plus◌
infixl 60 ◌minus◌
module _ {A : Type 0} where
  -- ∈, as in line 23 of Algorithm 2: succ ∈ L'
  abbrev pub ◌is_in◌ : A → SetOf A → Type 0
  ◌is_in◌ a s = s a ≡ true

  -- ∉, as in line 29 of Algorithm 2: succ ∉ N_l
  abbrev pub ◌is_not_in◌ : A → SetOf A → Type 0
  ◌is_not_in◌ a s = s a ≡ false

  -- ∅, as in line 1 of Algorithm 2: E_l := ∅
  abbrev pub empty_set : SetOf A
  empty_set a = false

  -- ∪, as in line 32 of Algorithm 2: N_l ∪ {succ}
  abbrev pub ◌plus◌ : SetOf A → SetOf A → SetOf A
  ◌plus◌ s t a = s a || t a

  -- \, as in line 25 of Algorithm 2: N_l \ {(·, succ) ∈ N_l}
  abbrev pub ◌minus◌ : SetOf A → SetOf A → SetOf A
  ◌minus◌ s t a = s a && not (t a)

-- ---- nodes and edges
-- (ℓ, ℓ'), a member of L × L'
pub record Pair : Type 0 where
  pub old : OldPlace
  pub new : NewPlace

-- (ℓ_1, ℓ'_1), as in line 3 of Algorithm 2
abbrev pub pair : OldPlace → NewPlace → Pair
pair p q = record { old = p; new = q }

-- "a set N of nodes": a pair of N_l, or a place of the new chart, which as a node is a regression bug indicator
pub data Node : Type 0 where
  aligned : Pair → Node
  indicator : NewPlace → Node

-- (n, g', n'): the edge g' of the new chart is told by its number among the rows that leave n's new place, in table
-- order
pub record Edge : Type 0 where
  pub pred : Pair
  pub row : ℕ
  pub succ : Node

-- (pred, g', succ), as in lines 22, 24 and 33 of Algorithm 2
abbrev pub edge : Pair → ℕ → Node → Edge
edge n r x = record { pred = n; row = r; succ = x }

-- ---- {n}, and {(·, ℓ')}, of Algorithm 2
unfoldable pub only_place : NewPlace → SetOf NewPlace
only_place p q = eqb p.0 q.0

-- {(ℓ_0, ℓ'_0)}, as in line 1 of Algorithm 2, and {succ}, as in lines 30 and 32
unfoldable pub only_pair : Pair → SetOf Pair
only_pair m n = eqb m.old.0 n.old.0 && eqb m.new.0 n.new.0

-- {ℓ'_0}, as in line 19 of Algorithm 2
unfoldable pub only_node : Node → SetOf Node
only_node (aligned m) (aligned n) = only_pair m n
only_node (aligned m) (indicator q) = false
only_node (indicator p) (aligned n) = false
only_node (indicator p) (indicator q) = only_place p q

-- {(pred, g', succ)}, as in lines 24 and 33 of Algorithm 2
unfoldable pub only_edge : Edge → SetOf Edge
only_edge d e = only_pair d.pred e.pred && (eqb d.row e.row && only_node d.succ e.succ)

-- {(·, succ)}, as in line 25 of Algorithm 2
unfoldable pub with_place : NewPlace → SetOf Pair
with_place q n = only_place q n.new

-- ---- "Node numbers: the pair (old p, new q) is 64 × p + q; the kept new place q is 4,096 + q."
abbrev pub number : Pair → ℕ
number n = pair_number n.old n.new

-- "the kept new place q is 4,096 + q": the number of any node
abbrev pub node_number : Node → ℕ
node_number (aligned n) = number n
node_number (indicator q) = kept_number q

-- "the pair (old p, new q) is 64 × p + q": the pair that has the number
abbrev pub pair_of : ℕ → Pair
pair_of i = pair (old_of i) (new_of i)

-- a node of places below 64, as all those of faultless charts are: no two of them have one number
pub record Numbered (n : Pair) : Type 0 where
  pub old : n.old.0 < 64
  pub new : n.new.0 < 64

-- the same of any node: "Places are 0 to n−1", and n is not "above 64 places"
abbrev pub NodeNumbered : Node → Type 0
NodeNumbered (aligned n) = Numbered n
NodeNumbered (indicator q) = q.0 < 64
