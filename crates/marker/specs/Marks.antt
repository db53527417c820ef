-- Algorithm 1: the marks ("Marks, from Algorithm 1").
use Rattle.std.specs.Prelude.{Bool, true, false, ◌&&◌, ◌||◌, List, [], ◌∷◌, ℕ, eqb, ltb, get_or, set, take, Option}
use Rattle.base.specs.Walks.{pass, first_from}
use Rattle.base.specs.Repeat.{repeated}
use Rattle.records.specs.Records.{index}

-- "2 kept", and at first "4 beyond" for every pair
unfoldable pub plain_mark : ℕ → ℕ → ℕ
plain_mark i x = elim (eqb x 0) [ true ↦ 0 | false ↦ elim (ltb i 4096) [ true ↦ 4 | false ↦ 2 ] ]

-- so of all nodes, before any is open or covered: "2 kept", "4 beyond" and "0 absent"
unfoldable pub plain_marks : List ℕ → List ℕ
plain_marks m = pass plain_mark 0 m

-- ---- lines 1 to 5: "1 open: the start pair and all pairs from which an open or kept node is a target"
-- an open or kept node: a node of Q. 65535 is no node
unfoldable pub in_q : List ℕ → ℕ → Bool
in_q m n = eqb (get_or m n 0) 1 || eqb (get_or m n 0) 2

-- pair i, marked x, is still beyond and has such a target (line 4)
unfoldable pub opening : List ℕ → List ℕ → ℕ → ℕ → Bool
opening t m i x = eqb x 4 && (in_q m (get_or t (index i 0) 0) || in_q m (get_or t (index i 1) 0))

-- a pair to open next, the lowest (line 3)
unfoldable pub next_opening : List ℕ → List ℕ → Option ℕ
next_opening t m = first_from (opening t m) 0 (take 4096 m)

-- pair n is marked "1 open" (line 5)
abbrev pub opened : List ℕ → ℕ → List ℕ
opened m n = set m n 1

-- lines 2 to 5, over the targets t: each of 4,096 pairs is opened once at most
unfoldable pub all_opened : List ℕ → List ℕ → List ℕ
all_opened t m = repeated (next_opening t) opened 4096 m

-- ---- line 6: "3 covered: other pairs that are a target of an open one"
-- "The condition's transitions are the targets of open pairs": these, in order, of the pairs with the marks m
unfoldable pub transitions : List ℕ → List ℕ → List ℕ
transitions [] t = []
transitions (x ∷ m) [] = []
transitions (x ∷ m) (a ∷ []) = []
transitions (x ∷ m) (a ∷ (b ∷ t)) = elim (eqb x 1) [ true ↦ a ∷ (b ∷ transitions m t) | false ↦ transitions m t ]

-- node n, a target of an open pair, becomes "3 covered" if it is one of the "other pairs"
unfoldable pub cover : List ℕ → ℕ → List ℕ
cover m n = elim (eqb (get_or m n 0) 4) [ true ↦ set m n 3 | false ↦ m ]

-- so all of a list: "3 covered: other pairs that are a target of an open one"
unfoldable pub covered : List ℕ → List ℕ → List ℕ
covered m [] = m
covered m (n ∷ l) = covered (cover m n) l

-- so the transitions, "the targets of open pairs" (line 6)
unfoldable pub all_covered : List ℕ → List ℕ → List ℕ
all_covered t m = covered m (transitions m t)

-- Algorithm 1 from the start pair n, the marks between turns and the final targets
unfoldable pub final_marks : ℕ → List ℕ → List ℕ → List ℕ
final_marks n t m = all_covered t (all_opened t (set (plain_marks m) n 1))
