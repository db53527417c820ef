-- Walks over a list that know the index of each element.
use Rattle.std.specs.Prelude.{Bool, true, false, List, [], ◌∷◌, ℕ, ◌+◌, eqb, Option, None, Some}

-- the list with each element made anew from its index, counted from i, and itself: "all pairs with new place q2
-- leave the graph"
unfoldable pub pass : (ℕ → ℕ → ℕ) → ℕ → List ℕ → List ℕ
pass f i [] = []
pass f i (x ∷ l) = f i x ∷ pass f (i + 1) l

-- the first index, counted from i, that passes with its element: "Take the lowest waiting pair"
unfoldable pub first_from : (ℕ → ℕ → Bool) → ℕ → List ℕ → Option ℕ
first_from p i [] = None
first_from p i (x ∷ l) = elim (p i x) [ true ↦ Some i | false ↦ first_from p (i + 1) l ]

-- how many elements are v: "the counts of marks 1, 2 and 3"
unfoldable pub count : ℕ → List ℕ → ℕ
count v [] = 0
count v (x ∷ l) = elim (eqb x v) [ true ↦ count v l + 1 | false ↦ count v l ]
