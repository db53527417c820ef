-- Spans of a list, the elements from one index up to another, and work for each number of a span: how the parts of
-- Algorithm 1 are said. No rule of document 01 speaks of them.
use Rattle.std.specs.Prelude.{true, false, List, ℕ, zero, suc, ◌+◌, ltb}
use Rattle.base.specs.Walks.{pass}

-- f x for the element x at i, if i is from a up to b
unfoldable pub among : ℕ → ℕ → (ℕ → ℕ) → ℕ → ℕ → ℕ
among a b f i x = elim (ltb i a) [ true ↦ x | false ↦ elim (ltb i b) [ true ↦ f x | false ↦ x ] ]

-- these elements made anew, the others as they were
unfoldable pub remade : ℕ → ℕ → (ℕ → ℕ) → List ℕ → List ℕ
remade a b f l = pass (among a b f) 0 l

-- f for each of the n numbers from a on, in ascending order, one after another
unfoldable pub each : (List ℕ → ℕ → List ℕ) → ℕ → ℕ → List ℕ → List ℕ
each f a zero x = x
each f a (suc n) x = f (each f a n x) (a + n)
