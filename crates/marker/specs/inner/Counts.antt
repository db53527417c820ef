-- How many nodes have a mark, counted by the pass that covers: contracts of inner functions. The rule, "the counts of
-- marks 1, 2 and 3", is `summary` of condition/specs/Builds.antt.
use Rattle.std.specs.Prelude.{◌≡◌, List, ℕ, ◌+◌, drop}
use Rattle.base.specs.Walks.{count}
use Rattle.marker.specs.declared.inner.marks.Counts.{Counts}

-- the counts `so` became `to` as x became y: by the pairs from i up to e that are open, and by all that became covered
pub record Counted (x y : List ℕ) (i e : ℕ) (so to : Counts) : Type 0 where
  pub opened : so.opened + count 1 (drop i x) ≡ to.opened + count 1 (drop e x)
  pub covered : so.covered + count 3 y ≡ to.covered + count 3 x
