-- How large the numbers are that a build answers (proofs/Bounds.antt): whoever prints them, or makes one number of
-- them, has to know it.
use Rattle.std.specs.Prelude.{◌≤◌}
use Rattle.condition.specs.declared.Summary.{Summary}

-- the start is a node, and no more nodes are counted than there are
pub record Small (s : Summary) : Type 0 where
  pub start : s.start ≤ 4160
  pub opened : s.opened ≤ 4160
  pub kept : s.kept ≤ 4160
  pub covered : s.covered ≤ 4160
