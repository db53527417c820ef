-- `align::inner::reads::meets_right` meets its contract: an empty set meets nothing. Assumes nothing.
use mathlib.Core.Path.{ap, ◌∙◌}
use Rattle.sets.specs.Sets.{meets}
use Rattle.align.proofs.inner.reads.meets_right.Goals as goal

pub returns-then-s-eq0 : goal.returns-then-s-eq0
unfolding meets
returns-then-s-eq0 c = rw c.if-s-eq0.true

pub returns : goal.returns
returns c = c.meets.ensures ∙ ap (meets _) c.right.ensures
