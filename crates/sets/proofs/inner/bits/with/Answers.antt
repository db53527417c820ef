-- `sets::inner::bits::with` meets its contract: from its parts. Assumes nothing.
use mathlib.Core.Path.{ap, ◌∙◌}
use Rattle.sets.specs.Sets.{joined, with}
use Rattle.sets.proofs.inner.bits.with.Goals as goal

pub returns : goal.returns
unfolding with
returns c = c.joined.ensures ∙ ap (joined c.args.s) c.alone.ensures
