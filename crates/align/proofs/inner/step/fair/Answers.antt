-- `align::inner::step::fair` meets its contract: from both tests. Assumes nothing.
use mathlib.Core.Path.{ap₂}
use Rattle.std.specs.Prelude.{◌||◌}
use Rattle.align.proofs.inner.step.fair.Goals as goal

pub returns : goal.returns
returns c = ap₂ (λ a b. a || b) c.ne.ensures c.eq.ensures
