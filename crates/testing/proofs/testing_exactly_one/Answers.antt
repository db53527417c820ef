-- `testing::testing_exactly_one` meets its contract: by the test. Assumes nothing.
use mathlib.Core.Path.{ap, ◌∙◌}
use Rattle.testing.specs.Numbers.{bit}
use Rattle.testing.proofs.Bits.{bit_of}
use Rattle.testing.proofs.testing_exactly_one.Goals as goal

pub returns : goal.returns
returns c = c.from.ensures ∙ bit_of _ ∙ ap bit c.exactly_one.ensures.is
