-- `testing::testing_implies` meets its contract: answer by answer. Assumes nothing.
use mathlib.Core.Path.{sym, ap, ◌∙◌}
use Rattle.testing.specs.Numbers.{implication_number}
use Rattle.testing.proofs.testing_implies.Goals as goal

pub returns-in-Never : goal.returns-in-Never
returns-in-Never c = ap implication_number (sym c.in-Never.is ∙ c.implies.ensures.is)

pub returns-in-Implied : goal.returns-in-Implied
returns-in-Implied c = ap implication_number (sym c.in-Implied.is ∙ c.implies.ensures.is)

pub returns-in-NotImplied : goal.returns-in-NotImplied
returns-in-NotImplied c = ap implication_number (sym c.in-NotImplied.is ∙ c.implies.ensures.is)
