-- `testing::testing_meets` meets its contract: answer by answer. Assumes nothing.
use mathlib.Core.Path.{sym, ap, ◌∙◌}
use Rattle.testing.specs.Numbers.{met_number}
use Rattle.testing.proofs.Bits.{bit_of}
use Rattle.testing.proofs.testing_meets.Goals as goal

pub returns-in-Ok : goal.returns-in-Ok
returns-in-Ok c = c.from.ensures ∙ bit_of _ ∙ ap met_number (sym c.in-Ok.is ∙ c.meets.ensures)

pub returns-in-Err : goal.returns-in-Err
returns-in-Err c = rw c.from-in-Err.ensures (ap met_number (sym c.in-Err.is ∙ c.meets.ensures))
