-- `testing::testing_written` meets its contract: answer by answer. Assumes nothing.
use mathlib.Core.Path.{sym, ap, ◌∙◌}
use Rattle.testing.specs.Numbers.{written_number}
use Rattle.testing.proofs.testing_written.Goals as goal

pub returns-in-Ok : goal.returns-in-Ok
returns-in-Ok c = c.from.ensures ∙ ap written_number (sym c.in-Ok.is ∙ c.value_written.ensures)

pub returns-in-Err : goal.returns-in-Err
returns-in-Err c = rw c.from-in-Err.ensures (ap written_number (sym c.in-Err.is ∙ c.value_written.ensures))
