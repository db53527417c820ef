-- `testing::testing_fault` meets its contract: answer by answer. Assumes nothing.
use mathlib.Core.Path.{sym, ap, ◌∙◌}
use Rattle.std.specs.Result.{result_err}
use Rattle.testing.specs.Numbers.{fault_number}
use Rattle.testing.proofs.testing_fault.Goals as goal

pub returns-in-Ok : goal.returns-in-Ok
returns-in-Ok c = ap fault_number (sym (ap result_err c.in-Ok.is) ∙ c.judge.ensures)

pub returns-in-Err : goal.returns-in-Err
returns-in-Err c = ap fault_number (sym (ap result_err c.in-Err.is) ∙ c.judge.ensures)
