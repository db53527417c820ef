-- `text::fields::kind_of` meets its contract: a law for each run of field numbers. Assumes nothing.
use Rattle.text.proofs.Numbers.{kind-count, kind_spare, kind-low, kind-high}
use Rattle.std.proofs.Common.{arith}
use Rattle.text.proofs.fields.kind_of.Goals as goal

pub returns-then-field-gt5 : goal.returns-then-field-gt5
returns-then-field-gt5 c = kind-high _ (omega arith)

pub returns-in-2 : goal.returns-in-2
returns-in-2 c = search kind-count

pub returns-in-3-to-5 : goal.returns-in-3-to-5
returns-in-3-to-5 c = kind_spare _ (omega arith) (omega arith)

pub returns-in_default : goal.returns-in_default
returns-in_default c = kind-low _ (omega arith)
