-- `text::fields::is_missing` meets its contract: at the end of the text, and before it. Assumes nothing.
use borrow.Author.Tests.{lt-leb}
use Rattle.std.proofs.Common.{◌∙◌, arith}
use Rattle.text.proofs.Numbers.{missing_past, missing-inside}
use Rattle.text.proofs.fields.is_missing.Goals as goal

pub returns-then-text-at : goal.returns-then-text-at
returns-then-text-at c = search missing_past

pub returns-else-text-at : goal.returns-else-text-at
returns-else-text-at c = lt-leb _ _ (omega arith) ∙ missing-inside _ _ _ (omega arith)
