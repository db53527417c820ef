-- `align::inner::reads::right` meets its contract: from its operands. Assumes nothing.
use mathlib.Core.Path.{ap₂, ◌∙◌}
use Rattle.sets.specs.Sets.{joined}
use Rattle.align.proofs.ReadSets.{reads-assignment, fits-b, fits-c}
use Rattle.align.proofs.inner.reads.right.Goals as goal

pub if_variable-requires : goal.if_variable-requires
if_variable-requires c = rw c.operand_b.ensures (fits-b _ c.requires.1)

pub if_variable-requires-2 : goal.if_variable-requires-2
if_variable-requires-2 c = rw c.operand_c.ensures (fits-c _ c.requires.1)

pub returns : goal.returns
returns c = reads-assignment _ c.requires.0 (c.joined.ensures ∙ ap₂ joined (rw c.operand_b.ensures at c.if_variable.ensures) (rw c.operand_c.ensures at c.if_variable-2.ensures))
