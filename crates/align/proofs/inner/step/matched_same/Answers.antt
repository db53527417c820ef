-- `align::inner::step::matched_same` meets its contract: one test for both rows. Assumes nothing.
use mathlib.Core.Path.{sym, ◌∙◌}
use Rattle.align.specs.Steps.{matched}
use Rattle.align.proofs.inner.step.matched_same.Goals as goal

pub meets_compared-requires : goal.meets_compared-requires
meets_compared-requires c = rw c.operation_at.ensures (c.requires.1, c.requires.2)

pub returns-then-meets_compared : goal.returns-then-meets_compared
unfolding matched
returns-then-meets_compared c = rw (← c.operation_at.ensures, sym c.meets_compared.ensures ∙ c.if-meets_compared.true)

pub returns : goal.returns
unfolding matched
returns c = rw (← c.operation_at.ensures, sym c.meets_compared.ensures ∙ c.if-meets_compared.false, ← c.old_to.ensures)
