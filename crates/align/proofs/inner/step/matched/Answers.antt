-- `align::inner::step::matched` meets its contract: test by test. Assumes nothing.
use mathlib.Core.Path.{sym, ◌∙◌}
use Rattle.align.specs.Steps.{matched}
use Rattle.align.proofs.inner.step.matched.Goals as goal

pub returns-then-meets_compared : goal.returns-then-meets_compared
unfolding matched
returns-then-meets_compared c = rw (sym c.meets_compared.ensures ∙ c.if-meets_compared.true)

pub meets_compared-requires-2 : goal.meets_compared-requires-2
meets_compared-requires-2 c = rw c.operation_at.ensures (c.requires.k_bound.1, c.requires.k_bound.2)

pub returns-then-meets_compared-2 : goal.returns-then-meets_compared-2
unfolding matched
returns-then-meets_compared-2 c = rw (sym c.meets_compared.ensures ∙ c.if-meets_compared.false, ← c.operation_at.ensures, sym c.meets_compared-2.ensures ∙ c.if-meets_compared-2.true)

pub returns : goal.returns
unfolding matched
returns c = rw (sym c.meets_compared.ensures ∙ c.if-meets_compared.false, ← c.operation_at.ensures, sym c.meets_compared-2.ensures ∙ c.if-meets_compared-2.false, ← c.old_to.ensures)
