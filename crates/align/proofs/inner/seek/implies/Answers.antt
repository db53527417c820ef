-- `align::inner::seek::implies` meets its contract: no assumption, or one that is asked. Assumes nothing.
use mathlib.Core.Path.{sym, ◌∙◌}
use Rattle.align.proofs.Seek.{met_implies}
use Rattle.align.proofs.inner.seek.implies.Goals as goal

pub returns-then-not-is_assumption : goal.returns-then-not-is_assumption
returns-then-not-is_assumption c = rw (sym c.is_assumption.ensures ∙ c.if-not-is_assumption.true)

pub returns : goal.returns
returns c = let n = c.requires in rw (sym c.is_assumption.ensures ∙ c.if-not-is_assumption.false) (c.follows.ensures n ∙ met_implies _ _ n)
