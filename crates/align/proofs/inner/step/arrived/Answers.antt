-- `align::inner::step::arrived` meets its contract: by the test, or rescued. Assumes nothing.
use mathlib.Core.Path.{sym, ◌∙◌}
use Rattle.align.specs.Steps.{arrived}
use Rattle.align.proofs.inner.step.arrived.Goals as goal

pub returns-in_err-h : goal.returns-in_err-h
unfolding arrived
returns-in_err-h c = rw (c.from_residual.ensures, c.in_err-h.was)

pub returns-then-fair : goal.returns-then-fair
unfolding arrived
returns-then-fair c = rw (c.in_ok-h.was, sym c.fair.ensures ∙ c.if-fair.true, arrived)

pub rescued-requires : goal.rescued-requires
rescued-requires c = c.requires _ c.in_ok-h.was

pub returns : goal.returns
unfolding arrived
returns c = rw (c.in_ok-h.was, sym c.fair.ensures ∙ c.if-fair.false, arrived) c.rescued.ensures
