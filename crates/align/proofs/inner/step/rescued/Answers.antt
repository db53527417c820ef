-- `align::inner::step::rescued` meets its contract: not in edition 1; at both alarms, elsewhere, or a place twice. Assumes nothing.
use mathlib.Core.Path.{sym, ◌∙◌}
use Rattle.align.proofs.Moves.{rescued-first, rescued-both, rescued_elsewhere, rescued_twice}
use borrow.Author.Tests.{eq-eqb, ne_eqb}
use Rattle.align.proofs.inner.step.rescued.Goals as goal

pub returns-then-charts-ne2 : goal.returns-then-charts-ne2
returns-then-charts-ne2 c = rescued-first _ _ (ne_eqb _ 2 c.if-charts-ne2.true)

pub returns-in_err-next : goal.returns-in_err-next
returns-in_err-next c = rw c.from_residual.ensures (rescued_twice _ _ (eq-eqb _ 2 c.if-charts-ne2.false) c.follow.ensures c.in_err-next.was)

pub returns-then-eq : goal.returns-then-eq
returns-then-eq c = rescued-both _ _ (eq-eqb _ 2 c.if-charts-ne2.false) c.follow.ensures _ c.in_ok-next.was (sym c.eq.ensures ∙ c.if-eq.true)

pub returns : goal.returns
returns c = rescued_elsewhere _ _ (eq-eqb _ 2 c.if-charts-ne2.false) c.follow.ensures _ c.in_ok-next.was (sym c.eq.ensures ∙ c.if-eq.false)
