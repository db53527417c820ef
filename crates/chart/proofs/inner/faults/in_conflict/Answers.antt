-- `chart::inner::faults::in_conflict` meets its contract. The invariant: no row from `j` on is in conflict with row i. Assumes nothing.
use Rattle.std.proofs.Common.{ap, not}
use mathlib.Core.Path.{sym, ◌∙◌}
use Rattle.base.proofs.Tests.{none_here, some-here, none_left}
use Rattle.chart.proofs.Faults.{none_before, one_place}
use native.Mathlib.Omega.{arith}
use Rattle.chart.proofs.inner.faults.in_conflict.Goals as goal

pub returns-then-from_at : goal.returns-then-from_at
returns-then-from_at c = none_before _ c.requires.ascending _ _ c.requires.i_bound c.loop-j.invariant c.loop-j-test.true (λ e. c.if-from_at.true (c.from_at.ensures ∙ e ∙ sym c.from_at-in-loop-j.ensures))

pub returns-then-not-one_of : goal.returns-then-not-one_of
returns-then-not-one_of c = some-here _ _ _ c.loop-j.invariant c.loop-j-test.true (one_place _ _ _ (sym c.from_at.ensures ∙ c.if-from_at.false ∙ c.from_at-in-loop-j.ensures) _ _ c.operation_at.ensures c.operation_at-in-loop-j.ensures _ c.one_of.ensures ∙ (ap not c.if-not-one_of.true))

pub loop-j-preserved : goal.loop-j-preserved
loop-j-preserved c = none_here _ _ _ c.loop-j.invariant c.loop-j-test.true (one_place _ _ _ (sym c.from_at.ensures ∙ c.if-from_at.false ∙ c.from_at-in-loop-j.ensures) _ _ c.operation_at.ensures c.operation_at-in-loop-j.ensures _ c.one_of.ensures ∙ (ap not c.if-not-one_of.false))

pub returns : goal.returns
returns c = none_left _ _ _ c.loop-j.invariant (λ k l. absurd (omega arith))
