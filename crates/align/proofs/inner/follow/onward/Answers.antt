-- `align::inner::follow::onward` meets its contract: at the alarm, by the assignment, or at the end. Assumes nothing.
use mathlib.Core.Path.{◌≡◌, sym, ap, subst, ◌∙◌}
use Rattle.align.proofs.Moves.{onward-ends, onward_by}
use Rattle.align.specs.Steps.{along}
use Rattle.align.proofs.Seek.{found_inside}
use Rattle.chart.proofs.Parts.{part_right, later-row}
use Rattle.operations.specs.Operations.{is_assignment, operands_fit}
use Rattle.chart.specs.Charts.{size, operation}
use mathlib.Core.Bool.{true, false}
use mathlib.Core.List.{List}
use Prim.Native.Nat.{ℕ, ◌<◌}
use Rattle.align.proofs.inner.follow.onward.Goals as goal

pub returns-then-eq : goal.returns-then-eq
returns-then-eq c = onward-ends _ _ (sym c.eq.ensures ∙ c.if-eq.true)

pub old_part-rows-requires : goal.old_part-rows-requires
old_part-rows-requires c = c.requires

pub assignment-requires : goal.assignment-requires
assignment-requires c = subst (λ (rows : List ℕ). (k : ℕ) → 0 < k → k < size rows → is_assignment (operation rows k) ≡ false) (sym c.old_part-rows.ensures) (λ k z l. later-row _ _ k c.args.charts.now.prepared.old-faultless z l)

pub along-requires : goal.along-requires
along-requires c = let l = found_inside _ _ _ (sym c.in_ok-k.was ∙ c.assignment.ensures) in let e = c.old_part-rows.ensures in (l, subst (λ (rows : List ℕ). operands_fit (operation rows c.in_ok-k.k) ≡ true) (sym e) (part_right _ _ _ c.args.charts.now.prepared.old-faultless (subst (λ (rows : List ℕ). c.in_ok-k.k < size rows) e l)).1)

pub returns-in_err-k : goal.returns-in_err-k
unfolding along
returns-in_err-k c = rw c.from_residual.ensures (onward_by _ _ (sym c.eq.ensures ∙ c.if-eq.false) c.old_part-rows.ensures c.assignment.ensures (ap (along _ _) (sym c.in_err-k.was)))

pub returns : goal.returns
returns c = onward_by _ _ (sym c.eq.ensures ∙ c.if-eq.false) c.old_part-rows.ensures c.assignment.ensures (c.along.ensures ∙ ap (along _ _) (sym c.in_ok-k.was))
