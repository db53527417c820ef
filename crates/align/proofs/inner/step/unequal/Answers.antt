-- `align::inner::step::unequal` meets its contract: in edition 1 alone, in edition 2 with the old row that writes the
-- variable, if there is one. Assumes nothing.
use mathlib.Core.Path.{◌≡◌, sym, subst, ◌∙◌}
use mathlib.Core.Bool.{false}
use mathlib.Core.List.{List}
use Prim.Native.Nat.{ℕ, ◌<◌}
use Rattle.operations.specs.Operations.{is_assignment}
use Rattle.chart.specs.Charts.{size, operation}
use Rattle.chart.proofs.Parts.{later-row}
use Rattle.align.proofs.Moves.{unequal-first, unequal-both, unequal-alone}
use Rattle.align.proofs.Seek.{found_inside}
use borrow.Author.Tests.{eq-eqb, ne_eqb}
use Rattle.align.proofs.inner.step.unequal.Goals as goal

pub returns-then-charts-ne2 : goal.returns-then-charts-ne2
returns-then-charts-ne2 c = unequal-first _ _ _ c.with-set.ensures (ne_eqb _ 2 c.if-charts-ne2.true)

pub old_part-rows-requires : goal.old_part-rows-requires
old_part-rows-requires c = c.requires.place_bound

pub writing-requires : goal.writing-requires
writing-requires c =
    subst (λ (rows : List ℕ). (k : ℕ) → 0 < k → k < size rows → is_assignment (operation rows k) ≡ false) (sym c.old_part-rows.ensures)
    (λ k z l. later-row _ _ k c.args.charts.now.prepared.old-faultless z l)

pub old_to-requires : goal.old_to-requires
old_to-requires c = found_inside _ _ _ (sym c.in-Some.is ∙ c.writing.ensures)

pub returns-in-Some : goal.returns-in-Some
returns-in-Some c = unequal-both _ _ _ c.with-set.ensures (eq-eqb _ 2 c.if-charts-ne2.false) c.old_part-rows.ensures c.writing.ensures c.in-Some.is c.old_to.ensures

pub returns-in-None : goal.returns-in-None
returns-in-None c = unequal-alone _ _ _ c.with-set.ensures (eq-eqb _ 2 c.if-charts-ne2.false) c.old_part-rows.ensures c.writing.ensures c.in-None.is
