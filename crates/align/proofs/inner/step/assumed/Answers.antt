-- `align::inner::step::assumed` meets its contract: at the alarm, equal, implied, or neither. Assumes nothing.
use mathlib.Core.Path.{◌≡◌, refl, sym, ap, subst, ◌∙◌}
use Rattle.align.proofs.Moves.{counterpart-none, counterpart_by, matching-same, matching-implied, matching-inside, matched_assumes, same_found, assumed_on, assumed_by}
use Rattle.align.proofs.Seek.{found_inside}
use Rattle.align.specs.Steps.{matched}
use Rattle.chart.proofs.Parts.{part_right}
use Rattle.operations.specs.declared.Operation.{Operation}
use Rattle.operations.specs.Operations.{is_assumption, operands_fit}
use Rattle.chart.specs.Charts.{size, operation}
use mathlib.Core.Bool.{true}
use mathlib.Core.List.{List}
use Prim.Native.Nat.{ℕ, ◌<◌}
use Rattle.align.proofs.inner.step.assumed.Goals as goal

pub returns-then-eq : goal.returns-then-eq
returns-then-eq c = assumed_on _ _ _ (counterpart-none _ _ _ (sym c.eq.ensures ∙ c.if-eq.true)) refl

pub old_part-rows-requires : goal.old_part-rows-requires
old_part-rows-requires c = c.requires.place_bound

pub matched_same-requires : goal.matched_same-requires
matched_same-requires c =
    let s = sym c.in-Some.is ∙ c.same.ensures in
    let e = sym (same_found _ _ _ s) in
    (found_inside _ _ _ s, subst (λ (o : Operation). is_assumption o ≡ true) e c.requires.j_bound.1, subst (λ (o : Operation). operands_fit o ≡ true) e c.requires.j_bound.2)

pub matched-requires : goal.matched-requires
matched-requires c = let m = sym c.in-Some-implied.is ∙ matching-implied _ _ c.same.ensures c.in-None.is c.operation_at.ensures c.implied.ensures in
    let l = matching-inside _ _ _ m in
    let e = c.old_part-rows.ensures in
    record { k_bound = (l, matched_assumes _ _ _ c.requires.j_bound.1 m, subst (λ (rows : List ℕ). operands_fit (operation rows c.in-Some-implied.k) ≡ true) (sym e) (part_right _ _ _ c.args.charts.now.prepared.old-faultless (subst (λ (rows : List ℕ). c.in-Some-implied.k < size rows) e l)).1); o_value = subst (λ (o : Operation). (is_assumption o ≡ true) × (operands_fit o ≡ true)) (sym c.operation_at-in-Some-implied.ensures) (c.requires.j_bound.1, c.requires.j_bound.2) }

pub returns-in-Some : goal.returns-in-Some
returns-in-Some c =
    let f = c.in-Some.is in
    let s = c.same.ensures in
    let r = c.old_part-rows.ensures in
    assumed_by _ _ _ c.in-Some.k (counterpart_by _ _ _ (sym c.eq.ensures ∙ c.if-eq.false) r (matching-same _ _ s f)) refl r (c.matched_same.ensures ∙ ap (matched _ _ _) (same_found _ _ _ (sym f ∙ s)))

pub returns-in-Some-implied : goal.returns-in-Some-implied
returns-in-Some-implied c =
    let m = matching-implied _ _ c.same.ensures c.in-None.is c.operation_at.ensures c.implied.ensures in
    let r = c.old_part-rows.ensures in
    assumed_by _ _ _ c.in-Some-implied.k (counterpart_by _ _ _ (sym c.eq.ensures ∙ c.if-eq.false) r m) c.in-Some-implied.is r (c.matched.ensures ∙ ap (matched _ _ _) c.operation_at-in-Some-implied.ensures)

pub returns-in-None-implied : goal.returns-in-None-implied
returns-in-None-implied c =
    let m = matching-implied _ _ c.same.ensures c.in-None.is c.operation_at.ensures c.implied.ensures in
    assumed_on _ _ _ (counterpart_by _ _ _ (sym c.eq.ensures ∙ c.if-eq.false) c.old_part-rows.ensures m) c.in-None-implied.is
