-- `align::inner::step::assigned` meets its contract: with the equal row, or without one. Assumes nothing.
use mathlib.Core.Path.{◌≡◌, sym, subst, ◌∙◌}
use Rattle.align.proofs.Moves.{assigned_equal, assigned-unequal}
use Rattle.align.proofs.Seek.{found_inside}
use Rattle.operations.specs.declared.Operation.{Operation}
use Rattle.operations.specs.Operations.{is_assignment, operands_fit}
use mathlib.Core.Bool.{true}
use Prim.Native.Nat.{ℕ, ◌<◌}
use Rattle.operations.proofs.Codes.{fit-a}
use Rattle.align.proofs.inner.step.assigned.Goals as goal

pub old_part-rows-requires : goal.old_part-rows-requires
old_part-rows-requires c = c.requires.place_bound

pub old_to-requires : goal.old_to-requires
old_to-requires c = found_inside _ _ _ (sym c.in-Some.is ∙ c.same.ensures)

pub rewritten-requires : goal.rewritten-requires
rewritten-requires c =
    subst (λ (o : Operation). (is_assignment o ≡ true) × (operands_fit o ≡ true)) (sym c.operation_at.ensures) (c.requires.j_bound.1, c.requires.j_bound.2)

pub unequal-requires : goal.unequal-requires
unequal-requires c = record { place_bound = c.requires.place_bound; a_bound = subst (λ (a : ℕ). a < 64) (sym c.a_at.ensures) (fit-a _ c.requires.j_bound.2) }

pub returns-in-Some : goal.returns-in-Some
returns-in-Some c = assigned_equal _ _ _ c.old_part-rows.ensures c.same.ensures c.in-Some.is c.old_to.ensures c.operation_at.ensures c.rewritten.ensures

pub returns-in-None : goal.returns-in-None
returns-in-None c = assigned-unequal _ _ _ c.old_part-rows.ensures c.same.ensures c.in-None.is c.a_at.ensures c.unequal.ensures
