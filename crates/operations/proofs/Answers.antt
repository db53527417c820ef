-- The refusals of one operation, as the code comes upon them. Assumes nothing.
use Rattle.std.proofs.Common.{◌≡◌, ℕ, Bool, true, false, List, length, eq-eqb, ne_eqb}
use Rattle.std.proofs.lemmas.Bool.{not-false, eqb-true}
use Rattle.std.specs.Prelude.{None, Some}
use Rattle.base.specs.Refusals.{sole}
use Rattle.base.proofs.Options.{both-missing, not_due}
use Rattle.operations.specs.declared.Operation.{Operation}
use Rattle.operations.specs.Operations.{operands_fit}
use Rattle.operations.specs.Answers.{operation_fault}

module _ (sort : Bool) (o : Operation) (v : List ℕ) where
  pub other_length : (length v ≡ 64 → ⊥) → Some (sole 21 0) ≡ operation_fault sort o v
  unfolding operation_fault
  other_length n = rw (ne_eqb (length v) 64 n)

  pub other_sort : length v ≡ 64 → sort ≡ false → Some (sole 6 0) ≡ operation_fault sort o v
  unfolding operation_fault
  other_sort l s = rw (eq-eqb (length v) 64 l, s)

  pub unfit : length v ≡ 64 → sort ≡ true → operands_fit o ≡ false → Some (sole 7 0) ≡ operation_fault sort o v
  unfolding operation_fault
  unfit l s h = rw (eq-eqb (length v) 64 l, s, h)

  pub fitting : length v ≡ 64 → sort ≡ true → operands_fit o ≡ true → None ≡ operation_fault sort o v
  unfolding operation_fault
  fitting l s h = rw (eq-eqb (length v) 64 l, s, h)

-- where no refusal is due, there are 64 values, the operation is of the sort, and its operands fit
pub undue : (sort : Bool) (o : Operation) (v : List ℕ) → operation_fault sort o v ≡ None
    → (length v ≡ 64) × (sort ≡ true) × (operands_fit o ≡ true)
unfolding operation_fault
undue sort o v e =
    let p = both-missing _ _ e in
    let q = both-missing _ _ p.1 in
    (eqb-true (length v) 64 (not-false _ (not_due _ _ p.0)), not-false _ (not_due _ _ q.0), not-false _ (not_due _ _ q.1))
