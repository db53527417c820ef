-- Two assumptions whose rows show that exactly one holds (contracts of src/inner/opposed.rt).
use Rattle.std.specs.Prelude.{◌≡◌, ℕ, ◌/◌, ◌%◌, true, false, not}
use Rattle.operations.specs.declared.Operation.{Operation}
use Rattle.operations.specs.Operations.{kind, by_kind, related, holds}

-- codes of two assumptions that compare with the same sort of operand and in the same order, by opposite relations: no
-- trial is needed
pub record OppositeCodes (f g : ℕ) : Type 0 where
  pub first : by_kind (kind f) false true true false ≡ true
  pub second : by_kind (kind g) false true true false ≡ true
  pub sort : by_kind (kind f) false true false false ≡ by_kind (kind g) false true false false
  pub order : f / 8 ≡ g / 8
  pub relations : (x y : ℕ) → related (f % 8) x y ≡ not (related (g % 8) x y)

-- exactly one holds of any values whatever, in sight of the two operations: they compare the same in opposite ways
abbrev pub Opposed : Operation → Operation → Type 0
Opposed f g = (v : ℕ → ℕ) → holds f v ≡ not (holds g v)
