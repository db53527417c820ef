-- What fault 8 says of the values ("Charts and rows"): `clash` of Faults.antt is this for rows that have passed 4 to
-- 7, which is proved in proofs/Conflicts.antt.
use Rattle.std.specs.Prelude.{◌≡◌, true, List, ℕ}
use Rattle.operations.specs.declared.Operation.{Operation}
use Rattle.operations.specs.Operations.{is_assumption}
use Rattle.operations.specs.Assumptions.{ExactlyOne}
use Rattle.chart.specs.Charts.{from, operation}

-- "both be assumptions of which exactly one holds, for all values"
pub record Opposite (f g : Operation) : Type 0 where
  pub first : is_assumption f ≡ true
  pub second : is_assumption g ≡ true
  pub one : ExactlyOne f g

-- "Two rows of one place must [..]": rows i and j are of one place, and are not so
abbrev pub Conflict : List ℕ → ℕ → ℕ → Type 0
Conflict t i j = (from t j ≡ from t i) × (Opposite (operation t j) (operation t i) → ⊥)
