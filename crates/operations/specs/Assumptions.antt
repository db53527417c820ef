-- What it means that one assumption implies another, and that exactly one of two holds, over all 64 values ("Charts and
-- rows").
use Rattle.std.specs.Prelude.{◌≡◌, ℕ, ◌^◌, ◌<◌, true, not, List}
use Rattle.operations.specs.declared.Operation.{Operation}
use Rattle.operations.specs.declared.assumptions.Implication.{Implication}
use Rattle.operations.specs.declared.assumptions.Implication.TheVariants.{Never, Implied, NotImplied}
use Rattle.operations.specs.Operations.{holds}
use Rattle.operations.specs.Values.{Values, var}

-- the values meet the assumption: "all values meeting the first"
abbrev pub Meets : List ℕ → Operation → Type 0
Meets v f = holds f (var v) ≡ true

-- not "some values meet the new assumption"
abbrev pub NeverHolds : Operation → Type 0
NeverHolds f = (v : List ℕ) → Values v → Meets v f → ⊥

-- "One assumption implies another exactly if all values meeting the first meet the second."
abbrev pub Implies : Operation → Operation → Type 0
Implies f g = (v : List ℕ) → Values v → Meets v f → Meets v g

-- "exactly one holds, for all values"
abbrev pub ExactlyOne : Operation → Operation → Type 0
ExactlyOne f g = (v : List ℕ) → Values v → holds f (var v) ≡ not (holds g (var v))

-- what each answer of the test of two assumptions says of the first and the second: "only if some values meet the new
-- assumption, the old assumption at p that it implies"
abbrev pub Means : Implication → Operation → Operation → Type 0
Means Never f g = NeverHolds f
Means Implied f g = (NeverHolds f → ⊥) × Implies f g
Means NotImplied f g = (NeverHolds f → ⊥) × (Implies f g → ⊥)

-- operands as a row of a faultless chart has them: "Variables v0 to v63", "rows of six u32 fields"
pub record Operands (f : Operation) : Type 0 where
  pub a : f.a < 64
  pub b : f.b < 64
  pub c : f.c < 2 ^ 32
