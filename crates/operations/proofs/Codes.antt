-- What follows of an operation's code and operands. Assumes nothing.
use Rattle.std.proofs.Common.{◌≡◌, ℕ, ◌<◌, ◌≤◌, ◌+◌, ◌*◌, ◌/◌, ◌%◌, ◌^◌, true, false, arith}
use Rattle.std.specs.Prelude.{ltb}
use Rattle.std.proofs.lemmas.Grind.{common_steps}
use Rattle.operations.specs.declared.Operation.{Operation}
use Rattle.operations.specs.Operations.{plus, kind, by_kind, operand_b, assigned_c, operand_c, operands_fit}

-- the codes of assignments are 0 to 5
pub assigning : (x : ℕ) → by_kind (kind x) true false false false ≡ true → x ≤ 5
unfolding kind
assigning x e = grind (arith, common_steps)

-- ---- comparisons with a constant
-- d is how far the code that x repeats, or x itself, is from 16
pub constant_codes : (x d : ℕ) → d < 2 ^ 32 → plus d 16 ≡ x / 16 * 16 + x % 8 → ltb d 6 ≡ by_kind (kind x) false true false false
unfolding kind
constant_codes x d h e = grind (arith, common_steps)

-- ---- operands that fit
module _ (o : Operation) (h : operands_fit o ≡ true) where
  pub fit-a : o.a < 64
  unfolding operands_fit
  fit-a = grind (arith, common_steps)

  -- b is a variable or unused, in every code
  pub fit-b : o.b < 64
  unfolding operands_fit operand_b
  fit-b = grind (arith, common_steps)

  -- c is a variable in the codes 3 and 4
  pub fit-c : 3 ≤ o.code → o.code ≤ 4 → o.c < 64
  unfolding operands_fit kind operand_c assigned_c
  fit-c l u = grind (arith, common_steps)

-- what `value` and `holds` (src/inner/meaning.rt) rest on
pub ruleset fitting = (assigning, fit-a, fit-b, fit-c)
