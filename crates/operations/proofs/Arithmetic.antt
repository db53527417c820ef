-- What codes 4 and 5 write (document 02, #105): code 4 stops at nought, code 5 wraps. Each for all values, and by
-- numbers, as `value_written` answers them. Assumes nothing.
use Rattle.std.proofs.Common.{◌≡◌, ℕ, ◌+◌, ◌-◌, ◌%◌, ◌^◌, ◌<◌, ◌≤◌, List, set, replicate, refl, arith}
use Rattle.std.specs.Prelude.{Ok}
use Rattle.operations.specs.declared.Operation.{Operation}
use Rattle.operations.specs.Operations.{value}
use Rattle.operations.specs.Operations as operations
use Rattle.operations.specs.Answers.{written_by}
use Rattle.operations.specs.Answers as answers

-- ---- for all values
module _ (o : Operation) (v : ℕ → ℕ) where
  -- code 4 where the subtrahend is not larger: what is written and the subtrahend make vb
  pub code_4_less : o.code ≡ 4 → v o.c ≤ v o.b → value o v + v o.c ≡ v o.b
  unfolding value
  code_4_less e l = rw e (omega arith)

  -- "gives 0 where the subtrahend is larger"
  pub code_4_nought : o.code ≡ 4 → v o.b < v o.c → value o v ≡ 0
  unfolding value
  code_4_nought e l = rw e (omega arith)

  -- "go on wrapping": code 5
  pub code_5_wraps : o.code ≡ 5 → value o v ≡ (2 ^ 32 - v o.b) % 2 ^ 32
  unfolding value
  code_5_wraps e = rw e (omega arith)

-- ---- by numbers
-- an assignment to v0 with v1 as its b
abbrev with_v1 : ℕ → ℕ → Operation
with_v1 code c = record { code = code; a = 0; b = 1; c = c }

-- 64 values: those of v1 and v2, and 0 for all others
abbrev holding : ℕ → ℕ → List ℕ
holding x y = set (set (replicate 64 0) 1 x) 2 y

-- fuel of 5 less a burn of 100; fuel of 100 less a burn of 5; 0 − 1, by code 5
pub by_numbers : (written_by (with_v1 4 2) (holding 5 100) ≡ Ok 0)
    × (written_by (with_v1 4 2) (holding 100 5) ≡ Ok 95)
    × (written_by (with_v1 5 0) (holding 1 0) ≡ Ok 4294967295)
unfolding operations.kind operations.operand_b operations.assigned_c operations.operand_c operations.operands_fit operations.value answers.operation_fault answers.written_by
by_numbers = (refl, refl, refl)
