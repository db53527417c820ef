-- What the calls that evaluate one operation of a row on 64 lent values answer ("Charts and rows", "Who can cause a
-- refusal").
use Rattle.std.specs.Prelude.{ℕ, Bool, true, false, not, List, length, ◌==◌, Option}
use Rattle.base.specs.Answers.{Answer}
use Rattle.base.specs.Options.{or_else}
use Rattle.base.specs.declared.Refusal.{Refusal}
use Rattle.base.specs.Refusals.{due, unless}
use Rattle.operations.specs.declared.Operation.{Operation}
use Rattle.operations.specs.Operations.{is_assignment, is_assumption, operands_fit, value, holds}
use Rattle.operations.specs.Values.{var}

-- "21, a lent length differs from the stated one": other than 64 values; "6 unknown op": a code of another sort than is
-- asked for; "7 variable above 63 or an unused operand not 0"
unfoldable pub operation_fault : Bool → Operation → List ℕ → Option Refusal
operation_fault sort o v =
    or_else (due (not (length v == 64)) 21 0) (or_else (due (not sort) 6 0) (due (not (operands_fit o)) 7 0))

-- "An assignment writes va": the value that it writes
unfoldable pub written_by : Operation → List ℕ → Answer ℕ
written_by o v = unless (operation_fault (is_assignment o) o v) (value o (var v))

-- "an assumption must hold of the values": whether they meet it
unfoldable pub met_by : Operation → List ℕ → Answer Bool
met_by o v = unless (operation_fault (is_assumption o) o v) (holds o (var v))
