-- Answers of the crates `operations` and `chart` as one number each, for the tests: "A test program runs the others".
use Rattle.std.specs.Prelude.{Bool, true, false, ℕ, ◌+◌, Option, None, Some, Ok, Err}
use Rattle.base.specs.Answers.{Answer}
use Rattle.base.specs.declared.Refusal.{Refusal}
use Rattle.operations.specs.declared.Operation.{Operation}
use Rattle.operations.specs.declared.assumptions.Implication.{Implication}
use Rattle.operations.specs.declared.assumptions.Implication.TheVariants.{Never, Implied, NotImplied}

-- "op, a, b, c" as one operation
abbrev pub operation : ℕ → ℕ → ℕ → ℕ → Operation
operation code a b c = record { code = code; a = a; b = b; c = c }

-- "all values meeting the first meet the second": 1 if so, 2 if not, 0 if no values meet the first
abbrev pub implication_number : Implication → ℕ
implication_number Never = 0
implication_number Implied = 1
implication_number NotImplied = 2

-- whether "exactly one holds, for all values", or an assumption does: 1 if so, else 0
abbrev pub bit : Bool → ℕ
bit true = 1
bit false = 0

-- "Each gives number, chart [..], position": a refusal's number, 0 where there is none
abbrev pub fault_number : Option Refusal → ℕ
fault_number None = 0
fault_number (Some r) = r.number

-- "Each gives number, chart [..], position": a refusal's position, 0 where there is none
abbrev pub fault_position : Option Refusal → ℕ
fault_position None = 0
fault_position (Some r) = r.position

-- "An assignment writes va": what it writes, or 2^32 and a refusal's number
abbrev pub written_number : Answer ℕ → ℕ
written_number (Ok x) = x
written_number (Err r) = 4294967296 + r.number

-- "an assumption must hold of the values": whether it does, or 2^32 and a refusal's number
abbrev pub met_number : Answer Bool → ℕ
met_number (Ok b) = bit b
met_number (Err r) = 4294967296 + r.number
