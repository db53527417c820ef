-- A worked case ("Worked sessions"), and what it says.
use Rattle.std.specs.Prelude.{◌≡◌, List, [], ◌∷◌, ℕ, ◌+◌, Ok}
use Prim.Native.Char.{code}
use Prim.Native.String.{String, [] as []ˢ, ◌∷◌ as ◌∷ˢ◌}
use Rattle.operations.specs.declared.Operation.{Operation}
use Rattle.operations.specs.Operations.{value}
use Rattle.operations.specs.Assumptions.{Implies}
use Rattle.base.specs.Chains.{mapped}
use Rattle.chart.specs.Compared.{Compared}
use Rattle.records.specs.Records.{set_at}
use Rattle.condition.specs.Builds.{recorded}
use Rattle.report.specs.Printed.{both_read, printed_in, printed}

-- ---- texts and operations as document 01 writes them
-- the bytes of a text: "old.csv, records split by spaces here"
unfoldable pub bytes : String → List ℕ
bytes []ˢ = []
bytes (c ∷ˢ s) = code c ∷ bytes s

-- "2 vb + c", to v0
abbrev pub adds : ℕ → ℕ → Operation
adds b c = record { code = 2; a = 0; b = b; c = c }

-- "16 + r compares va with c"
abbrev pub constant : ℕ → ℕ → ℕ → Operation
constant r a c = record { code = 16 + r; a = a; b = 0; c = c }

-- "Codes 24 to 29 .. repeat 16 to 21 .. with values read as two's complement of 32 bits, constants too" (document 02,
-- #102): 24 + r compares va with c
abbrev pub signed_constant : ℕ → ℕ → ℕ → Operation
signed_constant r a c = record { code = 24 + r; a = a; b = 0; c = c }

-- "32 + r compares va with vb"
abbrev pub variables : ℕ → ℕ → ℕ → Operation
variables r a b = record { code = 32 + r; a = a; b = b; c = 0 }

-- ---- the cases that are marked § ("Worked sessions (§ is proved)"), and those of document 02
pub data Case : Type 0 where
  -- old.csv, new.csv and what is printed
  prints : String → String → String → Case
  -- an edition (document 02, #104), old.csv, new.csv and what would be printed of the condition that it builds
  prints_in : ℕ → String → String → String → Case
  -- an edition, old.csv, new.csv, a pair and its set in the condition that is built
  tracks : ℕ → String → String → ℕ → ℕ → Case
  -- the first assumption implies the second, or not
  implied not_implied : Operation → Operation → Case
  -- the assumption implies anything
  anything : Operation → Case
  -- the sum of two values
  sum : ℕ → ℕ → ℕ → Case

-- What a case says. An implication speaks of all 64 values; what implies anything implies every second assumption,
-- whatever its operands; a sum is what code 2 writes, whatever the values, where v0 is its first number.
abbrev pub Says : Case → Type 0
Says (prints old new out) = printed (bytes old) (bytes new) ≡ bytes out
Says (prints_in edition old new out) = printed_in edition (bytes old) (bytes new) ≡ bytes out
Says (tracks edition old new pair set) =
    mapped (λ (X : Compared). set_at (recorded X).graph pair) (both_read edition (bytes old) (bytes new)) ≡ Ok set
Says (implied f g) = Implies f g
Says (not_implied f g) = Implies f g → ⊥
Says (anything f) = (g : Operation) → Implies f g
Says (sum x y z) = (v : ℕ → ℕ) → v 0 ≡ x → value (adds 0 y) v ≡ z

-- every case of a list: "gathered as one list checked by one theorem"
pub data Every : List Case → Type 0 where
  none : Every []
  one : {c : Case} {l : List Case} → Says c → Every l → Every (c ∷ l)
