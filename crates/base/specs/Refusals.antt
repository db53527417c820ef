-- What a refusal tells ("Who can cause a refusal"): the struct `Refusal` of the code is the record of the definitions.
use Rattle.std.specs.Prelude.{Bool, ℕ, Option, None, Some, Ok, Err}
use Rattle.base.specs.declared.Refusal.{Refusal}
use Rattle.base.specs.Answers.{Answer}
use Rattle.base.specs.Options.{when}

-- the refusal with this number and position: "chart (0 old or sole, 1 new)", and 0 where none is named
abbrev pub sole : ℕ → ℕ → Refusal
sole n p = record { number = n; chart = 0; position = p }

-- "Each gives number, chart (0 old or sole, 1 new), position": the one in the chart k, where the test says that it is
-- due
abbrev pub due_in : ℕ → Bool → ℕ → ℕ → Option Refusal
due_in k b n p = when b (record { number = n; chart = k; position = p })

-- the one with chart 0: that chart is "old or sole", or none is named, "as in 21, 31 and 32"
abbrev pub due : Bool → ℕ → ℕ → Option Refusal
due = due_in 0

-- what is answered, unless a refusal is due: that of "a whole build without refusal", else the refusal
abbrev pub unless : {A : Type 0} → Option Refusal → A → Answer A
unless None x = Ok x
unless (Some r) x = Err r
