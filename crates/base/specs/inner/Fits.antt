-- Refusals whose numbers are small, as those of every refusal are: whoever prints one, or makes one number of it, has
-- to know it.
use Rattle.std.specs.Prelude.{◌^◌, ◌≤◌, ◌<◌, Ok, Err}
use Rattle.base.specs.declared.Refusal.{Refusal}
use Rattle.base.specs.Answers.{Answer}

-- the number is one of 1 to 255, the chart has 8 bits, the position 32
pub record Fits (r : Refusal) : Type 0 where
  pub some_number : 1 ≤ r.number
  pub number : r.number < 2 ^ 8
  pub chart : r.chart < 2 ^ 8
  pub position : r.position < 2 ^ 32

-- an answer: a refusal that fits, or something given of which P holds
abbrev pub FitsOr : {A : Type 0} → (A → Type 0) → Answer A → Type 0
FitsOr P (Ok x) = P x
FitsOr P (Err r) = Fits r
