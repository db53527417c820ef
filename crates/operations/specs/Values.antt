-- The values of the variables ("Charts and rows").
use Rattle.std.specs.Prelude.{◌≡◌, ℕ, ◌^◌, ◌<◌, List, length, slice_index}

-- "Variables v0 to v63 hold u32 values": 64 numbers below 2^32
pub record Values (v : List ℕ) : Type 0 where
  pub count : length v ≡ 64
  pub small : (i : ℕ) → slice_index v i < 2 ^ 32

-- the value of a variable, which is "shared by number between both charts"
abbrev pub var : List ℕ → ℕ → ℕ
var v i = slice_index v i
