-- What theorems suppose of a table that they are given apart from any code.
use mathlib.Core.List.{List}
use Prim.Native.Nat.{ℕ, ◌^◌, ◌<◌}
use lib.ListN.{get_or}

-- "u32 fields": the entries of a lent table are below 4,294,967,296
pub record Words (t : List ℕ) : Type 0 where
  pub small : (k : ℕ) → get_or t k 0 < 2 ^ 32
