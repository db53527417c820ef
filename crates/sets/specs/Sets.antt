-- Sets of the variables v0 to v63 ("sets (4,096 u64, bit i for vi)"); V_δ of the source maps a pair to one of these.
use Rattle.std.specs.Prelude.{Bool, not, List, [], ◌∷◌, ℕ, ◌-◌, ◌/◌, ◌%◌, ◌^◌, eqb}
use Rattle.std.specs.Int.Bits.{bit_and, bit_or}

-- "bit i for vi"
abbrev pub bit : ℕ → ℕ → ℕ
bit s i = s / 2 ^ i % 2

-- "bit i for vi": the set of v alone
unfoldable pub alone : ℕ → ℕ
alone v = 2 ^ v

-- "its set gains the step's set": the members of both
unfoldable pub joined : ℕ → ℕ → ℕ
joined s t = bit_or s t

-- "V plus the written variable"
unfoldable pub with : ℕ → ℕ → ℕ
with s v = joined s (alone v)

-- "V without it"
unfoldable pub without : ℕ → ℕ → ℕ
without s v = bit_and s (2 ^ 64 - 1 - alone v)

-- "V meets [..]": some variable is in both
unfoldable pub meets : ℕ → ℕ → Bool
meets s t = not (eqb (bit_and s t) 0)

-- "its set holding the step's set": each variable of t is in s
unfoldable pub holds_all : ℕ → ℕ → Bool
holds_all s t = eqb (bit_or s t) s

-- the variables of a list, such as "the read ones", as a set
unfoldable pub set_of : List ℕ → ℕ
set_of [] = 0
set_of (v ∷ l) = joined (alone v) (set_of l)
