-- Values that may be missing, and the first of several: refusals that are due or not, in order, and what is sought.
use Rattle.std.specs.Prelude.{Bool, true, false, ℕ, zero, suc, Option, None, Some}

module _ {A : Type 0} where
  -- the value, only where the test passes: a refusal that "is due"
  abbrev pub when : Bool → A → Option A
  when true x = Some x
  when false x = None

  -- the first one, else the second: "31 [..]. Then 32", the equal row, "failing that" the implied one
  abbrev pub or_else : Option A → Option A → Option A
  or_else None o = o
  or_else (Some x) o = Some x

  -- "no refusal below is due"; a row that is "not found"
  abbrev pub missing : Option A → Bool
  missing None = true
  missing (Some x) = false

  -- the first value that the numbers below n give, in ascending order: "the first row in conflict with an earlier one"
  unfoldable pub first_of : ℕ → (ℕ → Option A) → Option A
  first_of zero f = None
  first_of (suc n) f = or_else (first_of n f) (f n)
