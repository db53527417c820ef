-- Bytes that are put at an offset of a lent buffer, one field after the other, and how many they are at most.
use Rattle.std.specs.Prelude.{◌≡◌, ℕ, ◌+◌, ◌-◌, ◌*◌, ◌/◌, List, length}
use Rattle.std.proofs.lemmas.List.Edits.{sets}

-- the bytes that so many fields from field k on take at most: ten digits and a comma each, and one more for each record
-- that ends
abbrev pub room : ℕ → ℕ → ℕ
room k n = 11 * n + ((k + n) / 6 - k / 6)

-- the bytes are put at an offset of a buffer, and r is the offset after them
pub record Put (before : List ℕ) (at : ℕ) (bytes after : List ℕ) (r : ℕ) : Type 0 where
  pub is : after ≡ sets before at bytes
  pub next : r ≡ at + length bytes
