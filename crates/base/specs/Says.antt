-- Tests kept as they are written, so that a rule of the specification is read as it computes: what a test computes to,
-- and what it says.
use Rattle.std.specs.Prelude.{◌≡◌, Bool, true, ◌&&◌, ◌||◌, not, ◌≢◌, ◌⊎◌, ℕ, zero, suc, ◌≤◌, ◌<◌, T, eqb, leb}

-- each number below n passes: "For each present pair [..], and each of its rows"
unfoldable pub every : ℕ → (ℕ → Bool) → Bool
every zero f = true
every (suc n) f = every n f && f n

-- a test as it is written, as those of "Rules for refusal 32": comparisons, others that compute, and, or, for each
pub data Test : Type 0 where
  eq ne le : ℕ → ℕ → Test
  so : Bool → Test
  ◌and◌ ◌or◌ : Test → Test → Test
  each : ℕ → (ℕ → Test) → Test

infixr 35 ◌and◌
infixr 30 ◌or◌
-- "below n"
abbrev pub below : ℕ → ℕ → Test
below m n = le (suc m) n

-- what a test computes to: the checker passes a record "exactly when no refusal below is due"
abbrev pub bool : Test → Bool
bool (eq m n) = eqb m n
bool (ne m n) = not (eqb m n)
bool (le m n) = leb m n
bool (so b) = b
bool (s and t) = bool s && bool t
bool (s or t) = bool s || bool t
bool (each n f) = every n (λ k. bool (f k))

-- what a test says: the rules of "The checker" as statements, of which the theorems speak
abbrev pub Says : Test → Type 0
Says (eq m n) = m ≡ n
Says (ne m n) = m ≢ n
Says (le m n) = m ≤ n
Says (so b) = T b
Says (s and t) = Says s × Says t
Says (s or t) = Says s ⊎ Says t
Says (each n f) = (k : ℕ) → k < n → Says (f k)
