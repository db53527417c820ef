-- What the inner functions of the reader answer and leave: no rule speaks of it, and no contract of an entry point
-- cites it.
use Rattle.std.specs.Prelude.{ℕ, zero, suc, ◌*◌, List, [], ◌∷◌, ◌++◌, length, drop, Result, Ok, Err}
use Rattle.base.specs.Answers.{Answer}
use Rattle.text.specs.declared.answers.Heading.{Heading}
use Rattle.text.specs.declared.causes.Unfit.{Unfit}
use Rattle.text.specs.Causes.{refusal_of}
use Rattle.text.specs.Fields.{Field, item_at}
use Rattle.text.specs.Texts.{head_in, count_in}

-- ---- fields into a table
-- the numbers of a field that fits and of those after it; none of one that does not fit
abbrev pub on_number : Field → (ℕ → ℕ → List ℕ) → List ℕ
on_number (Ok n) f = f n.value n.next
on_number (Err u) f = []

-- the numbers of so many fields, from field k at an offset on, as far as they fit
unfoldable pub numbers_at : ℕ → ℕ → List ℕ → ℕ → List ℕ
numbers_at zero k text at = []
numbers_at (suc n) k text at = on_number (item_at k text at) (λ x p. x ∷ numbers_at n (suc k) text p)

-- a table with these numbers at its front, and the rest as it was
abbrev pub laid : List ℕ → List ℕ → List ℕ
laid l table = l ++ drop (length l) table

-- the offset that is reached, or why and where the text does not fit
abbrev pub Reach : Type 0
Reach = Result ℕ Unfit

-- what is reached after a field that fits; one that does not fit stays
abbrev pub on_fit : Field → (ℕ → Reach) → Reach
on_fit (Ok n) f = f n.next
on_fit (Err u) f = Err u

-- the offset after these fields, or why and where one does not fit
unfoldable pub reach_at : ℕ → ℕ → List ℕ → ℕ → Reach
reach_at zero k text at = Ok at
reach_at (suc n) k text at = on_fit (item_at k text at) (λ p. reach_at n (suc k) text p)

-- the offset reached: past the fields, and still where they began if one does not fit
unfoldable pub reached : Reach → ℕ → ℕ
reached (Ok p) at = p
reached (Err u) at = at

-- ---- the first record
-- what it tells, by its numbers: head and row count
unfoldable pub record_of : Reach → List ℕ → Result Heading Unfit
record_of (Ok p) l = Ok (record { head = head_in l; rows = count_in l })
record_of (Err u) l = Err u

unfoldable pub first_at : List ℕ → ℕ → Result Heading Unfit
first_at text at = record_of (reach_at 6 0 text at) (numbers_at 6 0 text at)

-- the offset reached by that of a text
abbrev pub past_first : List ℕ → ℕ
past_first text = reached (reach_at 6 0 text 0) 0

-- the entries of as many rows as it counts, none where it does not fit
unfoldable pub entries_of : Result Heading Unfit → ℕ
entries_of (Ok h) = 6 * h.rows
entries_of (Err u) = 0

-- ---- the whole walk
-- what the walk puts into its table: the numbers of the rows, as far as they fit
unfoldable pub row_numbers : List ℕ → List ℕ
row_numbers text = numbers_at (entries_of (first_at text 0)) 6 text (past_first text)

-- what the walk over a text gives, with the refusal of a text that does not fit
abbrev pub refusing : {A : Type 0} → Result A Unfit → Answer A
refusing (Ok x) = Ok x
refusing (Err u) = Err (refusal_of u)
