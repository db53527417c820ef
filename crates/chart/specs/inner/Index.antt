-- The index of both tables by place, and what makes it: helps the functions that hand a place's rows to the step.
use Rattle.std.specs.Prelude.{◌≡◌, cond, List, ℕ, zero, suc, ◌+◌, ◌-◌, ◌≤◌, ◌<◌, eqb, length, get_or}
use Rattle.chart.specs.declared.places.Place.{Place}
use Rattle.chart.specs.declared.places.Place.TheVariants.{Old, New}
use Rattle.chart.specs.Charts.{size, from}
use Rattle.chart.specs.inner.Ascending.{Ascending}

-- the table of the chart that a place is in, and the place's number
abbrev pub table_of : Place → List ℕ → List ℕ → List ℕ
table_of (Old p) old new = old
table_of (New q) old new = new

abbrev pub number_of : Place → ℕ
number_of (Old p) = p.0
number_of (New q) = q.0

-- r is the first row whose "from" is not below p, or the count of rows
pub record Lower (t : List ℕ) (p r : ℕ) : Type 0 where
  pub inside : r ≤ size t
  pub below : (k : ℕ) → k < r → from t k < p
  pub reached : r < size t → p ≤ from t r

-- what a table has to be like for an index, as that of a faultless chart is
pub record Indexable (t : List ℕ) : Type 0 where
  pub ascending : Ascending t
  pub few_rows : size t ≤ 128
  pub few_places : (i : ℕ) → i < size t → from t i < 64

-- ---- End, Ends, last_of and Carried: the contracts of the two private functions that make the index
-- row r - 1 is the last of the first n rows that leaves the place before p; r is 0 where none does
pub record End (t : List ℕ) (n p r : ℕ) : Type 0 where
  pub within : r ≤ n
  pub leaves : 0 < r → from t (r - 1) + 1 ≡ p
  pub last : (k : ℕ) → r ≤ k → k < n → from t k + 1 ≡ p → ⊥

-- the 65 entries from `at` on are these of the first n rows, the others are as they were
pub record Ends (t : List ℕ) (n at : ℕ) (before after : List ℕ) : Type 0 where
  pub long : length after ≡ 130
  pub ends : (p : ℕ) → p ≤ 64 → End t n p (get_or after (at + p) 0)
  pub below : (j : ℕ) → j < at → get_or after j 0 ≡ get_or before j 0
  pub above : (j : ℕ) → at + 65 ≤ j → get_or after j 0 ≡ get_or before j 0

-- the last of the n entries from `at` on that is not 0, or 0
unfoldable pub last_of : List ℕ → ℕ → ℕ → ℕ
last_of e at zero = 0
last_of e at (suc n) = cond (eqb (get_or e (at + n) 0) 0) (last_of e at n) (get_or e (at + n) 0)

-- the n entries from `at` on are these, the others are as they were
pub record Carried (before : List ℕ) (at n : ℕ) (after : List ℕ) : Type 0 where
  pub long : length after ≡ 130
  pub first : (p : ℕ) → p < n → get_or after (at + p) 0 ≡ last_of before at (suc p)
  pub below : (j : ℕ) → j < at → get_or after j 0 ≡ get_or before j 0
  pub above : (j : ℕ) → at + n ≤ j → get_or after j 0 ≡ get_or before j 0

-- ---- the index
-- an index of both tables: entry p is the first row of the old one whose "from" is not below p, entry 65 + p that of
-- the new one. Entry 64 of each ends the rows of place 63
pub record Indexed (old new index : List ℕ) : Type 0 where
  pub olds : (p : ℕ) → p ≤ 64 → Lower old p (get_or index p 0)
  pub news : (p : ℕ) → p ≤ 64 → Lower new p (get_or index (65 + p) 0)
