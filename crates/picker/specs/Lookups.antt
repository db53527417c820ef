-- The row lookup with its part copied: picker_lookup of include/picker.h.
use Rattle.std.specs.Prelude.{not, List, ◌++◌, ℕ, eqb, length, drop, Ok, Err}
use Rattle.base.specs.Answers.{Answer}
use Rattle.base.specs.Refusals.{due, unless}
use Rattle.chart.specs.Charts.{size}
use Rattle.chart.specs.Compared.{Compared}
use Rattle.chart.specs.Lookup.{lookup}
use Rattle.picker.specs.declared.Four.{Four}
use Rattle.picker.specs.Numbers.{one}

-- the part that the lookup hands back, for 12 lent entries; "21, a lent length differs from the stated one"
unfoldable pub looked_up : Compared → ℕ → ℕ → List ℕ → Answer (List ℕ)
looked_up X chart p rows = unless (due (not (eqb (length rows) 12)) 21 0) (lookup X chart p)

-- the lent entries afterwards: the part at the front, and those past it stay; "lent memory is untouched" by a refusal
unfoldable pub handed : Answer (List ℕ) → List ℕ → List ℕ
handed (Ok part) rows = part ++ drop (length part) rows
handed (Err r) rows = rows

-- picker_lookup_rows of include/picker.h, of a part: the count of its rows, 0, 0, 0
abbrev pub of_rows : List ℕ → Four
of_rows part = one (size part)
