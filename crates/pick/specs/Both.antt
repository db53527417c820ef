-- What reading both texts answers ("the program finishes old.csv before new.csv"), and leaves in the two tables.
use Rattle.std.specs.Prelude.{◌≡◌, List, ℕ}
use Rattle.base.specs.Answers.{Answer}
use Rattle.base.specs.Chains.{and_then, mapped}
use Rattle.chart.specs.Charts.{Chart, size}
use Rattle.chart.specs.Compared.{Compared, heads_of}
use Rattle.text.specs.Texts.{filled}
use Rattle.pick.specs.declared.Both.{Both}
use Rattle.report.specs.Printed.{both_of, program_edition}

-- "n, alarm, row count" of two charts that are read, and the edition that the program names
abbrev pub counted : Compared → Both
counted X = record { heads = heads_of X; old_rows = size X.old.table; new_rows = size X.new.table }

-- "The program reads old.csv and new.csv": the answer r, where a and b are read of the two texts, and the two tables
-- before and after: the old chart's rows at the front of the first, the new chart's at the front of the second, which
-- is not touched where the old chart is refused.
pub record BothAs (a b : Answer Chart) (r : Answer Both) (old old' new new' : List ℕ) : Type 0 where
  pub answer : r ≡ mapped counted (both_of program_edition a b)
  pub old-table : old' ≡ filled a old
  pub new-table : new' ≡ filled (and_then a (λ (C : Chart). b)) new
