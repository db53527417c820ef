-- What is known of a table without rows that never hold: inner functions require it.
use Rattle.std.specs.Prelude.{◌≡◌, Bool, false, List, ℕ, ◌<◌}
use Rattle.operations.specs.Trials.{never_holds}
use Rattle.chart.specs.Charts.{size, operation}

-- where it is said that there are none, no row of the table is one that never holds
abbrev pub NoneNever : Bool → List ℕ → Type 0
NoneNever some t = some ≡ false → (i : ℕ) → i < size t → never_holds (operation t i) ≡ false
