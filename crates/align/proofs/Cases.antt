-- The steps of a short example, evaluated: an old chart that assigns 5 to v1, a new one that assigns 6. Assumes nothing.
use mathlib.Core.Path.{◌≡◌, refl}
use mathlib.Core.List.{[], ◌∷◌}
use Rattle.std.specs.Prelude.{Option, None, Some}
use Prim.Native.Nat.{ℕ}
use Rattle.base.specs.Options.{first_of}
use Rattle.operations.specs.declared.Operation.{Operation}
use Rattle.operations.specs.Operations.{kind, operand_b, assigned_c, operand_c, reads, same, related, holds}
use Rattle.operations.specs.Trials.{seats, trial, shown, together}
use Rattle.chart.specs.Charts.{Chart, leaving, rows_where}
use Rattle.chart.specs.Compared.{both}
use Rattle.align.specs.declared.spots.Spot.{Spot}
use Rattle.sets.specs.Sets.{alone, joined, with, without, meets, set_of}
use Rattle.align.specs.Reads.{read_set}
use Rattle.align.specs.Steps.{find, along, matching, matched, rewritten, assigned, onward, follow, followed, counterpart, assumed, moved, writing_row, unequal, at_both, rescued, arrived, step}

-- places 0 to 5, alarm 5: v1 := 5; v0 < 100 or v0 ≥ 100; v1 > 50 to the alarm or v1 ≤ 50
abbrev pub example : Chart
example =
    record {
      head = record { places = 6; alarm = 5 };
      table = 0 ∷ 1 ∷ 0 ∷ 1 ∷ 0 ∷ 5 ∷ 1 ∷ 2 ∷ 18 ∷ 0 ∷ 0 ∷ 100 ∷ 1 ∷ 3 ∷ 21 ∷ 0 ∷ 0 ∷ 100 ∷ 3 ∷ 5 ∷ 20 ∷ 1 ∷ 0 ∷ 50 ∷ 3 ∷ 4 ∷ 19 ∷ 1 ∷ 0 ∷ 50 ∷ [];
    }

-- places 0 to 3, alarm 3: v0 < 9 or v0 ≥ 9; behind the first v1 := 5 to the alarm, behind the second v2 := 0 for ever
abbrev pub behind : Chart
behind =
    record {
      head = record { places = 4; alarm = 3 };
      table = 0 ∷ 1 ∷ 18 ∷ 0 ∷ 0 ∷ 9 ∷ 0 ∷ 2 ∷ 21 ∷ 0 ∷ 0 ∷ 9 ∷ 1 ∷ 3 ∷ 0 ∷ 1 ∷ 0 ∷ 5 ∷ 2 ∷ 2 ∷ 0 ∷ 2 ∷ 0 ∷ 0 ∷ [];
    }

abbrev pub by : Chart → ℕ → ℕ → ℕ → Operation → ℕ → Option Spot
by C edition p set o q = step (both edition C C) (record { place = record { 0 = p }; set = set }) o (record { 0 = q })

abbrev pub from-to : ℕ → ℕ → ℕ → Operation → ℕ → Option Spot
from-to = by example

abbrev pub at : ℕ → ℕ → Option Spot
at p set = Some (record { place = record { 0 = p }; set = set })

-- v1 := 6 has no equal old row: the old place stays, v1 joins the set. v0 < 100: the old assignment is followed first, then the equal row
-- is taken. v1 > 50 reads v1, which may differ: the step fails. v1 > 60 implies v1 > 50: with an empty set it goes to both alarms.
-- v1 < 0 holds for no values, so it matches no row: the step goes to the new alarm alone and fails. In edition 2 v1 := 6 moves the old chart
-- too. v0 < 9 to the new alarm comes to the old place 1: edition 1 fails, edition 2 follows v1 := 5 to the old alarm; v0 ≥ 9 comes to place
-- 2, from where no assignment leads there, and fails. An equal row comes first: by v1 := 5 both agree on v1 again. Where v0 may differ the
-- match of v0 < 9 fails, and a failed match is not saved
pub steps : (from-to 1 0 0 (record { code = 0; a = 1; b = 0; c = 6 }) 1 ≡ at 0 2)
    × (from-to 1 0 2 (record { code = 18; a = 0; b = 0; c = 100 }) 2 ≡ at 2 2)
    × (from-to 1 3 2 (record { code = 20; a = 1; b = 0; c = 50 }) 5 ≡ None)
    × (from-to 1 3 0 (record { code = 20; a = 1; b = 0; c = 60 }) 5 ≡ at 5 0)
    × (from-to 1 3 0 (record { code = 18; a = 1; b = 0; c = 0 }) 5 ≡ None)
    × (from-to 2 0 0 (record { code = 0; a = 1; b = 0; c = 6 }) 1 ≡ at 1 2)
    × (by behind 1 0 0 (record { code = 18; a = 0; b = 0; c = 9 }) 3 ≡ None)
    × (by behind 2 0 0 (record { code = 18; a = 0; b = 0; c = 9 }) 3 ≡ at 3 2)
    × (by behind 2 0 0 (record { code = 21; a = 0; b = 0; c = 9 }) 3 ≡ None)
    × (from-to 2 0 2 (record { code = 0; a = 1; b = 0; c = 5 }) 1 ≡ at 1 0)
    × (by behind 2 0 1 (record { code = 18; a = 0; b = 0; c = 9 }) 3 ≡ None)
unfolding alone joined with without meets set_of read_set find along matching matched rewritten assigned onward follow followed counterpart assumed moved writing_row unequal at_both rescued arrived step first_of kind operand_b assigned_c operand_c reads same leaving rows_where together seats trial shown holds related
steps = (refl, refl, refl, refl, refl, refl, refl, refl, refl, refl, refl)
