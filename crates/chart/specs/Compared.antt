-- What is compared, an old chart and a new one, and by which edition of the detector, as one value. It is handed on
-- whole: what is compared, or what a head has, can gain a field without a change to those that only hand it on.
use Rattle.std.specs.Prelude.{Bool, ◌||◌, List, ℕ, eqb}
use Rattle.chart.specs.Heads.{Head, OldHead, NewHead}
use Rattle.chart.specs.declared.charts.Heads.{Heads}
use Rattle.chart.specs.Charts.{Chart, charted}

-- "both charts": variables "are shared by number between both charts", places are not. "Callers of builder or checker
-- name edition 1 or 2" (document 02, #104): beside the refusal of any other, only the aligned step looks at it
pub record Compared : Type 0 where
  pub edition : ℕ
  pub old : Chart
  pub new : Chart

-- "both charts", each by itself, by the edition that is named
abbrev pub both : ℕ → Chart → Chart → Compared
both edition old new = record { edition = edition; old = old; new = new }

-- "edition 1 or 2": "Any other edition is 21." (document 02, #104)
abbrev pub edition_named : ℕ → Bool
edition_named edition = eqb edition 1 || eqb edition 2

-- "In edition 2" (document 02, #104)
abbrev pub is_second : Compared → Bool
is_second X = eqb X.edition 2

-- ---- as the code has it: the edition and both heads by value, beside the two lent tables

-- "An old place number is never taken for a new one": the alarm in the old head is an old place. The same head as a
-- sole chart's
abbrev pub sole_old : OldHead → Head
sole_old old = record { places = old.places; alarm = old.alarm.0 }

-- the alarm in the new head is a new place. The same head as a sole chart's
abbrev pub sole_new : NewHead → Head
sole_new new = record { places = new.places; alarm = new.alarm.0 }

-- "both charts": of each "a count of places n, an alarm place, and rows [..] in a lent table"
abbrev pub compared : Heads → List ℕ → List ℕ → Compared
compared heads old-table new-table =
    both heads.edition (charted (sole_old heads.old) old-table) (charted (sole_new heads.new) new-table)

-- the other way round, of two heads that came one by one: "a count of places n, an alarm place" of each
abbrev pub both_heads : ℕ → Head → Head → Heads
both_heads edition old new =
    record {
      edition = edition;
      old = record { places = old.places; alarm = record { 0 = old.alarm } };
      new = record { places = new.places; alarm = record { 0 = new.alarm } };
    }

-- the edition and both heads of what is compared
abbrev pub heads_of : Compared → Heads
heads_of X = both_heads X.edition X.old.head X.new.head
