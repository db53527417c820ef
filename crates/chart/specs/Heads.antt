-- What a chart is beside its rows, by whose place its alarm is.
use Rattle.std.specs.Prelude.{ℕ}
use Rattle.chart.specs.declared.charts.HeadOf.{HeadOf}
use Rattle.chart.specs.declared.places.OldPlace.{OldPlace}
use Rattle.chart.specs.declared.places.NewPlace.{NewPlace}

-- "a count of places n, an alarm place": a chart's by itself
abbrev pub Head : Type 0
Head = HeadOf ℕ

-- "An old place number is never taken for a new one": the alarm of the old chart is an old place
abbrev pub OldHead : Type 0
OldHead = HeadOf OldPlace

-- that of the new chart is a new place
abbrev pub NewHead : Type 0
NewHead = HeadOf NewPlace
