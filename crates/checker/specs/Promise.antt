-- What a record that the check passes promises: demand 3, first half. Believing it takes the definitions of a run that
-- reaches the alarm (`reaches` of Rattle.chart.specs.Runs), of a covered run (`covered` of Following.antt) and of the
-- refusal that is due (`refusal` of Checks.antt).
use Rattle.std.specs.Prelude.{◌≡◌, ℕ, true, List}
use Rattle.operations.specs.Values.{Values}
use Rattle.chart.specs.Compared.{Compared}
use Rattle.chart.specs.Runs.{reaches}
use Rattle.records.specs.Records.{Record}
use Rattle.checker.specs.Following.{covered}

-- "a single claim about the whole list of rows of a run": where one of the new chart, from any 64 values, reaches its
-- alarm and is covered, "some list of the old chart's rows from the same 64 values" is a run that reaches the old alarm
abbrev pub Promise : Compared → Record → Type 0
Promise X R =
    (v is : List ℕ) → Values v → reaches X.new v is ≡ true → covered X.new R is ≡ true
    → (js : List ℕ) × (reaches X.old v js ≡ true)
