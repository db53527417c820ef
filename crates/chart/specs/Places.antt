-- Places of the old and of the new chart, and the one number that joins them ("One aligned step").
use Rattle.std.specs.Prelude.{ℕ, ◌+◌, ◌*◌, ◌/◌, ◌%◌}
use Rattle.chart.specs.declared.charts.Heads.{Heads}
use Rattle.chart.specs.declared.places.OldPlace.{OldPlace}
use Rattle.chart.specs.declared.places.NewPlace.{NewPlace}
use Rattle.chart.specs.Charts.{start}
use Rattle.chart.specs.Compared.{sole_old, sole_new}

-- "the pair (old p, new q) is 64 × p + q"
abbrev pub pair_number : OldPlace → NewPlace → ℕ
pair_number p q = 64 * p.0 + q.0

-- "the kept new place q is 4,096 + q"
abbrev pub kept_number : NewPlace → ℕ
kept_number q = 4096 + q.0

-- the old place of "the pair (old p, new q)"
abbrev pub old_of : ℕ → OldPlace
old_of pair = record { 0 = pair / 64 }

-- its new place
abbrev pub new_of : ℕ → NewPlace
new_of pair = record { 0 = pair % 64 }

-- ---- the start
-- "the start is place 0": that of the old chart
abbrev pub old_start : Heads → OldPlace
old_start heads = record { 0 = start (sole_old heads.old) }

-- that of the new chart
abbrev pub new_start : Heads → NewPlace
new_start heads = record { 0 = start (sole_new heads.new) }

-- "Start 0": the pair of both starts
abbrev pub start_pair : Heads → ℕ
start_pair heads = pair_number (old_start heads) (new_start heads)

-- "Start 4,096": the new start, kept
abbrev pub start_kept : Heads → ℕ
start_kept heads = kept_number (new_start heads)
