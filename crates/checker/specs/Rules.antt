-- What a record must be like: its shape (refusal 31) and the rules of refusal 32 ("The checker", "Who can cause a
-- refusal").
use Rattle.std.specs.Prelude.{ℕ, Bool, false, List, slice_index, Option, None, Some}
use Rattle.base.specs.Says.{Test, eq, ne, le, so, ◌and◌, ◌or◌, each, below, bool}
use Rattle.operations.specs.declared.Operation.{Operation}
use Rattle.chart.specs.declared.charts.Heads.{Heads}
use Rattle.chart.specs.declared.places.NewPlace.{NewPlace}
use Rattle.chart.specs.Compared.{Compared}
use Rattle.chart.specs.Charts.{to, operation}
use Rattle.chart.specs.Places.{pair_number, kept_number, old_of, new_of, old_start, new_start, start_pair, start_kept}
use Rattle.align.specs.declared.spots.Spot.{Spot}
use Rattle.sets.specs.Sets.{holds_all}
use Rattle.align.specs.Steps.{fair, step}
use Rattle.records.specs.Records.{Graph, set_at, target}

-- the old place of a pair, with the pair's set: what "the aligned step under its set" sets out from
abbrev pub spot : Graph → ℕ → Spot
spot G m = record { place = old_of m; set = set_at G m }

-- ---- refusal 31
-- "start neither 0 nor 4,096"
abbrev pub start_named : Heads → ℕ → Test
start_named heads s = eq s (start_pair heads) or eq s (start_kept heads)

-- a mark x of node n: none is "above 4", "on places that don't exist", "a pair marked 2 or a kept node marked 1, 3 or
-- 4". The new place of a node of either kind is its number modulo 64
abbrev pub mark_fits : Heads → ℕ → ℕ → Test
mark_fits heads n x =
    eq x 0
    or below (new_of n).0 heads.new.places
    and (below n 4096 and below (old_of n).0 heads.old.places and (eq x 1 or eq x 3 or eq x 4)
    or le 4096 n and eq x 2)

-- so of the marks of all nodes: "marks (4,160 bytes)"
unfoldable pub marks_fit : Heads → List ℕ → Test
marks_fit heads marks = each 4160 (λ n. mark_fits heads n (slice_index marks n))

-- "a target neither below 4,160 nor 65535"
abbrev pub target_fits : ℕ → Test
target_fits t = below t 4160 or eq t 65535

-- "a target neither below 4,160 nor 65535", of any: all 8,192 fall under it, unused ones too
unfoldable pub targets_fit : List ℕ → Test
targets_fit targets = each 8192 (λ i. target_fits (slice_index targets i))

-- all of 31, from "31 start neither 0 nor 4,096" to "a target neither below 4,160 nor 65535": none is so
unfoldable pub shaped : Heads → ℕ → List ℕ → List ℕ → Test
shaped heads s marks targets = start_named heads s and marks_fit heads marks and targets_fit targets

-- ---- refusal 32
-- "Start 0: mark 1, and place 0 isn't the new alarm unless it is also the old one. Start 4,096: mark 2."
unfoldable pub start_fits : Heads → ℕ → List ℕ → Test
start_fits heads s marks =
    eq s (start_pair heads) and eq (slice_index marks (start_pair heads)) 1
    and fair heads (old_start heads) (new_start heads)
    or eq s (start_kept heads) and eq (slice_index marks (start_kept heads)) 2

-- "the target is kept q2, marked 2"
unfoldable pub keeps : List ℕ → NewPlace → ℕ → Test
keeps marks q t = eq t (kept_number q) and eq (slice_index marks t) 2

-- "or the pair that the aligned step under its set gives, present, its set holding the step's set"
unfoldable pub joins : List ℕ → List ℕ → NewPlace → ℕ → Spot → Test
joins marks sets q t h =
    eq t (pair_number h.place q) and ne (slice_index marks t) 0 and so (holds_all (slice_index sets t) h.set)

-- "the pair that the aligned step under its set gives": a failed step gives no pair
unfoldable pub joins_step : List ℕ → List ℕ → NewPlace → ℕ → Option Spot → Bool
joins_step marks sets q t None = false
joins_step marks sets q t (Some h) = bool (joins marks sets q t h)

-- "For each present pair at the old alarm, and each of its rows q→q2, the target is 65535, or kept q2, marked 2, or a
-- present pair with new place q2."
unfoldable pub rests_at : List ℕ → NewPlace → ℕ → Test
rests_at marks q t =
    eq t 65535 or keeps marks q t or below t 4096 and eq (new_of t).0 q.0 and ne (slice_index marks t) 0

-- "Of these targets, 65535 excepted, those from mark 1 have mark 1, 2 or 3; those from 3 or 4 have 3 or 4."
unfoldable pub ranked : List ℕ → ℕ → ℕ → Test
ranked marks m t =
    eq t 65535
    or eq (slice_index marks m) 1 and le 1 (slice_index marks t) and le (slice_index marks t) 3
    or ne (slice_index marks m) 1 and le 3 (slice_index marks t) and le (slice_index marks t) 4

module _ (X : Compared) (G : Graph) where
  -- a target t of the pair m by a new row with operation o that leads to q: "For each present pair whose old place
  -- isn't the old alarm", "For each present pair at the old alarm"
  unfoldable pub leads : ℕ → Operation → NewPlace → ℕ → Test
  leads m o q t =
      eq (old_of m).0 X.old.head.alarm and rests_at G.marks q t
      or ne (old_of m).0 X.old.head.alarm
      and (keeps G.marks q t or so (joins_step G.marks G.sets q t (step X (spot G m) o q)))

  -- "each of its rows q→q2", "Of these targets": what holds of the target of row k of a pair's new place; rows is the
  -- part of the new table that leaves it
  unfoldable pub row_fits : ℕ → List ℕ → ℕ → Test
  row_fits m rows k =
      leads m (operation rows k) (record { 0 = to rows k }) (target G m k) and ranked G.marks m (target G m k)
