-- One aligned step ("One aligned step"): lines 5 to 18 and 27 of the source's Algorithm 2, for a pair, a set V and a
-- new row; and what "footnotes 6 and 8 of source document 002" make of lines 10 and 27 in edition 2 (document 02,
-- #104).
use Rattle.std.specs.Prelude.{Bool, true, false, ◌&&◌, ◌||◌, not, List, ℕ, zero, suc, eqb, Option, None, Some}
use Rattle.base.specs.Options.{when, or_else, first_of}
use Rattle.base.specs.Says.{Test, eq, ne, ◌or◌, bool}
use Rattle.operations.specs.declared.Operation.{Operation}
use Rattle.operations.specs.declared.assumptions.Implication.{Implication}
use Rattle.operations.specs.declared.assumptions.Implication.TheVariants.{Never, Implied, NotImplied}
use Rattle.operations.specs.Operations.{is_assignment, is_assumption, same}
use Rattle.operations.specs.Trials.{implication}
use Rattle.chart.specs.declared.places.OldPlace.{OldPlace}
use Rattle.chart.specs.declared.places.NewPlace.{NewPlace}
use Rattle.chart.specs.declared.charts.Heads.{Heads}
use Rattle.chart.specs.Compared.{Compared, is_second, heads_of}
use Rattle.chart.specs.Charts.{size, to, operation, leaving}
use Rattle.align.specs.declared.spots.Spot.{Spot}
use Rattle.sets.specs.Sets.{alone, with, without, meets}
use Rattle.align.specs.Reads.{read_set}

-- ---- rows of a place
-- "seek the old row at p whose operation is equal": the first row, in table order, whose operation passes
unfoldable pub find : List ℕ → (Operation → Bool) → Option ℕ
find rows f = first_of (size rows) (λ k. when (f (operation rows k)) k)

-- where row k of old rows leads: "p2"
abbrev pub old_to : List ℕ → ℕ → OldPlace
old_to rows k = record { 0 = to rows k }

-- the answer that lets an assumption match by implication: "only if some values meet the new assumption, the old
-- assumption [..] that it implies"
abbrev pub is_implied : Implication → Bool
is_implied Never = false
is_implied Implied = true
is_implied NotImplied = false

-- "follow that and add what it writes to V": along an assignment, if there is one (line 14)
unfoldable pub along : ℕ → List ℕ → Option ℕ → Option Spot
along s rows None = None
along s rows (Some k) = Some (record { place = old_to rows k; set = with s (operation rows k).a })

-- "seek the old row at p whose operation is equal; failing that, and only if some values meet the new assumption, the
-- old assumption at p that it implies" (line 15)
unfoldable pub matching : List ℕ → Operation → Option ℕ
matching rows o =
    or_else (find rows (λ o'. same o' o)) (find rows (λ o'. is_assumption o' && is_implied (implication o o')))

-- "If found and V meets the variables read by either row, the step fails. If found otherwise, go to (p2, q2)." (lines
-- 16 and 17)
unfoldable pub matched : ℕ → List ℕ → ℕ → Operation → Option Spot
matched s rows k o =
    when (not (meets s (read_set o) || meets s (read_set (operation rows k))))
    (record { place = old_to rows k; set = s })

-- "The set is V with the written variable if V meets the read ones, else V without it." (lines 7 and 8)
unfoldable pub rewritten : ℕ → Operation → ℕ
rewritten s o = elim (meets s (read_set o)) [ true ↦ with s o.a | false ↦ without s o.a ]

-- not "to the new alarm with an old place that isn't the old alarm" (line 27)
abbrev pub fair : Heads → OldPlace → NewPlace → Test
fair heads p q = ne q.0 heads.new.alarm.0 or eq p.0 heads.old.alarm.0

module _ (X : Compared) where
  -- "the rows that leave a place": the old ones, as a table of their own
  abbrev pub rows_at : OldPlace → List ℕ
  rows_at p = leaving X.old.table p.0

  -- "p is the old alarm"
  abbrev pub at_alarm : OldPlace → Bool
  at_alarm p = eqb p.0 X.old.head.alarm

  -- ---- line 10, an assignment to variable a without an equal row in the old chart
  -- "where an old row at the pair writes the same variable", in edition 2 (document 02, #104; footnote 6)
  unfoldable pub writing_row : OldPlace → ℕ → Option ℕ
  writing_row p a =
      elim (is_second X) [
        | true ↦ find (rows_at p) (λ o. is_assignment o && eqb o.a a)
        | false ↦ None
      ]

  -- with that old row if there is one
  unfoldable pub unequal : Spot → ℕ → Option ℕ → Spot
  -- "Assignment, no such row: go to (p, q2) with V plus the written variable." (line 10)
  unequal h a None = record { place = h.place; set = with h.set a }
  -- "moves both charts and adds that variable" (document 02, #104; footnote 6)
  unequal h a (Some k) = record { place = old_to (rows_at h.place) k; set = with h.set a }

  -- ---- lines 6 to 10, an assignment, with its equal row in the old chart if there is one
  unfoldable pub assigned : Spot → Operation → Option ℕ → Spot
  -- "Assignment, no such row" (line 10), "a new assignment without an equal old row" (document 02, #104)
  assigned h o None = unequal h o.a (writing_row h.place o.a)
  -- "Assignment, equal row p→p2 in the old chart: go to (p2, q2)." (lines 6 and 9)
  assigned h o (Some k) = record { place = old_to (rows_at h.place) k; set = rewritten h.set o }

  -- ---- lines 12 to 14, what comes before an assumption
  -- "while p isn't the old alarm and an assignment leaves it, follow that and add what it writes to V" (lines 13 and
  -- 14)
  unfoldable pub onward : Spot → Option Spot
  onward h =
      elim (at_alarm h.place) [
        | true ↦ None
        | false ↦ along h.set (rows_at h.place) (find (rows_at h.place) is_assignment)
      ]

  -- "Coming to a place twice here is a failed step": the places come to are a set too. A walk of n rows at most
  unfoldable pub follow : ℕ → ℕ → Spot → Option Spot
  follow zero met h = None
  follow (suc n) met h =
      elim (onward h) [
        | None ↦ Some h
        | Some h' ↦
            elim (meets met (alone h'.place.0)) [ true ↦ None | false ↦ follow n (with met h'.place.0) h' ]
      ]

  -- "Coming to a place twice here is a failed step": from a place, which counts as come to, no more than 64 rows can
  -- be followed without coming to one of 64 places twice
  unfoldable pub followed : Spot → Option Spot
  followed h = follow 64 (alone h.place.0) h

  -- ---- lines 15 to 18, an assumption
  -- "unless p is the old alarm, seek" (line 15)
  unfoldable pub counterpart : OldPlace → Operation → Option ℕ
  counterpart p o = elim (at_alarm p) [ true ↦ None | false ↦ matching (rows_at p) o ]

  -- "If not found or at the alarm, go to (p, q2). The set is V." (line 18)
  unfoldable pub assumed : Spot → Operation → Option ℕ → Option Spot
  assumed h o None = Some h
  assumed h o (Some k) = matched h.set (rows_at h.place) k o

  -- ---- line 27, a step that comes to the new alarm without the old one
  -- "If they meet the old alarm" (document 02, #104; footnote 8): where the old assignments that were followed end
  unfoldable pub at_both : Option Spot → Option Spot
  at_both None = None
  at_both (Some h) = when (at_alarm h.place) h

  -- in edition 2, "before a step fails only for meeting the new alarm without the old one, old assignments are followed
  -- from the old place it came to. If they meet the old alarm, the step goes to both alarms and the set gains what was
  -- written; a place met twice ends the search." (document 02, #104; footnote 8)
  unfoldable pub rescued : Spot → Option Spot
  rescued h = elim (is_second X) [ true ↦ at_both (followed h) | false ↦ None ]

  -- "A step to the new alarm with an old place that isn't the old alarm fails." (line 27)
  unfoldable pub arrived : NewPlace → Option Spot → Option Spot
  arrived q None = None
  arrived q (Some h) = elim (bool (fair (heads_of X) h.place q)) [ true ↦ Some h | false ↦ rescued h ]

  -- ---- the step, up to the rule of the new alarm: by an assignment (line 5) or an assumption (line 11)
  unfoldable pub moved : Spot → Operation → Option Spot
  moved h o =
      elim (is_assignment o) [
        | true ↦ Some (assigned h o (find (rows_at h.place) (λ o'. same o' o)))
        | false ↦ elim (followed h) [ None ↦ None | Some h' ↦ assumed h' o (counterpart h'.place o) ]
      ]

  -- "Given a pair, a set V and a new row q→q2": the aligned step from an old place and its set by a new row with
  -- operation o that leads to q: none where it fails, else the old place it comes to and the set there
  unfoldable pub step : Spot → Operation → NewPlace → Option Spot
  step h o q = arrived q (moved h o)
