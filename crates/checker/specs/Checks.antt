-- What the check answers ("The checker", "Who can cause a refusal").
use Rattle.std.specs.Prelude.{ℕ, true, false, not, ◌&&◌, List, length, ◌==◌, Option, None, Some}
use Rattle.base.specs.Options.{when, or_else, first_of}
use Rattle.base.specs.declared.Refusal.{Refusal}
use Rattle.base.specs.Refusals.{sole, due}
use Rattle.base.specs.Says.{Test, eq, ◌and◌, bool}
use Rattle.chart.specs.Compared.{Compared, heads_of}
use Rattle.chart.specs.Charts.{can_be_taken, leaving}
use Rattle.chart.specs.Faults.{judged}
use Rattle.chart.specs.Places.{new_of}
use Rattle.records.specs.Records.{Graph, Record, mark, index}
use Rattle.checker.specs.Rules.{shaped, start_fits, row_fits}

-- "marks (4,160 bytes), targets (8,192 u16, [..]), sets (4,096 u64, [..])": the stated lengths of a record
abbrev pub sized : Graph → Test
sized G = eq (length G.marks) 4160 and eq (length G.targets) 8192 and eq (length G.sets) 4096

-- refusal 32, where a position is given: "32, a rule fails; position [..]"
abbrev pub rule_at : Option ℕ → Option Refusal
rule_at None = None
rule_at (Some i) = Some (sole 32 i)

module _ (X : Compared) (G : Graph) where
  -- the index of the target of row k of the pair's new place, if it is at fault. "Targets without a row aren't looked
  -- at", and of "A new row that never holds [..] refusal 32 ignores its target" (document 02, #101)
  unfoldable pub target_fault : ℕ → List ℕ → ℕ → Option ℕ
  target_fault m rows k = when (can_be_taken rows k && not (bool (row_fits X G m rows k))) (index m k)

  -- "the lowest target index at fault" of a pair's two, "for a place's first and second row"
  unfoldable pub rows_fault : ℕ → List ℕ → Option ℕ
  rows_fault m rows = or_else (target_fault m rows 0) (target_fault m rows 1)

  -- "For each present pair"
  unfoldable pub pair_fault : ℕ → Option ℕ
  pair_fault m = elim (mark G m == 0) [ true ↦ None | false ↦ rows_fault m (leaving X.new.table (new_of m).0) ]

module _ (X : Compared) (R : Record) where
  -- "position 8,192 for the start, else the lowest target index at fault"
  unfoldable pub broken : Option ℕ
  broken =
      or_else (when (not (bool (start_fits (heads_of X) R.start R.graph.marks))) 8192)
      (first_of 4096 (pair_fault X R.graph))

  -- "Then 32, a rule fails"
  unfoldable pub rule_fault : Option Refusal
  rule_fault = rule_at broken

  -- "A record's maker, after both charts: 31 [..]. Then 32"
  unfoldable pub record_fault : Option Refusal
  record_fault =
      or_else (due (not (bool (shaped (heads_of X) R.start R.graph.marks R.graph.targets))) 31 0)
      rule_fault

  -- the refusal that is due, if any: "A record's maker, after both charts"
  unfoldable pub refusal : Option Refusal
  refusal = or_else (judged (bool (sized R.graph)) X) record_fault
