-- What a build answers, and what it leaves in the four buffers ("Who can cause a refusal", "Four questions for each
-- public call").
use Rattle.std.specs.Prelude.{Option, None, Some, length}
use Rattle.base.specs.Answers.{Answer}
use Rattle.base.specs.declared.Refusal.{Refusal}
use Rattle.base.specs.Refusals.{unless}
use Rattle.base.specs.Says.{Test, eq, ◌and◌, bool}
use Rattle.chart.specs.Compared.{Compared}
use Rattle.chart.specs.Faults.{judged}
use Rattle.checker.specs.Checks.{sized}
use Rattle.condition.specs.declared.Summary.{Summary}
use Rattle.condition.specs.Builds.{built, recorded, summary}
use Rattle.graph.specs.Buffers.{Buffers, graph_in}

-- "Lent: marks (4,160 bytes), targets (8,192 u16, [..]), sets (4,096 u64, [..]), waiting (4,096 bytes)": the stated
-- lengths
abbrev pub lent : Buffers → Test
lent g = eq (length g.waiting) 4096 and sized (graph_in g)

module _ (X : Compared) (g : Buffers) where
  -- the refusal that is due, if any: "21, a lent length differs from the stated one", "Any other edition is 21"
  -- (document 02, #104), and what the charts' authors can cause
  unfoldable pub refusal : Option Refusal
  refusal = judged (bool (lent g)) X

  -- "The answer has the start and the counts of marks 1, 2 and 3.", unless a refusal is due
  unfoldable pub answered : Answer Summary
  answered = unless refusal (summary (recorded X).start (recorded X).graph.marks)

  -- "lent memory is untouched" by a refusal; else "What these held before has no effect."
  unfoldable pub left : Buffers
  left = elim refusal [ None ↦ built X | Some r ↦ g ]
