-- The loop has put the transitions of the pairs that it passed; whether some row never holds is known before it.
-- Assumes nothing.
use Rattle.chart.proofs.Takable.{none_never}
use Rattle.report.proofs.Going.{going_start, going_more, going_moved, going_done, going_end}
use borrow.Author.Rules.{rules}
use native.Mathlib.Omega.{arith}
use Rattle.report.proofs.inner.transitions.put_pairs.Goals as goal

pub loop-next-init : goal.loop-next-init
loop-next-init c = going_start _ _ _ _ (omega arith)

pub returns-then-count-gt934 : goal.returns-then-count-gt934
returns-then-count-gt934 c = going_done _ _ _ _ _ _ _ c.loop-next.invariant (λ h. going_moved _ _ _ _ _ _ _ c.loop-next.invariant (omega arith))

pub put_pair-count-requires : goal.put_pair-count-requires
put_pair-count-requires c = record { at_in_bounds = search rules; pair_bound = (search rules, search rules, none_never c.args.table.now c.some_never-any_never.ensures) }

pub loop-next-preserved : goal.loop-next-preserved
loop-next-preserved c = going_more _ _ _ _ _ _ _ c.loop-next.invariant _ _ (search rules) c.loop-next-test.true (omega arith) c.put_pair-count.ensures

pub returns : goal.returns
returns c = going_end _ _ _ _ _ _ _ c.loop-next.invariant (omega arith) _ (omega arith)
