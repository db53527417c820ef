-- `marker::inner::marks::cover_all` meets its contract. Assumes nothing.
use Rattle.marker.proofs.Covering.{all_start, all_few, all_more, all_end}
use native.Mathlib.Omega.{arith}
use Rattle.marker.proofs.inner.marks.cover_all.Goals as goal

pub loop-p-init : goal.loop-p-init
loop-p-init c = search all_start

pub cover_word-c-requires-clause-opened_bound : goal.cover_word-c-requires-clause-opened_bound
cover_word-c-requires-clause-opened_bound c = all_few c.loop-p.invariant

pub loop-p-preserved : goal.loop-p-preserved
loop-p-preserved c = search all_more

pub returns : goal.returns
returns c = all_end c.loop-p.invariant c.told-targets (omega arith)
