-- The loop has put the transitions of the pairs that it passed; whether some row never holds is known before it.
-- Assumes nothing.
use mathlib.Core.List.{[]}
use Rattle.records.specs.Records.{graph_of}
use Rattle.report.proofs.Going.{Going}
use Rattle.report.proofs.inner.transitions.put_pairs.Given as goal

abbrev pub invariant-loop-next : goal.invariant-loop-next
invariant-loop-next l = Going l.table (graph_of l.marks l.targets []) l.pair l.initial.bytes l.bytes l.next l.count
