-- `graph::inner::graphs::leave_all` meets its contract. Assumes nothing.
use Rattle.graph.specs.Buffers.{buffers}
use Rattle.graph.proofs.Keeping.{Going}
use Rattle.graph.proofs.inner.graphs.leave_all.Given as goal

abbrev pub invariant-loop-p : goal.invariant-loop-p
invariant-loop-p l = Going (record { 0 = l.k }) (buffers l.initial.marks l.initial.targets l.initial.sets l.initial.waiting) (buffers l.marks l.targets l.sets l.waiting) l.p
