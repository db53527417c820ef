-- `graph::inner::graphs::leave_all` meets its contract. Assumes nothing.
use Rattle.graph.proofs.Keeping.{going_same, going_seen, going_unseen, left_all, left-none}
use Rattle.graph.proofs.Graphs.{sized-of}
use borrow.Author.Rules.{rules}
use native.Mathlib.Omega.{arith}
use Rattle.graph.proofs.inner.graphs.leave_all.Goals as goal
use Rattle.graph.proofs.inner.graphs.leave_all.Goals.{then-has, else-has}

pub returns-then-not-meets : goal.returns-then-not-meets
returns-then-not-meets c = left-none c.requires.covers (omega arith) c.gathered.ensures c.alone.ensures c.meets.ensures (c.if-not-meets.true)

pub loop-p-preserved : goal.loop-p-preserved
loop-p-preserved c =
    let I = c.loop-p.invariant in
    let S = sized-of c.told-marks c.told-targets c.told-sets c.told-waiting in
    elim c.if-has.branch [
      | then-has w ↦ going_same (going_seen I S c.requires.q_bound (search rules) (omega arith) w.leave.ensures) w.marks-is w.targets-is w.sets-is w.waiting-is
      | else-has w ↦ going_same (going_unseen I S c.requires.q_bound (search rules) (omega arith) c.requires.covers c.has.ensures w.if-has.false) w.marks-is w.targets-is w.sets-is w.waiting-is
    ]

pub returns : goal.returns
returns c = left_all (omega arith) c.loop-p.invariant (search rules)
