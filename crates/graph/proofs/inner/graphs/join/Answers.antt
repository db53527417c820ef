-- `graph::inner::graphs::join` meets its contract. Assumes nothing.
use Prim.Native.Nat.{◌/◌}
use native.Mathlib.Omega.{arith}
use Rattle.graph.proofs.Parts.{held_listed, held_seen, held_join, due-is, join_yes, join_no, listed_yes, listed_no}
use borrow.Author.Rules.{rules}
use Rattle.graph.proofs.inner.graphs.join.Goals as goal

pub returns-then-there-holds_all : goal.returns-then-there-holds_all
returns-then-there-holds_all c = let A = c.args in
    let b = c.is_marked-there.ensures in
    let h = c.holds_all.ensures in
    let l = c.fits-seen (A.n / 64) in
    let seen = held_seen A.alarm.0 A.marks.now A.sets.now A.n A.v b h c.if-there-holds_all.true A.seen.now (omega (arith, l)) c.requires.member in
    record { waits_after = (search held_listed, seen); by_index = search held_join }

pub returns-then-ne : goal.returns-then-ne
returns-then-ne c = let d =
    let A = c.args in
    due-is A.alarm.0 A.marks.now A.sets.now A.n A.v c.is_marked-there.ensures c.holds_all.ensures c.if-there-holds_all.false c.old_of.ensures c.ne.ensures
    in
    record { waits_after = (search listed_yes, search rules); by_index = search join_yes }

pub returns-else-ne : goal.returns-else-ne
returns-else-ne c = let d =
    let A = c.args in
    due-is A.alarm.0 A.marks.now A.sets.now A.n A.v c.is_marked-there.ensures c.holds_all.ensures c.if-there-holds_all.false c.old_of.ensures c.ne.ensures
    in
    record { waits_after = (search listed_no, search rules); by_index = search join_no }
