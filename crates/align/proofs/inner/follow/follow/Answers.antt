-- `align::inner::follow::follow` meets its contract. The invariant: the walk from here on is the walk from the start. The measure is what is left of 64 rows. Assumes nothing.
use Rattle.std.proofs.Common.{◌≡◌, ◌+◌, ◌-◌, arith}
use Rattle.align.proofs.Moves.{walk_begins, walk_over, walk_ends, next-below, walk_twice, walk_on}
use borrow.Author.Rules.{rules}
use Rattle.align.proofs.inner.follow.follow.Goals as goal

pub loop-init : goal.loop-init
loop-init c = walk_begins _ _ c.requires c.bit-met.ensures

pub returns-in_default : goal.returns-in_default
returns-in_default c = walk_ends _ _ c.loop.invariant (search rules) c.onward.ensures c.in_default.is

pub bit-requires : goal.bit-requires
bit-requires c = next-below _ _ c.loop.invariant (search rules) c.onward.ensures c.args.charts.now.prepared.old-faultless c.in-Some.is

pub bit-requires-in-loop : goal.bit-requires-in-loop
bit-requires-in-loop c = next-below _ _ c.loop.invariant (search rules) c.onward.ensures c.args.charts.now.prepared.old-faultless c.in-Some.is

pub returns-then-meets : goal.returns-then-meets
returns-then-meets c = walk_twice _ _ c.loop.invariant (search rules) c.onward.ensures c.in-Some.is c.bit.ensures c.meets.ensures c.if-meets.true

pub loop-preserved : goal.loop-preserved
loop-preserved c =
    let e : 64 - c.loop.counter - 1 ≡ 64 - (c.loop.counter + 1) = omega arith in
    rw e at (walk_on _ _ c.loop.invariant (search rules) c.onward.ensures c.in-Some.is c.bit.ensures c.meets.ensures c.args.charts.now.prepared.old-faultless c.if-meets.false c.bit-in-loop.ensures c.joined-met.ensures)

pub returns : goal.returns
returns c = walk_over _ _ c.loop.invariant (search rules)
