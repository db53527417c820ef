-- `records::inner::marks::blank` meets its contract. The invariant: what is joined is 0 exactly where each one passed is. Assumes nothing.
use mathlib.Core.Path.{refl}
use Prim.Native.Nat.{◌+◌}
use lib.ListN.{get_or}
use Rattle.base.specs.Says.{every}
use Rattle.records.proofs.Marks.{all_next, joined_0}
use Rattle.records.proofs.inner.marks.blank.Goals as goal

pub loop-j-init : goal.loop-j-init
unfolding every
loop-j-init c = refl

pub loop-j-preserved : goal.loop-j-preserved
loop-j-preserved c = all_next _ _ c.loop-j.invariant refl (joined_0 c.loop-j.all (get_or c.args.marks.now (c.args.from + c.loop-j.j) 0))
