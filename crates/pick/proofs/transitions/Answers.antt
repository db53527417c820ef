-- Each portion goes on by a pair at least. Assumes nothing.
use Rattle.std.proofs.Common.{arith}
use Rattle.pick.proofs.transitions.Goals as goal

pub slice_bounds-bytes-end : goal.slice_bounds-bytes-end
slice_bounds-bytes-end g c = c.portion-extent.ensures.front.fits

pub slice_bounds-put-end : goal.slice_bounds-put-end
slice_bounds-put-end g c = c.portion-extent.ensures.front.counts

pub loop-pair-smaller : goal.loop-pair-smaller
loop-pair-smaller g c = omega (arith, c.portion-extent.ensures.onward c.loop-pair-test.true)
