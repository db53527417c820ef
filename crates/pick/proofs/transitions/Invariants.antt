-- Each portion goes on by a pair at least. Assumes nothing.
use Rattle.std.proofs.Common.{◌-◌}
use Rattle.pick.proofs.transitions.Given as goal

abbrev pub decreases-loop-pair : goal.decreases-loop-pair
decreases-loop-pair g l = 4096 - l.pair
