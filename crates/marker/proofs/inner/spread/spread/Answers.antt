-- `marker::inner::spread::spread` meets its contract. Assumes nothing.
use Rattle.marker.proofs.Orders.{sweeping_start}
use Rattle.marker.proofs.Spreads.{rounds_again, rounds_less, rounds_done}
use Rattle.marker.proofs.inner.spread.spread.Goals as goal

pub loop-places-init : goal.loop-places-init
loop-places-init c = search sweeping_start

pub returns-then-places-eq0 : goal.returns-then-places-eq0
returns-then-places-eq0 c = search rounds_done

pub loop-places-smaller : goal.loop-places-smaller
loop-places-smaller c = search rounds_less

pub loop-places-preserved : goal.loop-places-preserved
loop-places-preserved c = search rounds_again
