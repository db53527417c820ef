-- `marker::inner::spread::spread_once` meets its contract. Assumes nothing.
use Rattle.marker.proofs.Spreads.{spread_none, spread_then}
use Rattle.marker.proofs.inner.spread.spread_once.Goals as goal

pub loop-q-init : goal.loop-q-init
loop-q-init c = spread_none _ _

pub loop-q-preserved : goal.loop-q-preserved
loop-q-preserved c = search spread_then
