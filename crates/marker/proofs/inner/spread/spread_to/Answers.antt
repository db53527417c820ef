-- `marker::inner::spread::spread_to` meets its contract. Assumes nothing.
use Rattle.marker.proofs.Spreads.{spread_none}
use Rattle.marker.proofs.inner.spread.spread_to.Goals as goal

pub returns-then-not-meets : goal.returns-then-not-meets
returns-then-not-meets c = spread_none _ _
