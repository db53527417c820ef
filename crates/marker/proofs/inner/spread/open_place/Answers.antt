-- `marker::inner::spread::open_place` meets its contract. Assumes nothing.
use Rattle.marker.proofs.Spreads.{spread_none, spread_tried}
use borrow.Author.Rules.{rules}
use Rattle.marker.proofs.inner.spread.open_place.Goals as goal

pub loop-p-init : goal.loop-p-init
loop-p-init c = (spread_none _ _, search rules)

pub loop-p-preserved : goal.loop-p-preserved
loop-p-preserved c = (search spread_tried, search rules)
