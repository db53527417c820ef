-- `marker::inner::openings::open_if` meets its contract. Assumes nothing.
use Rattle.marker.proofs.Orders.{tried_yes, tried_no}
use Rattle.marker.proofs.inner.openings.open_if.Goals as goal

pub returns-then-opens : goal.returns-then-opens
returns-then-opens c = search tried_yes

pub returns : goal.returns
returns c = search tried_no
