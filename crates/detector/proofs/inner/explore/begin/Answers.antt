-- `detector::inner::explore::begin` meets its contract. Assumes nothing.
use mathlib.Core.Path.{refl}
use Rattle.detector.proofs.Exploring.{begun-is, begun-tracks}
use Rattle.detector.proofs.inner.explore.begin.Goals as goal

pub returns : goal.returns
returns c =
    let is = begun-is c.args.heads c.start_pair-first.ensures c.clear.ensures in
    record { follows = begun-tracks c.args.heads _ _ refl refl is c.start_pair-first.ensures c.list.ensures c.add.ensures; waiting_after = is }
