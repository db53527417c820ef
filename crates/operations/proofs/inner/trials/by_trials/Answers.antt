-- `operations::inner::trials::by_trials` meets its contract: the points that are left out stand again. Assumes nothing.
use Rattle.operations.proofs.Fewer.{by_left}
use Rattle.operations.proofs.inner.trials.by_trials.Goals as goal

pub returns : goal.returns
returns c =
    by_left _ _ _ _ c.order_of-s.ensures c.order_of-t.ensures c.bound-c.ensures c.bound-d.ensures c.points-l.ensures
    c.repeated-k.ensures c.seats_of.ensures c.shown_by_some.ensures
