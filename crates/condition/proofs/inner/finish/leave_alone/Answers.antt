-- `condition::inner::finish::leave_alone` meets its contract. Assumes nothing.
use Rattle.condition.proofs.Finishing.{lone_is}
use Rattle.condition.proofs.inner.finish.leave_alone.Goals as goal

pub returns : goal.returns
returns c = lone_is c.args.heads c.start_kept.ensures c.clear.ensures
