-- `condition::inner::finish::is_alone` meets its contract. Assumes nothing.
use Rattle.condition.proofs.Finishing.{alone-kept, alone_not}
use Rattle.condition.proofs.inner.finish.is_alone.Goals as goal

pub returns-then-is_marked : goal.returns-then-is_marked
returns-then-is_marked c = search alone-kept

pub returns-else-is_marked : goal.returns-else-is_marked
returns-else-is_marked c = search alone_not
