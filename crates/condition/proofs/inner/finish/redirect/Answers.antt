-- `condition::inner::finish::redirect` meets its contract. Assumes nothing.
use Rattle.condition.proofs.Finishing.{redirect_kept, redirect_not}
use Rattle.condition.proofs.inner.finish.redirect.Goals as goal

pub returns-then-is_marked-x : goal.returns-then-is_marked-x
returns-then-is_marked-x c = search redirect_kept

pub returns : goal.returns
returns c = search redirect_not
