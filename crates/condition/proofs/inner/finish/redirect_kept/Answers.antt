-- `condition::inner::finish::redirect_kept` meets its contract. Assumes nothing.
use Rattle.condition.proofs.Finishing.{all_stay}
use Rattle.condition.proofs.inner.finish.redirect_kept.Goals as goal

pub returns-then-blank : goal.returns-then-blank
returns-then-blank c = search all_stay
