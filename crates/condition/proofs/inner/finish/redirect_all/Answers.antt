-- `condition::inner::finish::redirect_all` meets its contract. Assumes nothing.
use Rattle.condition.proofs.Finishing.{all_again, all_end}
use native.Mathlib.Omega.{arith}
use Rattle.condition.proofs.inner.finish.redirect_all.Goals as goal

pub loop-p-preserved : goal.loop-p-preserved
loop-p-preserved c = all_again _ _ c.loop-p.invariant (omega arith) c.redirect_word.ensures

pub returns : goal.returns
returns c = all_end _ _ c.loop-p.invariant c.args.seen.now c.requires.by_index (omega arith)
