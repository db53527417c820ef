-- `condition::inner::finish::redirect_word` meets its contract. Assumes nothing.
use mathlib.Core.Path.{refl}
use Rattle.condition.proofs.Finishing.{word_start, word_again, word_end}
use Rattle.condition.proofs.inner.finish.redirect_word.Goals as goal

pub loop-q-init : goal.loop-q-init
loop-q-init c = rw c.into_iter-q-iterator.ensures.into_iter_gives (word_start _ _ _ _ c.requires.by_index c.told-targets c.requires.p_bound)

pub loop-q-preserved : goal.loop-q-preserved
loop-q-preserved c =
    let S = c.in-Some.ensures.steps in
    word_again _ _ _ _ c.requires.by_index c.loop-q.invariant S.0 (S.3 refl) S.2 c.redirect.ensures c.redirect-in-loop-q.ensures

pub returns : goal.returns
returns c = word_end _ _ _ _ c.requires.by_index c.loop-q.invariant c.in-None.ensures.steps.0
