-- `marker::inner::marks::sweep_word` meets its contract. Assumes nothing.
use Rattle.marker.proofs.Sweeps.{trying_start, trying_more, trying_end}
use borrow.Author.Rules.{rules}
use Rattle.marker.proofs.inner.marks.sweep_word.Goals as goal

pub loop-q-init : goal.loop-q-init
loop-q-init g c = (rw c.into_iter-q-iterator.ensures.into_iter_gives (trying_start _ _ _ _), search rules, search rules)

pub loop-q-preserved : goal.loop-q-preserved
loop-q-preserved g c =
    let S = c.in-Some.ensures.steps in
    (trying_more _ _ _ c.loop-q.invariant.0 S.0 S.1 S.2 c.open_out-n.ensures.0, search rules, search rules)

pub returns : goal.returns
returns g c = (trying_end _ _ _ c.loop-q.invariant.0 c.in-None.ensures.steps.0 c.requires.1 c.requires.0, search rules)
