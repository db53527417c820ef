-- `detector::inner::turns::lowest_of` meets its contract. Assumes nothing.
use Rattle.detector.proofs.Looking.{word_on}
use Rattle.detector.proofs.inner.turns.lowest_of.Goals as goal

pub loop-q-preserved : goal.loop-q-preserved
loop-q-preserved c =
    let S = c.in-Some.ensures.steps in
    let I = c.loop-q.invariant in
    rw c.remove.ensures (word_on _ _ c.requires.0 I S.0 c.if-waiting-n-ne0.false S.2)
