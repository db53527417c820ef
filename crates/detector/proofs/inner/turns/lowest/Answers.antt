-- `detector::inner::turns::lowest` meets its contract. Assumes nothing.
use mathlib.Core.Path.{refl}
use Rattle.detector.proofs.Looking.{look_end, look_here, look_on}
use Rattle.detector.proofs.inner.turns.lowest.Goals as goal

pub returns-in-Some-lowest_of : goal.returns-in-Some-lowest_of
returns-in-Some-lowest_of c =
    let S = c.in-Some.ensures.steps in
    let I = c.loop-p.invariant in
    let F = c.in-Some-lowest_of.ensures.lowest_of in
    (look_here _ c.told-waiting I.0 I.1 S.0 (S.3 refl) F.0, F.1)

pub loop-p-preserved : goal.loop-p-preserved
loop-p-preserved c =
    let S = c.in-Some.ensures.steps in
    let F = c.in_default.ensures in
    look_on _ c.told-waiting S.0 F.lowest_of.0 F.lowest_of.1 F.waits_unchanged c.loop-p.invariant.1 S.2 c.without.ensures

pub returns : goal.returns
returns c = (look_end _ c.told-waiting c.loop-p.invariant.0 c.loop-p.invariant.1 c.in-None.ensures.steps.0, c.loop-p.invariant.0)
