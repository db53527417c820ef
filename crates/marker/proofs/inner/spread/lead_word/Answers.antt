-- `marker::inner::spread::lead_word` meets its contract. Assumes nothing.
use mathlib.Core.Path.{refl}
use Rattle.marker.proofs.Leads.{lead_start, lead_more, lead_end}
use native.Mathlib.Omega.{arith}
use Rattle.marker.proofs.inner.spread.lead_word.Goals as goal

pub loop-q-init : goal.loop-q-init
loop-q-init c = rw c.into_iter-q-iterator.ensures.into_iter_gives (lead_start _ _ _ _ c.told-leads)

pub loop-q-preserved : goal.loop-q-preserved
loop-q-preserved c =
    let S = c.in-Some.ensures.steps in
    lead_more _ _ _ _ c.loop-q.invariant (omega arith) c.requires.0 (S.3 refl) S.0 S.2 c.lead_from.ensures

pub returns : goal.returns
returns c = lead_end _ _ _ _ c.loop-q.invariant (omega arith) c.requires.0 c.in-None.ensures.steps.0
