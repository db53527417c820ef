-- `chart::inner::rows::carry` meets its contract. The invariant: the entries of the places passed are there. Assumes nothing.
use mathlib.Core.Path.{refl}
use Rattle.chart.specs.inner.Index.{last_of}
use Rattle.chart.proofs.Rows.{carried_none, last_more, carried_more}
use native.Mathlib.Omega.{arith}
use Rattle.chart.proofs.inner.rows.carry.Goals as goal

pub loop-p-init : goal.loop-p-init
unfolding last_of
loop-p-init c = (carried_none _ _ c.told-entries, refl)

pub loop-p-preserved : goal.loop-p-preserved
loop-p-preserved c =
    let I = c.loop-p.invariant in
    let q = last_more _ _ _ _ I.0 I.1 c.later-last.ensures in
    (carried_more _ _ _ _ I.0 q (omega arith), q)
