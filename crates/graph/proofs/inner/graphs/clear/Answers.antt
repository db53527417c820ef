-- `graph::inner::graphs::clear` meets its contract. Assumes nothing.
use Rattle.graph.proofs.Parts.{graph-eq}
use Rattle.graph.proofs.inner.graphs.clear.Goals as goal

pub returns : goal.returns
returns c =
    let m = rw c.told-marks at (c.fill.ensures.after (λ y h. h)) in
    let t = rw c.told-targets at (c.fill-2.ensures.after (λ y h. h)) in
    let s = rw c.told-sets at (c.fill-3.ensures.after (λ y h. h)) in
    let w = rw c.told-waiting at (c.fill-4.ensures.after (λ y h. h)) in
    graph-eq m t s w
