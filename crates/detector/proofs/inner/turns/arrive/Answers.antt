-- `detector::inner::turns::arrive` meets its contract: to a kept place, or to a pair that joins. Assumes nothing.
use Rattle.graph.proofs.Graphs.{sized-of}
use Rattle.detector.proofs.Processing.{arrive_kept, arrive_joins}
use Rattle.detector.proofs.inner.turns.arrive.Goals as goal

pub returns-then-is_marked : goal.returns-then-is_marked
returns-then-is_marked c =
    let S = sized-of c.told-marks c.told-targets c.told-sets c.told-waiting in
    let p = arrive_kept _ _ _ _ _ _ _ _ c.requires.n_bound.0 c.requires.n_bound.1 c.requires.n_bound.2 S c.requires.follows _ c.kept-node.ensures c.is_marked.ensures c.if-is_marked.true c.aim.ensures in
    record { follows_2 = p.0; waiting_after = p.1 }

pub returns : goal.returns
returns c =
    let S = sized-of c.told-marks c.told-targets c.told-sets c.told-waiting in
    let p = arrive_joins _ _ _ _ _ _ _ _ c.requires.n_bound.0 c.requires.n_bound.1 c.requires.n_bound.2 S c.requires.follows _ c.requires.n_bound.3 c.kept-node.ensures c.is_marked.ensures c.if-is_marked.false c.pair-at.ensures (c.join.ensures.waits_after, c.join.ensures.by_index) c.aim-2.ensures in
    record { follows_2 = p.0; waiting_after = p.1 }
