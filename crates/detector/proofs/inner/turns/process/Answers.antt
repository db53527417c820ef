-- `detector::inner::turns::process` meets its contract: a step that came to a spot, or failed. Assumes nothing.
use Rattle.graph.proofs.Graphs.{sized-of}
use Rattle.detector.proofs.Processing.{came_is, process_fails}
use Rattle.detector.proofs.inner.turns.process.Goals as goal

pub returns-in-Some-clause-waiting_after : goal.returns-in-Some-clause-waiting_after
returns-in-Some-clause-waiting_after c = came_is _ _ _ _ _ _ _ _ c.in-Some.is c.arrive.ensures.waiting_after

pub returns-in-None : goal.returns-in-None
returns-in-None c =
    let S = sized-of c.told-marks c.told-targets c.told-sets c.told-waiting in
    let p = process_fails _ _ _ _ _ _ _ _ c.requires.n_bound.0 c.requires.n_bound.1 c.requires.n_bound.2 S c.requires.follows c.in-None.is c.keep.ensures c.kept.ensures c.aim.ensures in
    record { follows_2 = p.0; waiting_after = p.1 }
