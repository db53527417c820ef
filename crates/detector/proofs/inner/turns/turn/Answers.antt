-- `detector::inner::turns::turn` meets its contract. The invariant: the rows before r are done. Assumes nothing.
use Rattle.graph.proofs.Graphs.{sized-of}
use Rattle.detector.proofs.Rows.{turn_begins, turn_row, turn_done, unwait-kept_up}
use Rattle.detector.proofs.inner.turns.turn.Goals as goal

pub loop-r-init : goal.loop-r-init
loop-r-init c =
    let S = sized-of c.told-marks c.told-targets c.told-sets c.told-waiting in
    turn_begins _ _ _ (unwait-kept_up _ c.requires.n_bound.0 S c.requires.follows c.remove.ensures)

pub loop-r-preserved : goal.loop-r-preserved
loop-r-preserved c = turn_row _ _ _ _ c.loop-r.invariant c.loop-r-test.true c.set_now-v.ensures (c.row.ensures.follows_2, c.row.ensures.waiting_after)

pub returns-clause-waiting_after : goal.returns-clause-waiting_after
returns-clause-waiting_after c = turn_done _ _ _ _ _ _ c.loop-r.invariant c.loop-r-test.false
