-- `detector::inner::turns::row` meets its contract: the row of the part that leaves the pair's new place, if there is
-- one that can be taken. Assumes nothing.
use Rattle.detector.proofs.Rows.{row-right, part_below, came_fits, row-there, row_spare}
use borrow.Author.Rules.{rules}
use Rattle.detector.proofs.inner.turns.row.Goals as goal

pub step-came-requires-clause-j_bound : goal.step-came-requires-clause-j_bound
step-came-requires-clause-j_bound c =
    row-right _ _ _ c.new_of.ensures c.new_part-part.ensures c.requires.n_bound.2 c.if-r-part.true c.args.charts.now.prepared.new-faultless

pub process-requires-clause-n_bound : goal.process-requires-clause-n_bound
process-requires-clause-n_bound c =
    (c.requires.n_bound.0, c.requires.n_bound.1, part_below _ _ _ c.new_of.ensures c.new_part-part.ensures c.requires.n_bound.2 c.if-r-part.true c.new_to.result c.args.charts.now.prepared.new-faultless c.new_to.ensures)

pub process-requires-clause-place_bound : goal.process-requires-clause-place_bound
process-requires-clause-place_bound c =
    let P = c.args.charts.now.prepared in
    came_fits _ _ _ c.new_of.ensures c.new_part-part.ensures c.requires.n_bound.2 _ c.old_of.ensures c.step-came.ensures c.if-r-part.true P.old-faultless P.new-faultless c.requires.n_bound.0 (search (rules, c.ranges))

pub returns-then-r-part-clause-waiting_after : goal.returns-then-r-part-clause-waiting_after
returns-then-r-part-clause-waiting_after c =
    row-there _ _ _ c.new_of.ensures c.new_part-part.ensures c.requires.n_bound.2 _ c.old_of.ensures c.step-came.ensures c.if-r-part.true _ c.new_to.result c.new_to.ensures c.process.ensures.waiting_after

pub returns-else-r-part-clause-waiting_after : goal.returns-else-r-part-clause-waiting_after
returns-else-r-part-clause-waiting_after c =
    row_spare _ _ _ c.new_of.ensures c.new_part-part.ensures c.requires.n_bound.2 _ _ c.if-r-part.false
