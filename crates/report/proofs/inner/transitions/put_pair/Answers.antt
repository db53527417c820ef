-- A pair that is not open has no transitions; an open one has those of its two rows, as read. Assumes nothing.
use Rattle.report.proofs.Fronts.{pair-none, pair_two}
use Rattle.report.proofs.inner.transitions.put_pair.Goals as goal

pub returns-then-marks-pair-ne1 : goal.returns-then-marks-pair-ne1
returns-then-marks-pair-ne1 c = pair-none _ _ _ _ _ _ c.if-marks-pair-ne1.true

pub returns : goal.returns
returns c =
    pair_two _ _ _ _ _ _ _ _ _ _ _ _ _ c.if-marks-pair-ne1.false c.first_row-row.ensures c.read_target-one.ensures c.put_transition-p.ensures
    c.read_target-two.ensures c.put_transition.ensures
