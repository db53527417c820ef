-- `detector::inner::turns::set_now` meets its contract. Assumes nothing.
use Rattle.detector.proofs.Rows.{now_own, now_had}
use Rattle.detector.proofs.inner.turns.set_now.Goals as goal

pub returns-then-marks-n-ne0 : goal.returns-then-marks-n-ne0
returns-then-marks-n-ne0 c = search now_own

pub returns : goal.returns
returns c = search now_had
