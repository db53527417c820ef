-- `marker::inner::openings::opens` meets its contract. Assumes nothing.
use Rattle.marker.proofs.Ranking.{opens_not, opens_either}
use Rattle.marker.proofs.inner.openings.opens.Goals as goal

pub returns-then-marks-i-ne4 : goal.returns-then-marks-i-ne4
returns-then-marks-i-ne4 c = search opens_not

pub returns : goal.returns
returns c = search opens_either
