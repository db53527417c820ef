-- `graph::inner::graphs::aim` meets its contract. Assumes nothing.
use Rattle.graph.proofs.Parts.{aim_yes, aim_no}
use Rattle.graph.proofs.inner.graphs.aim.Goals as goal

pub returns-then-marks-n-ne0 : goal.returns-then-marks-n-ne0
returns-then-marks-n-ne0 c = aim_yes _ _ _ _ _ c.if-marks-n-ne0.true

pub returns-else-marks-n-ne0 : goal.returns-else-marks-n-ne0
returns-else-marks-n-ne0 c = aim_no _ _ _ _ _ c.if-marks-n-ne0.false
