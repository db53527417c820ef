-- A record at the front. Assumes nothing.
use Rattle.report.proofs.Fronts.{front-summary}
use native.Mathlib.Omega.{arith}
use Rattle.report.proofs.summary.Goals as goal

pub returns : goal.returns
returns c = front-summary _ _ _ _ (omega arith) c.put_line.ensures
