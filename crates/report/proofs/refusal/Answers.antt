-- A record at the front. Assumes nothing.
use Rattle.report.proofs.Fronts.{front-refusal}
use native.Mathlib.Omega.{arith}
use Rattle.report.proofs.refusal.Goals as goal

pub returns : goal.returns
returns c = front-refusal _ _ _ _ (omega arith) c.put_line.ensures
