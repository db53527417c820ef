-- `marker::inner::openings::in_q` meets its contract. Assumes nothing.
use mathlib.Core.Path.{◌∙◌}
use native.Mathlib.Omega.{arith}
use borrow.Author.Tests.{le-ltb}
use Rattle.marker.proofs.Ranking.{in_past, in_one, in_two}
use Rattle.marker.proofs.inner.openings.in_q.Goals as goal

pub returns-then-marks-at-eq1 : goal.returns-then-marks-at-eq1
returns-then-marks-at-eq1 c = search in_one

pub returns-else-marks-at-eq1 : goal.returns-else-marks-at-eq1
returns-else-marks-at-eq1 c = search in_two

pub returns-else-at-lt4160 : goal.returns-else-at-lt4160
returns-else-at-lt4160 c = le-ltb _ _ (omega arith) ∙ in_past _ _ (omega arith)
