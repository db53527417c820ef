-- `marker::inner::marks::cover` meets its contract. Assumes nothing.
use Rattle.marker.proofs.Covering.{covers_one, covers-none, covers_past}
use native.Mathlib.Omega.{arith}
use Rattle.marker.proofs.inner.marks.cover.Goals as goal

pub returns-then-at-ge4160 : goal.returns-then-at-ge4160
returns-then-at-ge4160 c = covers_past _ _ (omega arith)

pub returns-then-marks-at-ne4 : goal.returns-then-marks-at-ne4
returns-then-marks-at-ne4 c = covers-none _ _ c.if-marks-at-ne4.true

pub returns : goal.returns
returns c = covers_one _ _ (omega arith) c.if-marks-at-ne4.false
