-- `marker::inner::marks::plain_row` meets its contract. Assumes nothing.
use Prim.Native.Nat.{◌+◌}
use Rattle.marker.specs.inner.Parts.{plain_as}
use Rattle.marker.proofs.Spans.{Remaking}
use Rattle.marker.proofs.inner.marks.plain_row.Given as goal

abbrev pub invariant-loop-i : goal.invariant-loop-i
invariant-loop-i l = Remaking l.from (l.from + 64) (plain_as l.v) l.initial.marks l.marks l.i
