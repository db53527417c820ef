-- `marker::inner::spread::open_place` meets its contract. Assumes nothing.
use Prim.Native.Nat.{◌≤◌}
use Rattle.marker.specs.inner.Spreads.{Spread}
use Rattle.marker.proofs.inner.spread.open_place.Given as goal

abbrev pub invariant-loop-p : goal.invariant-loop-p
invariant-loop-p l = Spread l.targets l.initial.marks l.n l.marks × (l.n ≤ l.p)
