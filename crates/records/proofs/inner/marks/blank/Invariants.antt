-- `records::inner::marks::blank` meets its contract. The invariant: what is joined is 0 exactly where each one passed is. Assumes nothing.
use mathlib.Core.Path.{◌≡◌}
use Prim.Native.Nat.{◌+◌}
use lib.Dec.{eqb}
use lib.ListN.{get_or}
use Rattle.base.specs.Says.{every}
use Rattle.records.proofs.inner.marks.blank.Given as goal

abbrev pub invariant-loop-j : goal.invariant-loop-j
invariant-loop-j l = eqb l.all 0 ≡ every l.j (λ k. eqb (get_or l.marks (l.from + k) 0) 0)
