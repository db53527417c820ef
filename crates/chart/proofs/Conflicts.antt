-- Fault 8 by the values: rows clash exactly where they are in conflict, and of two rows of a place of a faultless chart
-- exactly one may be taken. Assumes nothing.
use mathlib.Core.Path.{◌≡◌, refl, sym}
use mathlib.Core.Bool.{Bool, true, false, ◌&&◌, not}
use mathlib.Core.List.{List}
use mathlib.Core.Logic.{◌↔◌, ◌≢◌, dite}
use Prim.Native.Nat.{ℕ, ◌+◌, ◌*◌, ◌^◌, ◌<◌}
use native.Mathlib.Decide.{dec_lt}
use native.Mathlib.Omega.{arith}
use lib.Dec.{eqb}
use lib.ListN.{get_or}
use borrow.Author.Tests.{eq-eqb, eqb-true}
use Rattle.base.proofs.Tests.{T_true, and_true}
use Rattle.operations.specs.declared.Operation.{Operation}
use Rattle.operations.specs.Operations.{is_assumption}
use Rattle.operations.specs.Assumptions.{Operands}
use Rattle.operations.specs.Trials.{exclusive}
use Rattle.operations.proofs.Codes.{fit-a, fit-b}
use Rattle.operations.proofs.Exact.{exclusive_means}
use Rattle.chart.specs.Charts.{Chart, size, from, operation}
use Rattle.chart.specs.Faults.{clash}
use Rattle.chart.specs.Faultless.{FaultlessChart}
use Rattle.chart.specs.Conflicts.{Opposite, Conflict}

not_so : (b : Bool) → not b ≡ true → b ≡ true → ⊥
not_so true e f = absurd (T_true e)
not_so false e f = absurd (T_true f)

so_not : (b : Bool) → (b ≡ true → ⊥) → not b ≡ true
so_not true n = absurd (n refl)
so_not false n = refl

both : (a b : Bool) → a ≡ true → b ≡ true → a && b ≡ true
both true b e f = f
both false b e f = absurd (T_true e)

module _ (f g : Operation) (F : Operands f) (G : Operands g) where
  opposite_so : is_assumption f && (is_assumption g && exclusive f g) ≡ true → Opposite f g
  opposite_so e =
      let a = and_true (is_assumption f) _ e in
      let b = and_true (is_assumption g) _ a.1 in
      record { first = a.0; second = b.0; one = (exclusive_means f g F G).0 b.1 }

  so_opposite : Opposite f g → is_assumption f && (is_assumption g && exclusive f g) ≡ true
  so_opposite o = both _ _ o.first (both _ _ o.second ((exclusive_means f g F G).1 o.one))

pub clash_exactly : (t : List ℕ) (i j : ℕ) → Operands (operation t i) → Operands (operation t j) → (clash t i j ≡ true) ↔ Conflict t i j
unfolding clash
clash_exactly t i j I J = (
  λ e. (let a = and_true (eqb (from t j) (from t i)) _ e in
      (eqb-true _ _ a.0, λ o. not_so _ a.1 (so_opposite (operation t j) (operation t i) J I o))),
  λ c. both _ _ (eq-eqb _ _ c.0) (so_not _ (λ e. c.1 (opposite_so (operation t j) (operation t i) J I e))),
)

-- ---- in a faultless chart of u32 entries
turned : (a b : Bool) → a ≡ not b → b ≡ not a
turned true true e = absurd (T_true (sym e))
turned true false e = refl
turned false true e = refl
turned false false e = absurd (T_true e)

module _ (C : Chart) (F : FaultlessChart C) (words : (k : ℕ) → get_or C.table k 0 < 2 ^ 32) where
  pub operands : (i : ℕ) → i < size C.table → Operands (operation C.table i)
  operands i l =
      let f = (F.rows i l).fit in
      record { a = fit-a (operation C.table i) f; b = fit-b (operation C.table i) f; c = words (i * 6 + 5) }

  pub opposite : (i j : ℕ) → j < i → i < size C.table → from C.table j ≡ from C.table i → Opposite (operation C.table j) (operation C.table i)
  opposite i j l u e =
      let A = F.apart i j l u e in
      record { first = A.earlier; second = A.later; one = (exclusive_means _ _ (operands j (omega arith)) (operands i u)).0 A.one }

  -- "Two rows of one place must both be assumptions of which exactly one holds, for all values."
  pub two_rows : (i j : ℕ) → i < size C.table → j < size C.table → i ≢ j → from C.table i ≡ from C.table j → Opposite (operation C.table i) (operation C.table j)
  two_rows i j u w n e =
      dite (dec_lt i j)
      (λ l. opposite j i l w e)
      (λ l. let o = opposite i j (omega arith) u (sym e) in record { first = o.second; second = o.first; one = λ v W. turned _ _ (o.one v W) })
