-- An old row that never holds is matched by nothing: neither by an equal row, which never holds either, nor by one that
-- implies it. Assumes nothing.
use mathlib.Core.Path.{◌≡◌, refl, ap, ◌∙◌}
use mathlib.Core.Bool.{Bool, true, false, ◌&&◌}
use mathlib.Core.Logic.{◌⊎◌, inl, inr}
use mathlib.Core.List.{List}
use Rattle.std.specs.Prelude.{Some}
use Prim.Native.Nat.{ℕ, ◌<◌}
use Rattle.base.proofs.OnSome.{OnSome, on_at, or_on}
use Rattle.base.proofs.Tests.{T_true, and_true}
use Rattle.operations.specs.declared.Operation.{Operation}
use Rattle.operations.specs.declared.assumptions.Implication.{Implication}
use Rattle.operations.specs.declared.assumptions.Implication.TheVariants.{Never, Implied, NotImplied}
use Rattle.operations.specs.Operations.{is_assumption, same}
use Rattle.operations.specs.Assumptions.{Operands, Means}
use Rattle.operations.specs.Trials.{never_holds, implication}
use Rattle.operations.proofs.Exact.{never-holds_means, implication_means}
use Rattle.chart.specs.Charts.{size, operation}
use Rattle.align.specs.Steps.{find, is_implied, matching}
use Rattle.align.proofs.Onto.{same→eq, Among, found}

module _ (rows : List ℕ) (operands : (k : ℕ) → k < size rows → Operands (operation rows k)) (o : Operation) (O : Operands o) (can : never_holds o ≡ false) where
  -- how a row is matched
  abbrev Matches : Operation → Type 0
  Matches o' = (o' ≡ o) ⊎ (is_implied (implication o o') ≡ true)

  matches : OnSome (Among rows Matches) (matching rows o)
  unfolding matching
  matches =
      or_on _ (find rows (λ o'. same o' o)) _ (found rows (λ o'. same o' o) (λ o' e. inl (same→eq o' o e)))
      (λ _. found rows (λ o'. is_assumption o' && is_implied (implication o o')) (λ o' e. inr (and_true (is_assumption o') _ e).1))

  -- what some values meet implies nothing that none meet
  implies-possible : (o' : Operation) → Operands o' → is_implied (implication o o') ≡ true → never_holds o' ≡ false
  implies-possible o' F t = go (implication o o') t (implication_means o o' O F) (never_holds o') refl
    where
      go : (x : Implication) → is_implied x ≡ true → Means x o o' → (b : Bool) → never_holds o' ≡ b → b ≡ false
      go Never t m b e = absurd (T_true t)
      go NotImplied t m b e = absurd (T_true t)
      go Implied t m true e = absurd (m.0 (λ v W h. ((never-holds_means o' F).0 e).1 v W (m.1 v W h)))
      go Implied t m false e = refl

  pub never-matched : (k : ℕ) → matching rows o ≡ Some k → never_holds (operation rows k) ≡ false
  never-matched k e =
      let A = on_at _ matches e in
      by A.fits A.inside
    where
      by : Matches (operation rows k) → k < size rows → never_holds (operation rows k) ≡ false
      by (inl s) l = ap never_holds s ∙ can
      by (inr i) l = implies-possible (operation rows k) (operands k l) i
