-- What a choice by a test, or by a value that may be missing, comes to. Assumes nothing.
use mathlib.Core.Path.{◌≡◌, refl, sym}
use mathlib.Core.Bool.{Bool, true, false}
use Rattle.std.specs.Prelude.{Option, None, Some}
use Rattle.std.proofs.lemmas.Option.{none-some, same_Some}
use Rattle.base.proofs.Tests.{T_true}

module _ {A : Type 0} where
  pub pick_true : (b : Bool) (x y : A) → b ≡ true → elim b [ true ↦ x | false ↦ y ] ≡ x
  pick_true true x y e = refl
  pick_true false x y e = absurd (T_true e)

  pub pick_false : (b : Bool) (x y : A) → b ≡ false → elim b [ true ↦ x | false ↦ y ] ≡ y
  pick_false true x y e = absurd (T_true (sym e))
  pick_false false x y e = refl

module _ {A B : Type 0} where
  pub pick_none : (o : Option A) (d : B) (f : A → B) → o ≡ None → elim o [ None ↦ d | Some x ↦ f x ] ≡ d
  pick_none None d f e = refl
  pick_none (Some x) d f e = absurd (none-some x (sym e))

  pub pick_some : (o : Option A) (d : B) (f : A → B) (x : A) → o ≡ Some x → elim o [ None ↦ d | Some y ↦ f y ] ≡ f x
  pick_some None d f x e = absurd (none-some x e)
  pick_some (Some y) d f x e = rw (same_Some y x e)
