-- Laws of answers: what is told where a refusal is due, and where none is. Assumes nothing.
use mathlib.Core.Path.{◌≡◌, refl, sym, ap, ◌∙◌}
use Prim.Native.Nat.{ℕ}
use native.Mathlib.Omega.{arith}
use Rattle.std.specs.Prelude.{Option, None, Some, Ok, Err}
use Rattle.std.specs.Result.{result_err, is_ok}
use Rattle.base.specs.declared.Refusal.{Refusal}
use Rattle.base.specs.Answers.{Answer}
use Rattle.base.specs.Options.{missing}
use Rattle.base.specs.Refusals.{unless}

-- what is given is not refused
pub different : {A : Type 0} {x : A} {r : Refusal} → ◌≡◌ {A = Answer A} (Ok x) (Err r) → ⊥
different e = let z : ◌≡◌ {A = ℕ} 0 1 = cc in omega arith

-- nothing is due where something is given
pub ok-missing : {A : Type 0} (a : Answer A) (o : Option Refusal) → result_err a ≡ o → is_ok a ≡ missing o
ok-missing (Ok x) o e = rw (← e) refl
ok-missing (Err r) o e = rw (← e) refl

-- ---- an answer of which it is known which refusal is due
module _ {A : Type 0} {a : Answer A} {o : Option Refusal} (e : result_err a ≡ o) where
  pub none-due : {x : A} → a ≡ Ok x → o ≡ None
  none-due h = sym e ∙ ap result_err h

  pub some-due : {r : Refusal} → a ≡ Err r → o ≡ Some r
  some-due h = sym e ∙ ap result_err h

  -- a refusal that is passed on: whatever else was to be given
  pub passed_on : {B : Type 0} {r : Refusal} (y : B) → a ≡ Err r → Err r ≡ unless o y
  passed_on y h = rw (some-due h) refl

  -- where none is due, anything may be given
  pub goes_on : {B : Type 0} {x : A} (y : B) → a ≡ Ok x → Ok y ≡ unless o y
  goes_on y h = rw (none-due h) refl
