-- Case analysis: a field by a test, what follows a field, and what a `?` hands on.
-- Assumes nothing.
use Rattle.std.proofs.Common.{◌≡◌, ℕ, Bool, true, false, refl, ap, ◌∙◌}
use Rattle.base.specs.Answers.{Answer}
use Rattle.text.specs.declared.causes.Unfit.{Unfit}
use Rattle.std.specs.Prelude.{Result, Ok, Err}
use Rattle.std.specs.Result.{IsErrAnd}
use Rattle.std.proofs.lemmas.Result.{err_from_is_err_and}
use Rattle.text.specs.Causes.{refusal_of}
use Rattle.text.specs.Fields.{Field, number}
use Rattle.text.specs.Spans.{on_field}

-- one of two fields, by a test
pub by_test : (P : Field → Type 0) (t : Bool) {f g : Field} → (t ≡ true → P f) → (t ≡ false → P g) → P (elim t as (λ _. Field) [ true ↦ f | false ↦ g ])
by_test P true h g = h refl
by_test P false h g = g refl

-- a number or a refusal
pub by_field : {A : Type 0} (P : Answer A → Type 0) (f : Field) (then : ℕ → ℕ → Answer A) → ((x p : ℕ) → f ≡ number x p → P (then x p)) → ((u : Unfit) → f ≡ Err u → P (Err (refusal_of u))) → P (on_field f then)
by_field P (Ok n) then h g = h n.value n.next refl
by_field P (Err u) then h g = g u refl

-- what a `?` returns is the refusal that it hands on
pub handed_on : {A E : Type 0} {u : E} (r : Result A E) → IsErrAnd r (λ (y : E). y ≡ u) → r ≡ Err u
handed_on r h = let p = err_from_is_err_and r h in p.1 ∙ ap Err p.2
