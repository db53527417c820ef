-- Refusals that are due fit, and so do those of answers that are made of others. Assumes nothing.
use mathlib.Core.Path.{◌≡◌, refl}
use mathlib.Core.Bool.{Bool}
use Rattle.std.specs.Prelude.{Option, None, Some, Ok, Err}
use Prim.Native.Nat.{ℕ, ◌^◌, ◌<◌}
use native.Mathlib.Omega.{arith}
use lib.Dec.{T, leb, leb→le}
use Rattle.base.specs.declared.Refusal.{Refusal}
use Rattle.base.specs.Answers.{Answer}
use Rattle.base.specs.Chains.{and_then, mapped}
use Rattle.base.specs.Refusals.{due_in, unless}
use Rattle.base.specs.Tests.{within}
use Rattle.base.specs.inner.Fits.{Fits, FitsOr}
use Rattle.base.proofs.OnSome.{OnSome, when_on}
use Rattle.base.proofs.Tests.{T_and}

-- of a number that stands there the test computes
pub named_fits : (n k p : ℕ) → T (within 1 255 n) → k < 2 ^ 8 → p < 2 ^ 32 → Fits (record { number = n; chart = k; position = p })
named_fits n k p t c h =
    let q = T_and (leb 1 n) (leb n 255) t in
    record { some_number = leb→le 1 n q.0; number = omega (arith, leb→le n 255 q.1); chart = c; position = h }

pub due-fits : (k : ℕ) (b : Bool) (n p : ℕ) → T (within 1 255 n) → k < 2 ^ 8 → p < 2 ^ 32 → OnSome Fits (due_in k b n p)
due-fits k b n p t c h = when_on Fits b (record { number = n; chart = k; position = p }) (named_fits n k p t c h)

-- ---- answers
module _ {A : Type 0} (P : A → Type 0) where
  pub unless-fits : (o : Option Refusal) (x : A) → OnSome Fits o → (o ≡ None → P x) → FitsOr P (unless o x)
  unless-fits None x h g = g refl
  unless-fits (Some r) x h g = h

  module _ {B : Type 0} (Q : B → Type 0) where
    pub then_fits : (a : Answer A) (f : A → Answer B) → FitsOr P a → ((x : A) → P x → FitsOr Q (f x)) → FitsOr Q (and_then a f)
    then_fits (Ok x) f h g = g x h
    then_fits (Err r) f h g = h

    pub mapped-fits : (a : Answer A) (f : A → B) → FitsOr P a → ((x : A) → P x → Q (f x)) → FitsOr Q (mapped f a)
    mapped-fits (Ok x) f h g = g x h
    mapped-fits (Err r) f h g = h
