-- What is so of a value that may be missing, where it is there; and of what a call gives, where it is not refused. Assumes nothing.
use mathlib.Core.Path.{◌≡◌, refl, subst}
use mathlib.Core.Bool.{Bool, true, false}
use Rattle.std.specs.Prelude.{Option, None, Some, Ok, Err}
use Prim.Native.Nat.{ℕ, zero, suc, ◌<◌}
use native.Mathlib.Omega.{arith}
use lib.Dec.{T}
use Rattle.base.specs.Answers.{Answer}
use Rattle.base.specs.Chains.{and_then}
use Rattle.base.specs.Options.{when, or_else, first_of}

-- P of the value, if there is one
abbrev pub OnSome : {A : Type 0} → (A → Type 0) → Option A → Type 0
OnSome P None = Unit
OnSome P (Some x) = P x

module _ {A : Type 0} (P : A → Type 0) where
  pub on_at : {o : Option A} {x : A} → OnSome P o → o ≡ Some x → P x
  on_at h e = subst (OnSome P) e h

  pub when_on : (b : Bool) (x : A) → P x → OnSome P (when b x)
  when_on true x h = h
  when_on false x h = tt

  -- the test may be used
  pub when-so : (b : Bool) (x : A) → (T b → P x) → OnSome P (when b x)
  when-so true x h = h tt
  when-so false x h = tt

  pub or_on : (o p : Option A) → OnSome P o → (o ≡ None → OnSome P p) → OnSome P (or_else o p)
  or_on None p h g = g refl
  or_on (Some x) p h g = h

  pub first_on : (n : ℕ) (f : ℕ → Option A) → ((i : ℕ) → i < n → OnSome P (f i)) → OnSome P (first_of n f)
  unfolding first_of
  first_on zero f h = tt
  first_on (suc n) f h = or_on (first_of n f) (f n) (first_on n f (λ i l. h i (omega arith))) (λ _. h n (omega arith))

  -- either way, by a test
  pub picked : (b : Bool) (x y : Option A) → (b ≡ true → OnSome P x) → (b ≡ false → OnSome P y) → OnSome P (elim b [ true ↦ x | false ↦ y ])
  picked true x y h k = h refl
  picked false x y h k = k refl

module _ {A B : Type 0} (P : A → Type 0) (Q : B → Type 0) where
  -- a value, taken further
  pub further : (o : Option A) (d : Option B) (f : A → Option B) → OnSome P o → OnSome Q d → ((x : A) → P x → OnSome Q (f x))
      → OnSome Q (elim o [ None ↦ d | Some x ↦ f x ])
  further None d f h k g = k
  further (Some x) d f h k g = g x h

pub on_map : {A : Type 0} (P Q : A → Type 0) (o : Option A) → ((x : A) → P x → Q x) → OnSome P o → OnSome Q o
on_map P Q None f h = tt
on_map P Q (Some x) f h = f x h

-- ---- of what is given
abbrev pub gift : {A : Type 0} → Answer A → Option A
gift (Ok x) = Some x
gift (Err r) = None

abbrev pub OnGiven : {A : Type 0} → (A → Type 0) → Answer A → Type 0
OnGiven P a = OnSome P (gift a)

pub on_given : {A : Type 0} (P Q : A → Type 0) (a : Answer A) → ((x : A) → P x → Q x) → OnGiven P a → OnGiven Q a
on_given P Q a = on_map P Q (gift a)

pub on_then : {A B : Type 0} (P : A → Type 0) (Q : B → Type 0) (a : Answer A) (f : A → Answer B) → OnGiven P a → ((x : A) → P x → OnGiven Q (f x)) → OnGiven Q (and_then a f)
on_then P Q (Ok x) f h g = g x h
on_then P Q (Err r) f h g = tt
