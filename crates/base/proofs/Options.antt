-- Laws of values that may be missing, and of the first of several. Assumes nothing.
use mathlib.Core.Path.{◌≡◌, refl, sym, ap, ◌∙◌}
use mathlib.Core.Bool.{Bool, true, false}
use Rattle.std.specs.Prelude.{Option, None, Some}
use mathlib.Core.Logic.{⊎_elim}
use Prim.Native.Nat.{ℕ, zero, suc, ◌+◌, ◌≤◌, ◌<◌}
use native.Mathlib.Nat.{eq-or-lt_of_le, le_of_suc-le-suc}
use native.Mathlib.Numerals.{add-one}
use native.Mathlib.Omega.{arith}
use Rattle.base.specs.Options.{when, or_else, missing, first_of}
use Rattle.base.proofs.Tests.{T_true}

module _ {A : Type 0} where
  pub missing-none : (o : Option A) → missing o ≡ true → o ≡ None
  missing-none None e = refl
  missing-none (Some x) e = absurd (T_true e)

  -- the first of two
  pub first-there : (o p : Option A) → missing o ≡ false → or_else o p ≡ o
  first-there None p e = absurd (T_true (sym e))
  first-there (Some x) p e = refl

  pub first-missing : (o p : Option A) → missing o ≡ true → or_else o p ≡ p
  first-missing None p e = refl
  first-missing (Some x) p e = absurd (T_true e)

  -- a test that was told whether a value is missing picks the first of two, or the second
  module _ {o o' : Option A} {r : Bool} (e : o' ≡ o) (m : r ≡ missing o') where
    told : missing o ≡ r
    told = sym (m ∙ ap missing e)

    pub gone : r ≡ true → o ≡ None
    gone t = missing-none o (told ∙ t)

    pub picked_first : (p : Option A) → r ≡ false → o' ≡ or_else o p
    picked_first p t = e ∙ sym (first-there o p (told ∙ t))

    pub picked_second : {p q : Option A} → r ≡ true → q ≡ p → q ≡ or_else o p
    picked_second {p} t h = h ∙ sym (first-missing o p (told ∙ t))

  -- neither of two
  pub both-missing : (o p : Option A) → or_else o p ≡ None → (o ≡ None) × (p ≡ None)
  both-missing None p e = (refl, e)
  both-missing (Some x) p e = absurd (not_there x e)
    where
      not_there : (x : A) → Some x ≡ None → ⊥
      not_there x e = let z : ◌≡◌ {A = ℕ} 0 1 = cc in omega arith

  pub not_due : (b : Bool) (x : A) → when b x ≡ None → b ≡ false
  not_due true x e = let z : ◌≡◌ {A = ℕ} 0 1 = cc in absurd (omega arith)
  not_due false x e = refl

  pub none_if : (b : Bool) (x : A) → b ≡ false → when b x ≡ None
  none_if b x e = rw e

  -- ---- the loop that looks for the first value
  module _ (f : ℕ → Option A) where
    pub first_at_lem : (n i : ℕ) → i < n → first_of i f ≡ None → missing (f i) ≡ false → first_of n f ≡ f i
    unfolding first_of
    first_at_lem zero i l e h = absurd (omega arith)
    first_at_lem (suc n) i l e h =
        ⊎_elim (λ q. rw (← q, e))
        (λ lt. rw (first_at_lem n i lt e h) (first-there (f i) (f n) h)) (eq-or-lt_of_le (le_of_suc-le-suc l))

    pub none_at : (i : ℕ) → first_of i f ≡ None → missing (f i) ≡ true → first_of (i + 1) f ≡ None
    unfolding first_of
    none_at i e h = rw (add-one, e) (missing-none (f i) h)

    pub none_all : (n i : ℕ) → i ≤ n → n ≤ i → first_of i f ≡ None → None ≡ first_of n f
    none_all n i l u e = let q : i ≡ n = omega arith in sym (rw q at e)

    pub none_of : (n i : ℕ) → first_of n f ≡ None → i < n → f i ≡ None
    unfolding first_of
    none_of zero i e l = absurd (omega arith)
    none_of (suc n) i e l =
        let q = both-missing (first_of n f) (f n) e in
        ⊎_elim (λ z. rw z q.1) (λ lt. none_of n i q.0 lt) (eq-or-lt_of_le (le_of_suc-le-suc l))

    pub none_everywhere : (n : ℕ) → ((i : ℕ) → i < n → f i ≡ None) → first_of n f ≡ None
    unfolding first_of
    none_everywhere zero h = refl
    none_everywhere (suc n) h = rw (none_everywhere n (λ i l. h i (omega arith))) (h n (omega arith))

  -- two that find the same at each place find the same first value
  pub first-same : (f g : ℕ → Option A) (n : ℕ) → ((i : ℕ) → i < n → f i ≡ g i) → first_of n f ≡ first_of n g
  unfolding first_of
  first-same f g zero h = refl
  first-same f g (suc n) h = rw (first-same f g n (λ i l. h i (omega arith)), h n (omega arith))
