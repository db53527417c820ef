-- Laws of tests: what a test that passes says, and tests over the numbers below a bound. Assumes nothing.
use mathlib.Core.Path.{◌≡◌, refl, sym, ap, subst, ◌∙◌}
use mathlib.Core.Bool.{Bool, true, false, ◌&&◌, ◌||◌, not}
use mathlib.Core.Logic.{◌⊎◌, inl, inr, ⊎_elim}
use Prim.Native.Nat.{ℕ, zero, suc, ◌+◌, ◌-◌, ◌≤◌, ◌<◌}
use native.Mathlib.Nat.{eq-or-lt_of_le, le_of_suc-le-suc}
use native.Mathlib.Omega.{arith}
use lib.Dec.{T, leb}
use borrow.Author.Tests.{le-leb, lt-leb}
use Rattle.base.specs.Tests.{within, some_below}

pub T_both : (a b : Bool) → T a → T b → T (a && b)
T_both true b s t = t
T_both false b s t = absurd s

pub T_and : (a b : Bool) → T (a && b) → T a × T b
T_and true b t = (tt, t)
T_and false b t = absurd t

pub T_or : (a b : Bool) → T (a || b) → T a ⊎ T b
T_or true b t = inl tt
T_or false b t = inr t

pub T_or_l : (a b : Bool) → T a → T (a || b)
T_or_l true b t = tt
T_or_l false b t = absurd t

pub T_or_r : (a b : Bool) → T b → T (a || b)
T_or_r true b t = tt
T_or_r false b t = t

-- ---- tests as equations
pub is_true : (b : Bool) → T b → b ≡ true
is_true true t = refl
is_true false t = absurd t

pub T_true : {b : Bool} → b ≡ true → T b
T_true e = subst T (sym e) tt

pub differ : (b : Bool) → b ≡ not b → ⊥
differ true e = subst T e tt
differ false e = subst T (sym e) tt

pub yields : (b : Bool) → (b ≡ false → ⊥) → b ≡ true
yields true n = refl
yields false n = absurd (n refl)

-- two tests that never agree
pub opposite : (a b : Bool) → (a ≡ true → b ≡ true → ⊥) → (a ≡ false → b ≡ false → ⊥) → a ≡ not b
opposite true true m n = absurd (m refl refl)
opposite true false m n = refl
opposite false true m n = refl
opposite false false m n = absurd (n refl refl)

pub and_false : (b : Bool) → b && false ≡ false
and_false true = refl
and_false false = refl

pub and_true : (a b : Bool) → a && b ≡ true → (a ≡ true) × (b ≡ true)
and_true true b e = (refl, e)
and_true false b e = absurd (T_true e)

pub or_false : (a b : Bool) → a || b ≡ false → (a ≡ false) × (b ≡ false)
or_false true b e = absurd (subst T e tt)
or_false false b e = (refl, e)

pub or_true : (b : Bool) → b || true ≡ true
or_true true = refl
or_true false = refl

pub or_none : (b : Bool) → b || false ≡ b
or_none true = refl
or_none false = refl

pub not_both : (a b : Bool) → a && not b ≡ false → a ≡ true → b ≡ true
not_both true true e t = refl
not_both true false e t = absurd (subst T e tt)
not_both false b e t = absurd (T_true t)

-- ---- within
module _ (m n x : ℕ) where
  pub within_yes : m ≤ x → x ≤ n → within m n x ≡ true
  within_yes l u = rw (le-leb m x l, le-leb x n u)

  pub within_low : x < m → within m n x ≡ false
  within_low l = rw (lt-leb m x l)

  pub within-high : n < x → within m n x ≡ false
  within-high u = rw (lt-leb x n u) (and_false (leb m x))

-- ---- some number below a bound
pub none_below : (f : ℕ → Bool) (n : ℕ) → ((k : ℕ) → k < n → f k ≡ false) → some_below n f ≡ false
unfolding some_below
none_below f zero h = refl
none_below f (suc n) h = rw (none_below f n (λ k l. h k (omega arith))) (h n (omega arith))

pub none-below_at : (f : ℕ → Bool) (n k : ℕ) → some_below n f ≡ false → k < n → f k ≡ false
unfolding some_below
none-below_at f zero k e l = absurd (omega arith)
none-below_at f (suc n) k e l =
    let q = or_false (some_below n f) (f n) e in
    ⊎_elim (λ z. rw z q.1) (λ lt. none-below_at f n k q.0 lt) (eq-or-lt_of_le (le_of_suc-le-suc l))

-- going up, with no early end: told of the numbers passed
module _ (f : ℕ → Bool) where
  pub some-none : false ≡ some_below 0 f
  unfolding some_below
  some-none = refl

  pub some_more : (i : ℕ) {s r : Bool} → s ≡ some_below i f → r ≡ f i → s || r ≡ some_below (i + 1) f
  unfolding some_below
  some_more i e h = let n : i + 1 ≡ suc i = omega arith in rw (n, e, h)

  pub some_all : (n i : ℕ) {s : Bool} → s ≡ some_below i f → i ≤ n → n ≤ i → s ≡ some_below n f
  some_all n i e l u = let z : i ≡ n = omega arith in e ∙ ap (λ (k : ℕ). some_below k f) z

-- going down from i, no number from j on passed
pub record NoneSince (f : ℕ → Bool) (i j : ℕ) : Type 0 where
  pub within : j ≤ i
  pub rest : some_below i f ≡ some_below j f

some-last : (f : ℕ → Bool) (j : ℕ) → 0 < j → some_below j f ≡ some_below (j - 1) f || f (j - 1)
unfolding some_below
some-last f zero l = absurd (omega arith)
some-last f (suc n) l = let e : suc n - 1 ≡ n = omega arith in rw e

module _ (f : ℕ → Bool) (i j : ℕ) (N : NoneSince f i j) where
  pub none_here : 0 < j → f (j - 1) ≡ false → NoneSince f i (j - 1)
  none_here l e = record { within = omega (arith, N.within); rest = N.rest ∙ some-last f j l ∙ rw e (or_none (some_below (j - 1) f)) }

  pub some-here : 0 < j → f (j - 1) ≡ true → true ≡ some_below i f
  some-here l e = sym (N.rest ∙ some-last f j l ∙ rw e (or_true (some_below (j - 1) f)))

  pub none_left : ((k : ℕ) → k < j → f k ≡ false) → false ≡ some_below i f
  none_left h = sym (N.rest ∙ none_below f j h)
