-- A test computes to true exactly where what it says is so. Assumes nothing.
use mathlib.Core.Path.{◌≡◌, refl, sym, subst}
use mathlib.Core.Bool.{Bool, true, false, not}
use mathlib.Core.Logic.{◌⊎◌, inl, inr, ⊎_elim}
use Prim.Native.Nat.{ℕ, zero, suc, ◌+◌, ◌≤◌, ◌<◌}
use native.Mathlib.Nat.{eq-or-lt_of_le, le_of_suc-le-suc}
use native.Mathlib.Numerals.{add-one}
use native.Mathlib.Omega.{arith}
use lib.Dec.{T, T_not, not_T, eqb, eqb→eq, eqb_refl, leb→le, le→leb}
use Rattle.base.specs.Says.{every, Test, eq, ne, le, so, ◌and◌, ◌or◌, each, bool, Says}
use Rattle.base.proofs.Tests.{T_and, T_both, T_or, T_or_l, T_or_r}

-- a test that is passed or is not
pub T_split : (b : Bool) → T b ⊎ T (not b)
T_split true = inl tt
T_split false = inr tt

pub eqb←eq : {m n : ℕ} → m ≡ n → T (eqb m n)
eqb←eq {m} e = subst (λ (x : ℕ). T (eqb m x)) e (eqb_refl m)

-- ---- each number below a bound
pub every_at : (f : ℕ → Bool) (n k : ℕ) → T (every n f) → k < n → T (f k)
unfolding every
every_at f zero k t l = absurd (omega arith)
every_at f (suc n) k t l =
    let q = T_and (every n f) (f n) t in
    ⊎_elim (λ e. subst (λ (x : ℕ). T (f x)) (sym e) q.1) (λ lt. every_at f n k q.0 lt) (eq-or-lt_of_le (le_of_suc-le-suc l))

pub every_all : (f : ℕ → Bool) (n : ℕ) → ((k : ℕ) → k < n → T (f k)) → T (every n f)
unfolding every
every_all f zero h = tt
every_all f (suc n) h = T_both (every n f) (f n) (every_all f n (λ k l. h k (omega arith))) (h n (omega arith))

-- ---- what a test says
pub says : (t : Test) → T (bool t) → Says t
says (eq m n) h = eqb→eq m n h
says (ne m n) h = λ e. T_not (eqb m n) h (eqb←eq e)
says (le m n) h = leb→le m n h
says (so b) h = h
says (s and t) h = let q = T_and (bool s) (bool t) h in (says s q.0, says t q.1)
says (s or t) h = elim (T_or (bool s) (bool t) h) [ inl x ↦ inl (says s x) | inr x ↦ inr (says t x) ]
says (each n f) h = λ k l. says (f k) (every_at (λ k. bool (f k)) n k h l)

pub said : (t : Test) → Says t → T (bool t)
said (eq m n) h = eqb←eq h
said (ne m n) h = not_T (eqb m n) (λ t. h (eqb→eq m n t))
said (le m n) h = le→leb m n h
said (so b) h = h
said (s and t) h = T_both (bool s) (bool t) (said s h.0) (said t h.1)
said (s or t) (inl x) = T_or_l (bool s) (bool t) (said s x)
said (s or t) (inr x) = T_or_r (bool s) (bool t) (said t x)
said (each n f) h = every_all (λ k. bool (f k)) n (λ k l. said (f k) (h k l))

-- ---- the loop that asks each number
module _ (f : ℕ → Bool) (n : ℕ) where
  pub every-none : true ≡ every 0 f
  unfolding every
  every-none = refl

  pub every_more : (i : ℕ) → every i f ≡ true → f i ≡ true → every (i + 1) f ≡ true
  unfolding every
  every_more i e h = rw (add-one, e) h

  pub every_fails : (i : ℕ) → i < n → f i ≡ false → false ≡ every n f
  every_fails i l h = go (every n f) (λ t. subst T h (every_at f n i t l))
    where
      go : (b : Bool) → (T b → ⊥) → false ≡ b
      go true k = absurd (k tt)
      go false k = refl

  pub every_done : (i : ℕ) → i ≤ n → n ≤ i → every i f ≡ true → true ≡ every n f
  every_done i l u e = let q : i ≡ n = omega arith in sym (rw q at e)
