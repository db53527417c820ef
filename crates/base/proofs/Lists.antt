-- Lists of which some element passes a test, and the loop that looks for one. Assumes nothing.
use mathlib.Core.Path.{◌≡◌, refl, sym, subst, ◌∙◌}
use mathlib.Core.Bool.{Bool, true, false, ◌||◌}
use mathlib.Core.Logic.{◌≢◌, ◌⊎◌, inl, inr}
use mathlib.Core.List.{List, [], ◌∷◌}
use Prim.Native.Nat.{ℕ, zero, suc, ◌+◌, ◌≤◌, ◌<◌}
use native.Mathlib.Nat.{not-suc-le-zero}
use native.Mathlib.Decide.{ℕ_discrete}
use native.Mathlib.Numerals.{add-one}
use lib.Dec.{T, eqb, ltb, ltb→lt, eqb_refl, leb-suc-suc}
use lib.ListN.{length, get_or, drop, drop_of_length-le}
use lib.Seq.{drop-cons}
use borrow.Author.Tests.{eq-eqb, ne_eqb}
use Rattle.base.specs.Lists.{any}
use Rattle.base.proofs.Tests.{T_or, T_or_l, T_or_r, T_true, is_true}

-- ---- members of a list
abbrev pub has : List ℕ → ℕ → Bool
has l x = any (eqb x) l

pub has_at : (l : List ℕ) (n : ℕ) → T (ltb n (length l)) → T (has l (get_or l n 0))
has_at [] n t = absurd (not-suc-le-zero (ltb→lt n 0 t))
has_at (x ∷ l) zero t = T_or_l (eqb x x) (has l x) (eqb_refl x)
has_at (x ∷ l) (suc n) t = T_or_r (eqb (get_or l n 0) x) (has l (get_or l n 0)) (has_at l n (rw leb-suc-suc at t))

abbrev pub Out : ℕ → List ℕ → Type 0
Out x [] = Unit {0}
Out x (y ∷ l) = (x ≢ y) × Out x l

pub in_or_out : (x : ℕ) (l : List ℕ) → T (has l x) ⊎ Out x l
in_or_out x [] = inr tt
in_or_out x (y ∷ l) = go (ℕ_discrete x y) (in_or_out x l)
  where
    go : Dec (x ≡ y) → T (has l x) ⊎ Out x l → T (has (y ∷ l) x) ⊎ Out x (y ∷ l)
    go (yes e) o = inl (rw (eq-eqb x y e) tt)
    go (no n) (inl t) = inl (rw (ne_eqb x y n) t)
    go (no n) (inr o) = inr (n, o)

pub out_not : (x e : ℕ) (l : List ℕ) → Out x l → T (has l e) → x ≢ e
out_not x e [] o t = absurd t
out_not x e (y ∷ l) o t = go (ℕ_discrete e y) (out_not x e l o.1)
  where
    go : Dec (e ≡ y) → (T (has l e) → x ≢ e) → x ≢ e
    go (yes p) k = λ q. o.0 (q ∙ p)
    go (no n) k = k (rw (ne_eqb e y n) at t)

pub any_at : (p : ℕ → Bool) (l : List ℕ) (x : ℕ) → T (has l x) → T (p x) → T (any p l)
any_at p [] x h t = h
any_at p (y ∷ l) x h t = go (ℕ_discrete x y) (any_at p l x)
  where
    go : Dec (x ≡ y) → (T (has l x) → T (p x) → T (any p l)) → T (any p (y ∷ l))
    go (yes e) k = T_or_l (p y) (any p l) (subst (λ (z : ℕ). T (p z)) e t)
    go (no n) k = T_or_r (p y) (any p l) (k (rw (ne_eqb x y n) at h) t)

pub any_false : {A : Type 0} (p : A → Bool) (l : List A) → ((x : A) → p x ≡ false) → any p l ≡ false
any_false p [] h = refl
any_false p (x ∷ l) h = rw (h x) (any_false p l h)

pub any_same : (p q : ℕ → Bool) → ((x : ℕ) → p x ≡ q x) → (l : List ℕ) → any p l ≡ any q l
any_same p q h l = λ i. any (λ x. h x i) l

-- an element that stands again in the rest adds nothing
pub any_again : (p : ℕ → Bool) (x : ℕ) (l : List ℕ) → T (has l x) → any p (x ∷ l) ≡ any p l
any_again p x l h = go (p x) refl
  where
    go : (b : Bool) → p x ≡ b → b || any p l ≡ any p l
    go true e = sym (is_true (any p l) (any_at p l x h (T_true e)))
    go false e = refl

-- each element is so
abbrev pub All : (ℕ → Type 0) → List ℕ → Type 0
All P [] = Unit {0}
All P (x ∷ l) = P x × All P l

pub any_all : (p : ℕ → Bool) (P : ℕ → Type 0) (l : List ℕ) → All P l → T (any p l) → (x : ℕ) × P x × T (p x)
any_all p P [] S t = absurd t
any_all p P (x ∷ l) S t = go (T_or (p x) (any p l) t) (any_all p P l S.1)
  where
    go : T (p x) ⊎ T (any p l) → (T (any p l) → (x : ℕ) × P x × T (p x)) → (x : ℕ) × P x × T (p x)
    go (inl t) k = (x, S.0, t)
    go (inr t) k = k t

-- ---- a loop that looks for an element that passes
-- before element i none passes
pub record NoneYet (p : ℕ → Bool) (l : List ℕ) (i : ℕ) : Type 0 where
  pub within : i ≤ length l
  pub rest : any p l ≡ any p (drop i l)

module _ (p : ℕ → Bool) (l : List ℕ) (i : ℕ) (N : NoneYet p l i) where
  pub some-here : i < length l → {r : Bool} → r ≡ p (get_or l i 0) → r ≡ true → true ≡ any p l
  some-here h e t = sym (N.rest ∙ rw (drop-cons l i 0 h, sym e ∙ t))

  pub none_here : i < length l → {r : Bool} → r ≡ p (get_or l i 0) → r ≡ false → NoneYet p l (i + 1)
  none_here h e t = record { within = rw add-one h; rest = N.rest ∙ rw (drop-cons l i 0 h, sym e ∙ t, add-one) }

  pub none_at_all : length l ≤ i → false ≡ any p l
  none_at_all h = sym (N.rest ∙ rw (drop_of_length-le l h))
