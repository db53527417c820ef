-- Fewer trials are enough where points stand again, and where both assumptions compare one variable with constants.
-- Assumes nothing.
use Rattle.std.proofs.Common.{◌≡◌, ℕ, ◌-◌, ◌≤◌, Bool, true, false, cond, ◌&&◌, T, eqb, List, [], ◌∷◌, take, drop, sym, refl, ap, ◌∙◌, arith, eq-eqb, ne_eqb}
use native.Mathlib.Decide.{ℕ_discrete}
use lib.Dec.{eqb_refl}
use Rattle.operations.specs.declared.Operation.{Operation}
use Rattle.operations.specs.declared.inner.trials.Seats.{Seats}
use Rattle.operations.specs.Operations.{with_constant, plus, minus, order, holds}
use Rattle.operations.specs.Trials.{joint, seats, trial, bound, points, points_of, shown, shown_by, together}
use Rattle.operations.specs.inner.ShortWays.{repeated, meets, meets_both}
use Rattle.base.proofs.Tests.{T_or_l, T_or_r}
use Rattle.base.specs.Lists.{any}
use Rattle.base.proofs.Lists.{has, has_at, any_same, any_again}

-- ---- where points stand again
-- the points without those at the front that stand again
abbrev left : ℕ → ℕ → ℕ → ℕ → List ℕ
left s t c d = take (10 - repeated s t c d) (drop (repeated s t c d) (points s t c d))

pub few : {k : ℕ} (s t c d : ℕ) → k ≡ repeated s t c d → k ≤ 10
unfolding repeated
few s t c d e = rw e (go (eqb s t) (eqb c t) (eqb d t))
  where
    go : (a b h : Bool) → cond a (cond b (cond h 7 5) (cond h 5 3)) 0 ≤ 10
    go true true true = omega arith
    go true true false = omega arith
    go true false true = omega arith
    go true false false = omega arith
    go false b h = omega arith

module _ (p : ℕ → Bool) where
  front : (x y : ℕ) (l : List ℕ) → T (has l x) → T (has l y) → any p (x ∷ y ∷ l) ≡ any p l
  front x y l m n = any_again p x (y ∷ l) (T_or_r (eqb x y) (has l x) m) ∙ any_again p y l n

  module _ (t n e : ℕ) where
    same-order : (c c' d d' : ℕ) → any p (e ∷ t ∷ n ∷ t ∷ n ∷ c ∷ c' ∷ d ∷ d' ∷ e ∷ []) ≡ any p (t ∷ n ∷ c ∷ c' ∷ d ∷ d' ∷ e ∷ [])
    same-order c c' d d' =
        let l : List ℕ = t ∷ n ∷ c ∷ c' ∷ d ∷ d' ∷ e ∷ [] in
        any_again p e (t ∷ n ∷ l) (has_at (t ∷ n ∷ l) 8 tt) ∙ front t n l (has_at l 0 tt) (has_at l 1 tt)

    first-least : (l : List ℕ) → any p (t ∷ n ∷ t ∷ n ∷ l) ≡ any p (t ∷ n ∷ l)
    first-least l = front t n (t ∷ n ∷ l) (T_or_l (eqb t t) _ (eqb_refl t)) (T_or_r (eqb n t) _ (T_or_l (eqb n n) _ (eqb_refl n)))

    second-least : (c c' : ℕ) → any p (t ∷ n ∷ c ∷ c' ∷ t ∷ n ∷ e ∷ []) ≡ any p (c ∷ c' ∷ t ∷ n ∷ e ∷ [])
    second-least c c' = let l : List ℕ = c ∷ c' ∷ t ∷ n ∷ e ∷ [] in front t n l (has_at l 2 tt) (has_at l 3 tt)

  left_enough : (s t c d : ℕ) → any p (left s t c d) ≡ any p (points s t c d)
  unfolding repeated
  left_enough s t c d = go (ℕ_discrete s t) (ℕ_discrete c t) (ℕ_discrete d t)
    where
      go : Dec (s ≡ t) → Dec (c ≡ t) → Dec (d ≡ t) → any p (left s t c d) ≡ any p (points s t c d)
      go (no n) b h = rw (ne_eqb s t n)
      go (yes a) (yes b) (yes h) =
          rw (a, b, h, eq-eqb t t refl) (sym (same-order t (plus t 1) (minus t 1) t (plus t 1) t (plus t 1) ∙ first-least t (plus t 1) (minus t 1) (t ∷ plus t 1 ∷ minus t 1 ∷ []) ∙ first-least t (plus t 1) (minus t 1) (minus t 1 ∷ [])))
      go (yes a) (yes b) (no h) = rw (a, b, eq-eqb t t refl, ne_eqb d t h) (sym (same-order t (plus t 1) (minus t 1) t (plus t 1) d (plus d 1) ∙ first-least t (plus t 1) (minus t 1) (d ∷ plus d 1 ∷ minus t 1 ∷ [])))
      go (yes a) (no b) (yes h) = rw (a, h, eq-eqb t t refl, ne_eqb c t b) (sym (same-order t (plus t 1) (minus t 1) c (plus c 1) t (plus t 1) ∙ second-least t (plus t 1) (minus t 1) c (plus c 1)))
      go (yes a) (no b) (no h) = rw (a, eq-eqb t t refl, ne_eqb c t b, ne_eqb d t h) (sym (same-order t (plus t 1) (minus t 1) c (plus c 1) d (plus d 1)))

pub with-constant-bound : (f : Operation) → with_constant f ≡ true → f.c ≡ bound f
with-constant-bound f F = rw F

-- the numbers that the code has for the two orders and the two bounds
module _ (f : Operation) (p : Bool) (g : Operation) (q : Bool) {s t c d : ℕ} (S : s ≡ order f) (Z : t ≡ order g) (C : c ≡ bound f) (D : d ≡ bound g) {l : List ℕ}
    (L : l ≡ points s t c d) {k : ℕ} (K : k ≡ repeated s t c d) where
  same_points : points s t c d ≡ points_of f g
  same_points = rw (S, Z, C, D)

  -- the search without the points that stand again
  pub by_left : {z : Seats} {r : Bool} → z ≡ seats f g → r ≡ any (shown_by z f p g q (take (10 - k) (drop k l))) (take (10 - k) (drop k l)) → r ≡ together f p g q
  unfolding together
  by_left b e =
      let m = left s t c d in
      let n = points s t c d in
      let R = shown (seats f g) f p g q in
      e ∙ rw (L, K, b) (any_same (λ x. any (R x) m) (λ x. any (R x) n) (λ x. left_enough (R x) s t c d) m ∙ left_enough (λ x. any (R x) n) s t c d
      ∙ ap (λ (n : List ℕ). any (λ x. any (R x) n) n) same_points)

  -- ---- where both compare one variable with constants
  module _ (F : with_constant f ≡ true) (G : with_constant g ≡ true) where
    all_tried : together f p g q ≡ any (shown_by (seats f g) f p g q l) l
    unfolding together
    all_tried = rw L (ap (λ (m : List ℕ). any (shown_by (seats f g) f p g q m) m) (sym same_points))

    -- a trial shows what its values of the two variables do
    shows : {s : Seats} → seats f g ≡ s → (x y : ℕ) {m n : ℕ} → trial s x y f.a ≡ m → trial s x y g.a ≡ n
        → shown (seats f g) f p g q x y ≡ meets f p m && meets g q n
    unfolding shown holds
    shows e x y a b = rw (e, F, G, a, b)

    seats-one : f.a ≡ g.a → seats f g ≡ joint f.a
    unfolding seats
    seats-one h = rw (F, eq-eqb f.a g.a h)

    trial-one : (x y k : ℕ) → k ≡ f.a → trial (joint f.a) x y k ≡ x
    unfolding trial
    trial-one x y k e = rw (eq-eqb k f.a e)

    -- one variable: the second value does not matter
    one-variable : f.a ≡ g.a → together f p g q ≡ any (meets_both f p g q) l
    one-variable h =
        all_tried ∙ any_same (shown_by (seats f g) f p g q l) (meets_both f p g q)
        (λ x. any_same (shown (seats f g) f p g q x) (λ y. meets_both f p g q x)
        (λ y. shows (seats-one h) x y (trial-one x y f.a refl) (trial-one x y g.a (sym h))) l ∙ only (meets_both f p g q x)) l
      where
        only : (b : Bool) → any (λ (y : ℕ). b) l ≡ b
        only true = rw L
        only false = rw L

    -- the search without the points that stand again
    pub by_one : f.a ≡ g.a → {r : Bool} → r ≡ any (meets_both f p g q) (take (10 - k) (drop k l)) → r ≡ together f p g q
    by_one h e = e ∙ rw (L, K) (left_enough (meets_both f p g q) s t c d) ∙ sym (one-variable h)
