-- Where neither of two assumptions has a constant, only the order of two values matters. Assumes nothing.
use Rattle.std.proofs.Common.{◌≡◌, ℕ, ◌^◌, ◌<◌, Bool, true, false, cond, not, ◌&&◌, ◌||◌, T, eqb, List, inl, inr}
use borrow.Author.Tests.{not-true}
use Rattle.base.proofs.Tests.{T_or, T_or_l, T_or_r, and_true}
use Rattle.base.specs.Lists.{any}
use Rattle.base.proofs.Lists.{has, has_at, any_at, any_all}
use Rattle.operations.specs.declared.Operation.{Operation}
use Rattle.operations.specs.Operations.{with_constant, plus, order, holds}
use Rattle.operations.specs.Trials.{joint, inside, seats, trial, points_of, shown, together}
use Rattle.operations.specs.inner.ShortWays.{paired}
use Rattle.operations.proofs.Order.{Alike, same_self, same_flip, five}
use Rattle.operations.proofs.TwoOrders.{order_small, inside_both}
use Rattle.operations.proofs.Trials.{holds-pair, points-small}
use Rattle.operations.proofs.Independent.{both_ways}

-- with other values in the same order, f does the same
reordered : (f : Operation) (i x y u w : ℕ) → with_constant f ≡ false → Alike (order f) x y u w → holds f (trial (joint i) x y) ≡ holds f (trial (joint i) u w)
unfolding trial
reordered f i x y u w n S = holds-pair f _ _ n (go (eqb f.a i) (eqb f.b i))
  where
    go : (a b : Bool) → Alike (order f) (cond a x (cond a y y)) (cond b x (cond b y y)) (cond a u (cond a w w)) (cond b u (cond b w w))
    go true true = same_self _ _
    go true false = S
    go false true = same_flip S
    go false false = same_self _ _

module _ (f : Operation) (p : Bool) (g : Operation) (q : Bool) (k : paired f g ≡ true) where
  abbrev l : List ℕ
  l = points_of f g

  abbrev s : ℕ
  s = order f

  abbrev t : ℕ
  t = order g

  -- the number after the least one of f's order
  abbrev e : ℕ
  e = plus s 1

  abbrev seen : ℕ → ℕ → Bool
  seen x y = shown (joint f.a) f p g q x y

  parts : (with_constant f ≡ false) × (with_constant g ≡ false) × (inside f g ≡ true)
  parts =
      let (m, n) = and_true (not (with_constant f) && not (with_constant g)) (inside f g) k in
      let (a, b) = and_true (not (with_constant f)) (not (with_constant g)) m in
      (not-true _ a, not-true _ b, n)

  -- two values of a trial in the order of two others, by f's order and by g's
  seen_same : (x y u w : ℕ) → Alike s x y u w × Alike t x y u w → T (seen x y) → T (seen u w)
  unfolding shown
  seen_same x y u w (S, R) h = rw (← reordered f f.a x y u w parts.0 S, ← reordered g f.a x y u w parts.1 R) h

  -- below, at and above; and below in the one order, above in the other
  abbrev tried_2 : Bool
  tried_2 = seen s e || seen s s

  abbrev tried_3 : Bool
  tried_3 = tried_2 || seen e s

  abbrev tried_4 : Bool
  tried_4 = tried_3 || seen s t

  abbrev shows : Bool
  shows = tried_4 || seen t s

  pub orders_is : together f p g q ≡ shows
  unfolding together seats
  orders_is = rw parts.2 (both_ways (any (λ x. any (seen x) l) l) shows back there)
    where
      by : (x y : ℕ) → T (has l x) → T (has l y) → T (seen x y) → T (any (λ x. any (seen x) l) l)
      by x y m n h = any_at (λ x. any (seen x) l) l x m (any_at (seen x) l y n h)

      s_in : T (has l s)
      s_in = has_at l 1 tt

      e_in : T (has l e)
      e_in = has_at l 2 tt

      t_in : T (has l t)
      t_in = has_at l 3 tt

      there : T shows → T (any (λ x. any (seen x) l) l)
      there h = elim (T_or tried_4 (seen t s) h) [
        | inl h ↦ elim (T_or tried_3 (seen s t) h) [
          | inl h ↦ elim (T_or tried_2 (seen e s) h) [
            | inl h ↦ elim (T_or (seen s e) (seen s s) h) [ inl h ↦ by s e s_in e_in h | inr h ↦ by s s s_in s_in h ]
            | inr h ↦ by e s e_in s_in h
          ]
          | inr h ↦ by s t s_in t_in h
        ]
        | inr h ↦ by t s t_in s_in h
      ]

      back : T (any (λ x. any (seen x) l) l) → T shows
      back h =
          let S = points-small f g (rw parts.0 (order_small f)) (rw parts.1 (order_small g)) in
          let (x, hx, i) = any_all (λ x. any (seen x) l) (λ x. x < 2 ^ 32) l S h in
          let (y, hy, j) = any_all (seen x) (λ x. x < 2 ^ 32) l S i in
          elim (five s t (order_small f) (order_small g) (inside_both f g).0 x y hx hy) [
            | inl (inl (inl (inl A))) ↦ T_or_l tried_4 (seen t s) (T_or_l tried_3 (seen s t) (T_or_l tried_2 (seen e s) (T_or_l (seen s e) (seen s s) (seen_same x y s e A j))))
            | inl (inl (inl (inr A))) ↦ T_or_l tried_4 (seen t s) (T_or_l tried_3 (seen s t) (T_or_l tried_2 (seen e s) (T_or_r (seen s e) (seen s s) (seen_same x y s s A j))))
            | inl (inl (inr A)) ↦ T_or_l tried_4 (seen t s) (T_or_l tried_3 (seen s t) (T_or_r tried_2 (seen e s) (seen_same x y e s A j)))
            | inl (inr A) ↦ T_or_l tried_4 (seen t s) (T_or_r tried_3 (seen s t) (seen_same x y s t A j))
            | inr A ↦ T_or_r tried_4 (seen t s) (seen_same x y t s A j)
          ]
