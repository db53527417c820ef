-- Whatever two assumptions make of some values, they make of a trial. Assumes nothing.
use Rattle.std.proofs.Common.{◌≡◌, ℕ, ◌^◌, ◌<◌, Bool, true, false, cond, not, ◌&&◌, T, eqb, ◌≢◌, ◌⊎◌, List, sym, refl, ap, ◌∙◌, subst, subst₂, inl, inr, mod-lt, arith, eqb→eq, T_not, pow_pos, eq-eqb, ne_eqb}
use native.Mathlib.Decide.{ℕ_discrete}
use Rattle.std.specs.Prelude.{Some}
use Rattle.operations.specs.declared.Operation.{Operation}
use Rattle.operations.specs.declared.inner.trials.Seats.{Seats}
use Rattle.operations.specs.Operations.{with_constant, plus, minus, order, holds}
use Rattle.operations.specs.Trials.{partner, compares, inside, own, joint, seats, trial, bound, points_of}
use Rattle.base.proofs.Tests.{T_and, T_or, T_or_r}
use Rattle.base.proofs.Lists.{has, All}
use Rattle.operations.proofs.Order.{Alike, related_same, same_flip, same_self, beside, Point, Ends, below, Stand, stand, ends_s, ends_t, point_c, point_d}
use Rattle.operations.proofs.TwoOrders.{order_small, inside_both}

-- ---- what an assumption depends on
module _ (f : Operation) (e v : ℕ → ℕ) where
  holds-with_constant : with_constant f ≡ true → Alike (order f) (e f.a) f.c (v f.a) f.c → holds f e ≡ holds f v
  unfolding holds
  holds-with_constant q A = rw q (related_same _ A)

  pub holds-pair : with_constant f ≡ false → Alike (order f) (e f.a) (e f.b) (v f.a) (v f.b) → holds f e ≡ holds f v
  unfolding holds
  holds-pair q A = rw q (related_same _ A)

-- k is a variable that f compares
Compares : Operation → ℕ → Type 0
Compares f k = (k ≡ f.a) ⊎ (k ≡ partner f)

compares-is : (f : Operation) (k : ℕ) → T (compares f k) → Compares f k
unfolding Compares
compares-is f k t = elim (T_or (eqb k f.a) (eqb k (partner f)) t) [ inl p ↦ inl (eqb→eq _ _ p) | inr p ↦ inr (eqb→eq _ _ p) ]

compares_not : (f : Operation) (k : ℕ) → T (not (compares f k)) → Compares f k → ⊥
unfolding Compares
compares_not f k t (inl p) = T_not (compares f k) t (rw (eq-eqb k f.a p) tt)
compares_not f k t (inr p) = T_not (compares f k) t (T_or_r (eqb k f.a) (eqb k (partner f)) (rw (eq-eqb k (partner f) p) tt))

-- a trial of f and g, with x and y of the points, does as the values do
pub record Tried (l : List ℕ) (f g : Operation) (v : ℕ → ℕ) (t : Seats) : Type 0 where
  pub x : ℕ
  pub y : ℕ
  pub x_in : T (has l x)
  pub y_in : T (has l y)
  pub same_f : holds f (trial t x y) ≡ holds f v
  pub same_g : holds g (trial t x y) ≡ holds g v

tried_swap : {l : List ℕ} {f g : Operation} {v : ℕ → ℕ} {t : Seats} → Tried l f g v t → Tried l g f v t
tried_swap R = record { x = R.x; y = R.y; x_in = R.x_in; y_in = R.y_in; same_f = R.same_g; same_g = R.same_f }

-- ---- one assumption inside the other: x at i and y at all others

-- m stands for n: x for u, or y for w
data Seat (x u y w : ℕ) : ℕ → ℕ → Type 0 where
  at_x : Seat x u y w x u
  at_y : Seat x u y w y w

-- s is one of the two orders in which an x and y stand for two values
data OneOf (s t : ℕ) : ℕ → Type 0 where
  the_first : OneOf s t s
  the_second : OneOf s t t

module _ {l : List ℕ} {s t : ℕ} (E : Ends l s) (F : Ends l t) (v : ℕ → ℕ) (i j : ℕ) (S : Stand l s t (v i) (v j)) where
  abbrev Seated : ℕ → ℕ → Type 0
  Seated m n = Seat S.x (v i) S.y (v j) m n

  paired : (k : ℕ) → OneOf s t k → Alike k S.x S.y (v i) (v j)
  paired k the_first = S.pair.0
  paired k the_second = S.pair.1

  ends_of : (k : ℕ) → OneOf s t k → Ends l k
  ends_of k the_first = E
  ends_of k the_second = F

  seats-alike : (k : ℕ) → OneOf s t k → {m n m' n' : ℕ} → Seated m n → Seated m' n' → Alike k m m' n n'
  seats-alike k o at_x at_x = same_self _ _
  seats-alike k o at_x at_y = paired k o
  seats-alike k o at_y at_x = same_flip (paired k o)
  seats-alike k o at_y at_y = same_self _ _

  seat : (k : ℕ) → (k ≡ i) ⊎ (k ≡ j) → Seated (trial (joint i) S.x S.y k) (v k)
  unfolding trial
  seat k p = go (ℕ_discrete k i) p
    where
      go : Dec (k ≡ i) → (k ≡ i) ⊎ (k ≡ j) → Seated (trial (joint i) S.x S.y k) (v k)
      go (yes e) q = rw (eq-eqb k i e) (subst (Seated S.x) (ap v (sym e)) at_x)
      go (no n) (inl e) = absurd (n e)
      go (no n) (inr e) = rw (ne_eqb k i n) (subst (Seated S.y) (ap v (sym e)) at_y)

  -- an assumption over vi and vj alone, in one of the two orders, which compares vi if it compares one with c
  fits : (f : Operation) → OneOf s t (order f) → Point l (bound f) → (f.a ≡ i) ⊎ (f.a ≡ j) → (partner f ≡ i) ⊎ (partner f ≡ j) → (T (with_constant f) → f.a ≡ i)
      → holds f (trial (joint i) S.x S.y) ≡ holds f v
  unfolding trial
  fits f o P p r n = go (with_constant f) refl P r n
    where
      go : (b : Bool) → with_constant f ≡ b → Point l (cond b f.c (order f)) → (cond b f.a f.b ≡ i) ⊎ (cond b f.a f.b ≡ j) → (T b → f.a ≡ i)
          → holds f (trial (joint i) S.x S.y) ≡ holds f v
      go true q P r n = holds-with_constant f _ v q (rw (eq-eqb f.a i (n tt), n tt) (S.alike f.c P (order f) (ends_of (order f) o)))
      go false q P r n = holds-pair f _ v q (seats-alike (order f) o (seat f.a p) (seat f.b r))

module _ (l : List ℕ) (v : ℕ → ℕ) (small : (k : ℕ) → v k < 2 ^ 32) where
  -- j is the other variable that g compares
  joined : (f g : Operation) → Ends l (order f) → Ends l (order g) → Point l (bound f) → Point l (bound g)
      → Compares g f.a → Compares g (partner f) → Tried l f g v (joint f.a)
  unfolding Compares
  joined f g E F P Q p q = go p q
    where
      by : (j : ℕ) → (partner f ≡ f.a) ⊎ (partner f ≡ j) → (g.a ≡ f.a) ⊎ (g.a ≡ j) → (partner g ≡ f.a) ⊎ (partner g ≡ j)
          → (T (with_constant g) → g.a ≡ f.a) → Tried l f g v (joint f.a)
      by j p q r n =
          let S = stand l (order f) (order g) E F (v f.a) (v j) (small f.a) (small j) in
          record {
            x = S.x;
            y = S.y;
            x_in = S.x_in;
            y_in = S.y_in;
            same_f = fits E F v f.a j S f the_first P (inl refl) p (λ _. refl);
            same_g = fits E F v f.a j S g the_second Q q r n;
          }

      first : (b : Bool) → T b → f.a ≡ cond b g.a g.b → g.a ≡ f.a
      first true t p = sym p
      first false t p = absurd t

      go : Compares g f.a → Compares g (partner f) → Tried l f g v (joint f.a)
      go (inl p) q = by (partner g) (elim q [ inl r ↦ inl (r ∙ sym p) | inr r ↦ inr r ]) (inl (sym p)) (inr refl) (λ _. sym p)
      go (inr p) q = by g.a (elim q [ inl r ↦ inr r | inr r ↦ inl (r ∙ sym p) ]) (inr refl) (inl (sym p)) (λ t. first (with_constant g) t p)

  -- ---- each with a variable of its own
  -- with x at variable i of f and z at its other one, f does as the values do
  record Alone (z : ℕ) (f : Operation) (i : ℕ) : Type 0 where
    x : ℕ
    x_in : T (has l x)
    does : (e : ℕ → ℕ) → e i ≡ x → ((k : ℕ) → Compares f k → k ≢ i → e k ≡ z) → holds f e ≡ holds f v

  -- z is a point, and at no end of the order from s on
  module _ (z : ℕ) (hz : z < 2 ^ 32) (z-in : T (has l z)) where
    -- a point that compares with z as u does with w
    beside_z : (s : ℕ) → Ends l s → z ≢ s → z ≢ minus s 1 → (u w : ℕ) → (x : ℕ) × T (has l x) × Alike s x z u w
    beside_z s E n m u w = elim (beside s E.least.small z u w hz n m) [
      | inl (inl A) ↦ (s, E.least.this, A)
      | inl (inr A) ↦ (z, z-in, A)
      | inr A ↦ (minus s 1, E.greatest.this, A)
    ]

    alone : (f : Operation) → Ends l (order f) → z ≢ order f → z ≢ minus (order f) 1 → Point l (bound f) → (i : ℕ) → Compares f i → Alone z f i
    unfolding Compares
    alone f E n m P i r = go (with_constant f) refl P (ℕ_discrete f.a f.b) r
      where
        go : (b : Bool) → with_constant f ≡ b → Point l (cond b f.c (order f)) → Dec (f.a ≡ f.b) → (i ≡ f.a) ⊎ (i ≡ cond b f.a f.b) → Alone z f i
        go true q P h r =
            let k : i ≡ f.a = elim r [ inl p ↦ p | inr p ↦ p ] in
            let B = below l (order f) E (v f.a) (small f.a) in
            record { x = B.x; x_in = B.x_in; does = λ e p n. holds-with_constant f e v q (rw (← k, p) (rw k (B.alike f.c P (order f) E))) }
        go false q P (yes h) r =
            record {
              x = z;
              x_in = z-in;
              does = λ e p n. holds-pair f e v q (subst (λ (k : ℕ). Alike (order f) (e f.a) (e k) (v f.a) (v k)) h (same_self _ _));
            }
        go false q P (no h) (inl r) =
            let (x, t, A) = beside_z (order f) E n m (v f.a) (v f.b) in
            record {
              x = x;
              x_in = t;
              does = λ e p n. holds-pair f e v q (subst₂ (λ (k m : ℕ). Alike (order f) k m (v f.a) (v f.b))
                  (sym (ap e (sym r) ∙ p)) (sym (n f.b (inr (rw q)) (λ z. h (sym (z ∙ r))))) A);
            }
        go false q P (no h) (inr r) =
            let (x, t, A) = beside_z (order f) E n m (v f.b) (v f.a) in
            record {
              x = x;
              x_in = t;
              does = λ e p n. holds-pair f e v q (subst₂ (λ (k m : ℕ). Alike (order f) k m (v f.a) (v f.b))
                  (sym (n f.a (inl refl) (λ z. h (z ∙ r)))) (sym (ap e (sym r) ∙ p)) (same_flip A));
            }

module _ (i j z x y : ℕ) where
  abbrev loose : Seats
  loose = record { first = i; second = j; rest = Some z }

  trial-first : trial loose x y i ≡ x
  unfolding trial
  trial-first = rw (eq-eqb i i refl)

  trial-second : j ≢ i → trial loose x y j ≡ y
  unfolding trial
  trial-second n = rw (ne_eqb j i n, eq-eqb j j refl)

  trial-rest : (k : ℕ) → k ≢ i → k ≢ j → trial loose x y k ≡ z
  unfolding trial
  trial-rest k n m = rw (ne_eqb k i n, ne_eqb k j m)

-- f compares it, and g does not
own-own : (f g : Operation) → T (not (inside f g)) → Compares f (own f g) × (Compares g (own f g) → ⊥)
unfolding Compares
own-own f g t = go (compares g f.a) refl t
  where
    go : (b : Bool) → compares g f.a ≡ b → T (not (b && compares g (partner f))) → Compares f (cond b (partner f) f.a) × (Compares g (cond b (partner f) f.a) → ⊥)
    go true q t = (inr refl, compares_not g (partner f) t)
    go false q t = (inl refl, compares_not g f.a (rw q tt))

-- ---- all three cases
pub bound-small : (f : Operation) → f.c < 2 ^ 32 → bound f < 2 ^ 32
bound-small f h = go (with_constant f)
  where
    go : (b : Bool) → cond b f.c (order f) < 2 ^ 32
    go true = h
    go false = order_small f

pub points-small : (f g : Operation) → bound f < 2 ^ 32 → bound g < 2 ^ 32 → All (λ x. x < 2 ^ 32) (points_of f g)
points-small f g c d =
    let s = order_small f in
    let t = order_small g in
    omega arith

module _ (f g : Operation) (hf : f.c < 2 ^ 32) (hg : g.c < 2 ^ 32) (v : ℕ → ℕ) (small : (k : ℕ) → v k < 2 ^ 32) where
  abbrev P : List ℕ
  P = points_of f g

  abbrev z : ℕ
  z = plus (order f) 1

  pub tried : Tried P f g v (seats f g)
  unfolding seats
  tried = go (inside f g) (inside g f) refl refl
    where
      E : Ends P (order f)
      E = ends_s _ _ _ _ (order_small f)

      E' : Ends P (order g)
      E' = ends_t (order f) (order g) (bound f) (bound g) (order_small g)

      F : Point P (bound f)
      F = point_c (order f) (order g) (bound f) (bound g) (bound-small f hf)

      G : Point P (bound g)
      G = point_d (order f) (order g) (bound f) (bound g) (bound-small g hg)

      go : (b d : Bool) → inside f g ≡ b → inside g f ≡ d
          → Tried P f g v (cond b (joint f.a) (cond d (joint g.a) (record { first = own f g; second = own g f; rest = Some z })))
      go true d q r =
          let (m, n) = T_and (compares g f.a) (compares g (partner f)) (rw q tt) in
          joined P v small f g E E' F G (compares-is g f.a m) (compares-is g (partner f) n)
      go false true q r =
          let (m, n) = T_and (compares f g.a) (compares f (partner g)) (rw r tt) in
          tried_swap (joined P v small g f E' E G F (compares-is f g.a m) (compares-is f (partner g) n))
      go false false q r =
          let (mf, nf) = own-own f g (rw q tt) in
          let (mg, ng) = own-own g f (rw r tt) in
          let hz : z < 2 ^ 32 = mod-lt _ (pow_pos 32) in
          let M = alone P v small z hz E.least.next f E (inside_both f f).0 (inside_both f f).1 F (own f g) mf in
          let N = alone P v small z hz E.least.next g E' (inside_both f g).0 (inside_both f g).1 G (own g f) mg in
          record {
            x = M.x;
            y = N.x;
            x_in = M.x_in;
            y_in = N.x_in;
            same_f = M.does _ (trial-first _ _ _ _ _) (λ k h n. trial-rest _ _ _ _ _ k n (λ e. ng (subst (Compares f) e h)));
            same_g = N.does _ (trial-second _ _ _ _ _ (λ e. nf (subst (Compares g) e mg))) (λ k h n. trial-rest _ _ _ _ _ k (λ e. nf (subst (Compares g) e h)) n);
          }
