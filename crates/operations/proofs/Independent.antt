-- What one assumption can make of values, and two that have nothing to do with each other. Assumes nothing.
use Rattle.std.proofs.Common.{◌≡◌, ℕ, ◌-◌, ◌^◌, ◌<◌, Bool, true, false, cond, not, ◌&&◌, ◌||◌, T, eqb, ltb, sym, refl, ap, ◌∙◌, subst, ap₂, inl, inr, mod-lt, arith, eqb→eq, ltb→lt, lt→ltb, T_not, pow_pos, eq-eqb, ne_eqb, eqb-true}
use native.Mathlib.Decide.{ℕ_discrete, dec_lt}
use lib.Dec.{not_T}
use borrow.Author.Tests.{not-true, not-false}
use Rattle.base.proofs.Tests.{T_and, T_both, T_or, T_or_l, T_or_r, T_true, is_true}
use Rattle.operations.specs.declared.Operation.{Operation}
use Rattle.operations.specs.Operations.{with_constant, plus, minus, order, key, relation, related, related_in, right, holds}
use Rattle.operations.specs.Trials.{alike, partner, compares, together, never, implies, exclusive}
use Rattle.operations.specs.inner.ShortWays.{fixed, disjoint, independent, can_be_below, can_be_above}
use Rattle.operations.proofs.Order.{Same, Alike, related_same, same_self, key-least, key-second, key_greatest}
use Rattle.operations.proofs.TwoOrders.{order_small}
use Rattle.operations.proofs.Trials.{holds-pair}
use Rattle.operations.proofs.Exact.{Small, alike_self, alike_is, covered_by, found_by}

-- each of two tests passes if the other does
pub both_ways : (a b : Bool) → (T a → T b) → (T b → T a) → a ≡ b
both_ways true b h k = sym (is_true b (h tt))
both_ways false true h k = absurd (k tt)
both_ways false false h k = refl

-- ---- one assumption
module _ (f : Operation) (h : f.c < 2 ^ 32) (p : Bool) where
  abbrev r : ℕ
  r = relation f

  abbrev s : ℕ
  s = order f

  hs : s < 2 ^ 32
  hs = order_small f

  -- values of which va and what it is compared with compare as x and y do
  by : (v : ℕ → ℕ) → Small v → (x y : ℕ) → Same (key s (v f.a)) (key s (right f v)) x y → T (alike p (related r x y)) → T (together f p f p)
  unfolding holds
  by v W x y S t = let e : holds f v ≡ p = related_same r S ∙ alike_is p (related r x y) t in covered_by f f h h v W e e

  -- x for va and y for all others
  abbrev at : ℕ → ℕ → ℕ → ℕ
  at x y k = cond (eqb k f.a) x y

  at_small : (x y : ℕ) → x < 2 ^ 32 → y < 2 ^ 32 → Small (at x y)
  at_small x y hx hy k = go (eqb k f.a)
    where
      go : (b : Bool) → cond b x y < 2 ^ 32
      go true = hx
      go false = hy

  other : T (not (eqb f.a f.b)) → f.b ≡ f.a → ⊥
  other t e = T_not (eqb f.a f.b) t (T_true (eq-eqb f.a f.b (sym e)))

  -- the least value of the order for va, and the next for all others
  under : T (can_be_below f) → Same (key s (at s (plus s 1) f.a)) (key s (right f (at s (plus s 1)))) 0 1
  under t = rw (eq-eqb f.a f.a refl, key-least s hs) (go (with_constant f) t)
    where
      go : (b : Bool) → T (cond b (ltb 0 (key s f.c)) (not (eqb f.a f.b))) → Same 0 (key s (cond b f.c (at s (plus s 1) f.b))) 0 1
      go true t = let l = ltb→lt 0 (key s f.c) t in omega arith
      go false t = rw (ne_eqb f.b f.a (other t), key-second s hs) (omega arith)

  -- the greatest value of the order for va, and the least for all others
  over : T (can_be_above f) → Same (key s (at (minus s 1) s f.a)) (key s (right f (at (minus s 1) s))) 1 0
  over t = rw (eq-eqb f.a f.a refl, key_greatest s hs) (go (with_constant f) t)
    where
      go : (b : Bool) → T (cond b (ltb (key s f.c) (2 ^ 32 - 1)) (not (eqb f.a f.b))) → Same (2 ^ 32 - 1) (key s (cond b f.c (at (minus s 1) s f.b))) 1 0
      go true t = let l = ltb→lt (key s f.c) (2 ^ 32 - 1) t in omega arith
      go false t = rw (ne_eqb f.b f.a (other t), key-least s hs) (omega arith)

  level : Same (key s f.c) (key s (right f (λ _. f.c))) 1 1
  level = go (with_constant f)
    where
      go : (b : Bool) → Same (key s f.c) (key s (cond b f.c f.c)) 1 1
      go true = same_self _ _
      go false = same_self _ _

  -- va is below, above: it can be
  is_under : (v : ℕ → ℕ) → key s (v f.a) < key s (right f v) → T (can_be_below f)
  is_under v = go (with_constant f)
    where
      go : (b : Bool) → key s (v f.a) < key s (cond b f.c (v f.b)) → T (cond b (ltb 0 (key s f.c)) (not (eqb f.a f.b)))
      go true l = lt→ltb 0 (key s f.c) (omega arith)
      go false l = not_T (eqb f.a f.b) (λ t. let e = ap (λ (k : ℕ). key s (v k)) (eqb→eq f.a f.b t) in omega arith)

  is_over : (v : ℕ → ℕ) → key s (right f v) < key s (v f.a) → T (can_be_above f)
  is_over v = go (with_constant f)
    where
      go : (b : Bool) → key s (cond b f.c (v f.b)) < key s (v f.a) → T (cond b (ltb (key s f.c) (2 ^ 32 - 1)) (not (eqb f.a f.b)))
      go true l = let u : key s (v f.a) < 2 ^ 32 = mod-lt _ (pow_pos 32) in lt→ltb (key s f.c) (2 ^ 32 - 1) (omega arith)
      go false l = not_T (eqb f.a f.b) (λ t. let e = ap (λ (k : ℕ). key s (v k)) (eqb→eq f.a f.b t) in omega arith)

  -- values that meet f as p says show that any two in the order of va and what it is compared with do
  as_met : (v : ℕ → ℕ) → holds f v ≡ p → (x y : ℕ) → Same (key s (v f.a)) (key s (right f v)) x y → T (alike p (related r x y))
  unfolding holds
  as_met v e x y S = rw (sym (related_same r S) ∙ e) (alike_self p)

  abbrev B : Bool
  B = can_be_below f && alike p (related r 0 1)

  abbrev E : Bool
  E = alike p (related r 1 1)

  abbrev A : Bool
  A = can_be_above f && alike p (related r 1 0)

  -- so it is met as p says, below, at or above
  pub possible-is : (B || E) || A ≡ together f p f p
  possible-is = both_ways ((B || E) || A) (together f p f p) there back
    where
      there : T ((B || E) || A) → T (together f p f p)
      there t = elim (T_or (B || E) A t) [
        | inl u ↦ elim (T_or B E u) [
          | inl w ↦
              let (m, n) = T_and (can_be_below f) (alike p (related r 0 1)) w in
              by (at s (plus s 1)) (at_small s (plus s 1) hs (mod-lt _ (pow_pos 32))) 0 1 (under m) n
          | inr w ↦ by (λ _. f.c) (λ _. h) 1 1 level w
        ]
        | inr u ↦
            let (m, n) = T_and (can_be_above f) (alike p (related r 1 0)) u in
            by (at (minus s 1) s) (at_small (minus s 1) s (mod-lt _ (pow_pos 32)) hs) 1 0 (over m) n
      ]

      back : T (together f p f p) → T ((B || E) || A)
      back t =
          let (v, W, e, e') = found_by f f h h p p t in
          let x = key s (v f.a) in
          let y = key s (right f v) in
          elim (ℕ_discrete x y) [
            | yes q ↦ T_or_l (B || E) A (T_or_r B E (as_met v e 1 1 (omega arith)))
            | no n ↦ elim (dec_lt x y) [
              | yes l ↦ T_or_l (B || E) A (T_or_l B E (T_both (can_be_below f) _ (is_under v l) (as_met v e 0 1 (omega arith))))
              | no m ↦ T_or_r (B || E) A (T_both (can_be_above f) _ (is_over v (omega arith)) (as_met v e 1 0 (omega arith)))
            ]
          ]

-- ---- two that have nothing to do with each other
-- values that agree on what f compares
agreeing : (f : Operation) (e v : ℕ → ℕ) → e f.a ≡ v f.a → e (partner f) ≡ v (partner f) → holds f e ≡ holds f v
unfolding holds
agreeing f e v p q = go (with_constant f) q
  where
    by : ℕ → ℕ → Bool
    by = related_in (order f) (relation f)

    go : (b : Bool) → e (cond b f.a f.b) ≡ v (cond b f.a f.b) → by (e f.a) (cond b f.c (e f.b)) ≡ by (v f.a) (cond b f.c (v f.b))
    go true q = ap (λ (x : ℕ). by x f.c) p
    go false q = ap₂ by p q

-- a variable compared with itself
unmoved : (f : Operation) → T (fixed f) → (e v : ℕ → ℕ) → holds f e ≡ holds f v
unmoved f t e v =
    let (m, n) = T_and (not (with_constant f)) (eqb f.a f.b) t in
    let q = eqb→eq f.a f.b n in
    holds-pair f e v (not-true (with_constant f) (is_true _ m)) (subst (λ (k : ℕ). Alike (order f) (e f.a) (e k) (v f.a) (v k)) q (same_self _ _))

module _ (f g : Operation) (hf : f.c < 2 ^ 32) (hg : g.c < 2 ^ 32) (p q : Bool) where
  -- g's variables as in w, all others as in v
  mixed : T (disjoint f g) → (v w : ℕ → ℕ) → Small v → Small w → holds f v ≡ p → holds g w ≡ q → T (together f p g q)
  mixed t v w Z W a b =
      let (m, n) = T_and (not (compares g f.a)) (not (compares g (partner f))) t in
      covered_by f g hf hg u small
      (agreeing f u v (rw (not-true (compares g f.a) (is_true _ m))) (rw (not-true (compares g (partner f)) (is_true _ n))) ∙ a)
      (agreeing g u w (rw (eq-eqb g.a g.a refl)) (rw last) ∙ b)
    where
      u : ℕ → ℕ
      u k = cond (compares g k) (w k) (v k)

      small : Small u
      small k = go (compares g k)
        where
          go : (b : Bool) → cond b (w k) (v k) < 2 ^ 32
          go true = W k
          go false = Z k

      last : compares g (partner g) ≡ true
      last = is_true _ (T_or_r (eqb (partner g) g.a) (eqb (partner g) (partner g)) (T_true (eq-eqb (partner g) (partner g) refl)))

  pub apart-is : independent f g ≡ true → together f p f p && together g q g q ≡ together f p g q
  unfolding independent
  apart-is i = both_ways (together f p f p && together g q g q) (together f p g q) there back
    where
      there : T (together f p f p && together g q g q) → T (together f p g q)
      there t =
          let (m, n) = T_and (together f p f p) (together g q g q) t in
          let (v, Z, a, _) = found_by f f hf hf p p m in
          let (w, W, b, _) = found_by g g hg hg q q n in
          elim (T_or (disjoint f g || fixed f) (fixed g) (T_true i)) [
            | inl k ↦ elim (T_or (disjoint f g) (fixed f) k) [
              | inl d ↦ mixed d v w Z W a b
              | inr s ↦ covered_by f g hf hg w W (unmoved f s w v ∙ a) b
            ]
            | inr s ↦ covered_by f g hf hg v Z a (unmoved g s v w ∙ b)
          ]

      back : T (together f p g q) → T (together f p f p && together g q g q)
      back t =
          let (v, Z, a, b) = found_by f g hf hg p q t in
          T_both (together f p f p) (together g q g q) (covered_by f f hf hf v Z a a) (covered_by g g hg hg v Z b b)

-- exactly one of two that have nothing to do with each other
pub apart-one : (f g : Operation) → f.c < 2 ^ 32 → g.c < 2 ^ 32 → independent f g ≡ true
    → not (together f true f true && together g true g true) && not (together f false f false && together g false g false) ≡ exclusive f g
apart-one f g hf hg i = rw (apart-is f g hf hg true true i, apart-is f g hf hg false false i)

-- what f, which some values meet, implies that has nothing to do with it: only what always holds
pub apart-implies : (f g : Operation) → f.c < 2 ^ 32 → g.c < 2 ^ 32 → independent f g ≡ true → never f ≡ false → not (together g false g false) ≡ implies f g
apart-implies f g hf hg i n = rw (← apart-is f g hf hg true false i, not-false (together f true f true) n)

-- two comparisons with constants that are not independent compare one variable
pub one_shared : (f g : Operation) → independent f g ≡ false → with_constant f ≡ true → with_constant g ≡ true → f.a ≡ g.a
unfolding independent
one_shared f g i F G = go (eqb f.a g.a) refl
  where
    go : (b : Bool) → eqb f.a g.a ≡ b → f.a ≡ g.a
    go true e = eqb-true f.a g.a e
    go false e = let z : true ≡ false = rw (F, G, e) at i in absurd (T_true (sym z))
