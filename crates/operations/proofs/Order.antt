-- Few values stand for all: how values compare with each other and with constants, in any order. Assumes nothing.
use Rattle.std.proofs.Common.{◌≡◌, ℕ, zero, suc, ◌+◌, ◌-◌, ◌%◌, ◌^◌, ◌<◌, ◌≤◌, Bool, true, false, ◌&&◌, ◌||◌, T, eqb, ltb, ◌≢◌, ◌⊎◌, List, [], ◌∷◌, get_or, sym, refl, ap, ◌∙◌, subst, inl, inr, arith, le-ltb, lt-ltb, eq-eqb, ne_eqb}
use native.Mathlib.Decide.{ℕ_discrete, dec_lt}
use Rattle.std.proofs.lemmas.Grind.{common_steps}
use Rattle.operations.specs.Operations.{plus, minus, key, related}
use Rattle.operations.specs.Trials.{points}
use Rattle.base.proofs.Tests.{or_none}
use Rattle.base.proofs.Lists.{has, has_at, Out, in_or_out, out_not}

-- ---- a and b compare as u and w do
pub record Same (a b u w : ℕ) : Type 0 where
  pub lt : a < b → u < w
  pub eq : a ≡ b → u ≡ w
  pub gt : b < a → w < u

-- which relations hold of a number and one above it, an equal one, one below it
abbrev pub below-table : List Bool
below-table = false ∷ true ∷ true ∷ true ∷ false ∷ false ∷ []

abbrev pub equal_table : List Bool
equal_table = true ∷ false ∷ false ∷ true ∷ false ∷ true ∷ []

abbrev pub above-table : List Bool
above-table = false ∷ true ∷ false ∷ false ∷ true ∷ true ∷ []

module _ (r a b : ℕ) where
  pub related_lt : a < b → related r a b ≡ get_or below-table r false
  unfolding related
  related_lt h = grind (arith, common_steps)

  pub related-eq : a ≡ b → related r a b ≡ get_or equal_table r false
  unfolding related
  related-eq h = grind (arith, common_steps)

  pub related_gt : b < a → related r a b ≡ get_or above-table r false
  unfolding related
  related_gt h = grind (arith, common_steps)

pub related_same : (r : ℕ) {a b u w : ℕ} → Same a b u w → related r a b ≡ related r u w
related_same r {a} {b} {u} {w} S = go (ℕ_discrete a b) (dec_lt a b)
  where
    go : Dec (a ≡ b) → Dec (a < b) → related r a b ≡ related r u w
    go (yes e) l = related-eq r a b e ∙ sym (related-eq r u w (S.eq e))
    go (no n) (yes l) = related_lt r a b l ∙ sym (related_lt r u w (S.lt l))
    go (no n) (no l) = related_gt r a b (omega arith) ∙ sym (related_gt r u w (S.gt (omega arith)))

-- ---- a relation by what it says of 0 and 1, of 1 and 1, of 1 and 0
pub related-is : (r x y : ℕ) → ((ltb x y && related r 0 1) || (eqb x y && related r 1 1)) || (ltb y x && related r 1 0) ≡ related r x y
related-is r x y = go (ℕ_discrete x y) (dec_lt x y)
  where
    go : Dec (x ≡ y) → Dec (x < y) → ((ltb x y && related r 0 1) || (eqb x y && related r 1 1)) || (ltb y x && related r 1 0) ≡ related r x y
    go (yes e) l = rw (le-ltb x y (omega arith), eq-eqb x y e, le-ltb y x (omega arith)) (or_none (related r 1 1) ∙ related_same r (omega arith))
    go (no n) (yes l) =
        rw (lt-ltb x y l, ne_eqb x y n, le-ltb y x (omega arith))
        (or_none (related r 0 1 || false) ∙ or_none (related r 0 1) ∙ related_same r (omega arith))
    go (no n) (no l) = rw (le-ltb x y (omega arith), ne_eqb x y n, lt-ltb y x (omega arith)) (related_same r (omega arith))

-- x and y compare as u and w do, in the order from s on
abbrev pub Alike : ℕ → ℕ → ℕ → ℕ → ℕ → Type 0
Alike s x y u w = Same (key s x) (key s y) (key s u) (key s w)

pub same_trans : {a b c d e f : ℕ} → Same a b c d → Same c d e f → Same a b e f
same_trans S R = record { lt = λ h. R.lt (S.lt h); eq = λ h. R.eq (S.eq h); gt = λ h. R.gt (S.gt h) }

pub same_flip : {a b u w : ℕ} → Same a b u w → Same b a w u
same_flip S = record { lt = S.gt; eq = λ h. sym (S.eq (sym h)); gt = S.lt }

pub same_self : (a u : ℕ) → Same a a u u
same_self a u = omega arith

-- ---- one order, from s on
module _ (s : ℕ) (hs : s < 2 ^ 32) where
  -- x is found at its distance from s
  from-least : (x : ℕ) → x < 2 ^ 32 → plus s (key s x) ≡ x
  from-least x h = omega arith

  -- one place in the order, one value
  pub key_one : (x y : ℕ) → x < 2 ^ 32 → y < 2 ^ 32 → key s x ≡ key s y → x ≡ y
  key_one x y hx hy e = sym (from-least x hx) ∙ ap (plus s) e ∙ from-least y hy

  pub key-least : key s s ≡ 0
  key-least = omega arith

  pub key-second : key s (plus s 1) ≡ 1
  key-second = omega arith

  pub key_greatest : key s (minus s 1) ≡ 2 ^ 32 - 1
  key_greatest = omega arith

  pub key-next : (x : ℕ) → x < 2 ^ 32 → plus x 1 ≢ s → key s (plus x 1) ≡ key s x + 1
  key-next x h n = omega arith

  key_before : (x : ℕ) → x < 2 ^ 32 → 0 < key s x → key s (minus x 1) ≡ key s x - 1
  key_before x h l = omega arith

  -- from x to the next value, a comparison with c changes only at s, at c and past c
  steady : (x c : ℕ) → x < 2 ^ 32 → c < 2 ^ 32 → plus x 1 ≢ s → plus x 1 ≢ c → plus x 1 ≢ plus c 1 → Alike s x c (plus x 1) c
  steady x c hx hc n m k =
      rw (key-next x hx n) (by (key s x) (key s c)
      (λ e. m (key_one (plus x 1) c (omega arith) hc (key-next x hx n ∙ e))) (λ e. k (ap (λ (z : ℕ). plus z 1) (key_one x c hx hc e))))
    where
      by : (a b : ℕ) → a + 1 ≢ b → a ≢ b → Same a b (a + 1) b
      by a b m n = omega arith

  -- any two compare as an end, or z itself, does with a z that is no end
  pub beside : (z u w : ℕ) → z < 2 ^ 32 → z ≢ s → z ≢ minus s 1 → (Alike s s z u w ⊎ Alike s z z u w) ⊎ Alike s (minus s 1) z u w
  beside z u w h n m =
      rw (key-least, key_greatest) (by (key s z) (key s u) (key s w) (omega arith)
      (λ e. n (key_one z s h hs (e ∙ sym key-least))) (λ e. m (key_one z (minus s 1) h (omega arith) (e ∙ sym key_greatest))))
    where
      by : (c a b : ℕ) → c < 2 ^ 32 → c ≢ 0 → c ≢ 2 ^ 32 - 1 → (Same 0 c a b ⊎ Same c c a b) ⊎ Same (2 ^ 32 - 1) c a b
      by c a b h m n = elim (ℕ_discrete a b) [
        | yes e ↦ inl (inr (omega arith))
        | no k ↦ elim (dec_lt a b) [ yes l ↦ inl (inl (omega arith)) | no l ↦ inr (omega arith) ]
      ]

-- ---- two orders: where a, b and m stand in the first for two values and the least of the second
module _ (m a b : ℕ) (hm : m < 2 ^ 32) (ha : a < 2 ^ 32) (hb : b < 2 ^ 32) where
  -- in both orders a compares with e as with b
  abbrev Both : ℕ → Type 0
  Both e = Same a e a b × Same (minus a m) (minus e m) (minus a m) (minus b m)

  -- an end of an order stands for b: the last before m, the last of all, the first, m
  to_before_m : a < b → b < m → Both (m - 1)
  to_before_m l h = (omega arith, omega arith)

  to_last : a < b → m ≤ b → Both (2 ^ 32 - 1)
  to_last l h = (omega arith, omega arith)

  to-first : b < a → b < m → Both 0
  to-first l h = (omega arith, omega arith)

  to_m : b < a → m ≤ b → Both m
  to_m l h = (omega arith, omega arith)

-- where x stands from t on, by where x and t stand from s on
key-from : (s t x : ℕ) → s < 2 ^ 32 → t < 2 ^ 32 → x < 2 ^ 32 → key t x ≡ minus (key s x) (key s t)
key-from s t x hs ht hx = by (key s x) (key s t) (key t x) (omega arith) (omega arith) round
  where
    by : (a m b : ℕ) → m < 2 ^ 32 → b < 2 ^ 32 → (b + m ≡ a) ⊎ (b + m ≡ a + 2 ^ 32) → b ≡ minus a m
    by a m b hm hb (inl e) = omega arith
    by a m b hm hb (inr e) = omega arith

    round : (key t x + key s t ≡ key s x) ⊎ (key t x + key s t ≡ key s x + 2 ^ 32)
    round = elim (dec_lt (key s x) (key s t)) [ yes l ↦ inr (omega arith) | no l ↦ inl (omega arith) ]

-- five pairs stand for any two values in two orders: below, at and above; and below in the one order, above in the other
module _ (s t : ℕ) (hs : s < 2 ^ 32) (ht : t < 2 ^ 32) (n : plus s 1 ≢ t) (x y : ℕ) (hx : x < 2 ^ 32) (hy : y < 2 ^ 32) where
  abbrev pub Alike_both : ℕ → ℕ → Type 0
  Alike_both u w = Alike s x y u w × Alike t x y u w

  abbrev e : ℕ
  e = plus s 1

  pub five : (((Alike_both s e ⊎ Alike_both s s) ⊎ Alike_both e s) ⊎ Alike_both s t) ⊎ Alike_both t s
  five = rw (key-least s hs, key-second s hs, key-least t ht, key-next t ht s hs n) (elim (ℕ_discrete x y) [
    | yes i ↦ inl (inl (inl (inr (level (ap (key s) i), level (ap (key t) i)))))
    | no i ↦ elim (dec_lt (key s x) (key s y)) [
      | yes k ↦ elim (dec_lt (key t x) (key t y)) [
        | yes l ↦ inl (inl (inl (inl (rising k (omega arith), rising l (omega arith)))))
        | no l ↦ let l = other t ht i l in let (m, m') = apart (λ z. differ z (omega arith)) in inl (inr (rising k m, falling l m'))
      ]
      | no k ↦ let k = other s hs i k in elim (dec_lt (key t x) (key t y)) [
        | yes l ↦ let (m, m') = apart (λ z. differ z (omega arith)) in inr (falling k m, rising l m')
        | no l ↦ let l = other t ht i l in inl (inl (inr (falling k (omega arith), falling l (omega arith))))
      ]
    ]
  ])
    where
      level : {a b u : ℕ} → a ≡ b → Same a b u u
      level i = omega arith

      rising : {a b u w : ℕ} → a < b → u < w → Same a b u w
      rising k l = omega arith

      falling : {a b u w : ℕ} → b < a → w < u → Same a b u w
      falling k l = omega arith

      other : (r : ℕ) → r < 2 ^ 32 → x ≢ y → (key r x < key r y → ⊥) → key r y < key r x
      other r h i k = elim (ℕ_discrete (key r x) (key r y)) [ yes e ↦ absurd (i (key_one r h x y hx hy e)) | no j ↦ omega arith ]

      differ : s ≡ t → ((key s x ≡ key t x) × (key s y ≡ key t y) → ⊥) → ⊥
      differ z h = h (ap (λ (r : ℕ). key r x) z, ap (λ (r : ℕ). key r y) z)

      apart : (s ≡ t → ⊥) → (0 < key s t) × (0 < key t s)
      apart h = (
        elim (ℕ_discrete (key s t) 0) [ yes z ↦ absurd (h (key_one s hs s t hs ht (key-least s hs ∙ sym z))) | no z ↦ omega arith ],
        elim (ℕ_discrete (key t s) 0) [ yes z ↦ absurd (h (key_one t ht s t hs ht (z ∙ sym (key-least t ht)))) | no z ↦ omega arith ],
      )

-- ---- points that stand for all values
-- e and the next number are points
pub record Point (l : List ℕ) (e : ℕ) : Type 0 where
  pub small : e < 2 ^ 32
  pub this : T (has l e)
  pub next : T (has l ((e + 1) % 2 ^ 32))

-- the ends of the order from s on are points
pub record Ends (l : List ℕ) (s : ℕ) : Type 0 where
  pub least : Point l s
  pub greatest : Point l (minus s 1)

-- a point x compares as u does with each such number, in every order whose ends are points
pub record Below (l : List ℕ) (u : ℕ) : Type 0 where
  pub x : ℕ
  pub x_in : T (has l x)
  pub alike : (e : ℕ) → Point l e → (s : ℕ) → Ends l s → Alike s x e u e

-- points x and y compare as u and w do in the orders from s on and from t on, and x is such a point for u
pub record Stand (l : List ℕ) (s t u w : ℕ) : Type 0 where
  pub x : ℕ
  pub y : ℕ
  pub x_in : T (has l x)
  pub y_in : T (has l y)
  pub pair : Alike s x y u w × Alike t x y u w
  pub alike : (e : ℕ) → Point l e → (s : ℕ) → Ends l s → Alike s x e u e

module _ (l : List ℕ) (s : ℕ) (E : Ends l s) where
  -- the last point that is met on the way from s to the value k after it
  reach : (k : ℕ) → Below l (plus s k)
  reach zero = let h = E.least.small in record { x = s; x_in = E.least.this; alike = λ e p t F. omega arith }
  reach (suc k) = go (in_or_out (plus s (suc k)) l) (reach k)
    where
      go : T (has l (plus s (suc k))) ⊎ Out (plus s (suc k)) l → Below l (plus s k) → Below l (plus s (suc k))
      go (inl t) B = record { x = plus s (suc k); x_in = t; alike = λ e p t F. omega arith }
      go (inr o) B =
          let n : plus (plus s k) 1 ≡ plus s (suc k) = omega arith in
          record {
            x = B.x;
            x_in = B.x_in;
            alike = λ e p t F. same_trans (B.alike e p t F) (subst (λ (z : ℕ). Alike t (plus s k) e z e) n
                (steady t F.least.small (plus s k) e (omega arith) p.small
                (rw n (out_not _ t l o F.least.this)) (rw n (out_not _ e l o p.this)) (rw n (out_not _ (plus e 1) l o p.next))));
          }

  pub below : (u : ℕ) → u < 2 ^ 32 → Below l u
  below u h = subst (Below l) (from-least s E.least.small u h) (reach (key s u))

module _ (l : List ℕ) (s t : ℕ) (E : Ends l s) (F : Ends l t) (u w : ℕ) (hu : u < 2 ^ 32) (hw : w < 2 ^ 32) where
  hs : s < 2 ^ 32
  hs = E.least.small

  ht : t < 2 ^ 32
  ht = F.least.small

  -- where t, u and w stand from s on
  abbrev m : ℕ
  m = key s t

  abbrev a : ℕ
  a = key s u

  abbrev b : ℕ
  b = key s w

  B : Below l u
  B = below l s E u hu

  -- a point e, where it stands from s on, stands for w
  by : (e : ℕ) → Point l e → {k : ℕ} → key s e ≡ k → Same a k a b × Same (minus a m) (minus k m) (minus a m) (minus b m) → Stand l s t u w
  by e p i (A, C) =
      let D : Alike t u e u w = rw (key-from s t u hs ht hu, key-from s t w hs ht hw, key-from s t e hs ht p.small, i) C in
      record {
        x = B.x;
        y = e;
        x_in = B.x_in;
        y_in = p.this;
        pair = (same_trans (B.alike e p s E) (rw i A), same_trans (B.alike e p t F) D);
        alike = B.alike;
      }

  pub stand : Stand l s t u w
  stand = go (ℕ_discrete u w) (dec_lt a b) (dec_lt b m)
    where
      hm : m < 2 ^ 32
      hm = omega arith

      ha : a < 2 ^ 32
      ha = omega arith

      hb : b < 2 ^ 32
      hb = omega arith

      after : u ≢ w → (a < b → ⊥) → b < a
      after n k = elim (ℕ_discrete a b) [ yes e ↦ absurd (n (key_one s hs u w hu hw e)) | no j ↦ omega arith ]

      go : Dec (u ≡ w) → Dec (a < b) → Dec (b < m) → Stand l s t u w
      go (yes e) k h =
          record {
            x = B.x;
            y = B.x;
            x_in = B.x_in;
            y_in = B.x_in;
            alike = B.alike;
            pair = subst (λ (z : ℕ). Alike s B.x B.x u z × Alike t B.x B.x u z) e (same_self _ _, same_self _ _);
          }
      go (no n) (yes k) (yes h) = by (minus t 1) F.greatest (key_before s hs t ht (omega arith)) (to_before_m m a b hm ha hb k h)
      go (no n) (yes k) (no h) = by (minus s 1) E.greatest (key_greatest s hs) (to_last m a b hm ha hb k (omega arith))
      go (no n) (no k) (yes h) = by s E.least (key-least s hs) (to-first m a b hm ha hb (after n k) h)
      go (no n) (no k) (no h) = by t F.least refl (to_m m a b hm ha hb (after n k) (omega arith))

-- the points of a test
module _ (s t c d : ℕ) where
  abbrev l : List ℕ
  l = points s t c d

  point : (e : ℕ) → e < 2 ^ 32 → T (has l e) → T (has l ((e + 1) % 2 ^ 32)) → Point l e
  point e h m n = record { small = h; this = m; next = n }

  -- where the number before e is a point and e too
  point_before : (e : ℕ) → e < 2 ^ 32 → T (has l (minus e 1)) → T (has l e) → Point l (minus e 1)
  point_before e h m n = point (minus e 1) (omega arith) m (subst (λ (z : ℕ). T (has l z)) (omega arith) n)

  pub ends_s : s < 2 ^ 32 → Ends l s
  ends_s h = record { least = point s h (has_at l 1 tt) (has_at l 2 tt); greatest = point_before s h (has_at l 0 tt) (has_at l 1 tt) }

  pub ends_t : t < 2 ^ 32 → Ends l t
  ends_t h = record { least = point t h (has_at l 3 tt) (has_at l 4 tt); greatest = point_before t h (has_at l 9 tt) (has_at l 3 tt) }

  pub point_c : c < 2 ^ 32 → Point l c
  point_c h = point c h (has_at l 5 tt) (has_at l 6 tt)

  pub point_d : d < 2 ^ 32 → Point l d
  point_d h = point d h (has_at l 7 tt) (has_at l 8 tt)
