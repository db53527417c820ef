-- The two orders: in which order they put the values, which codes compare by them, and what other laws ask of both.
-- Assumes nothing.
use Rattle.std.proofs.Common.{◌≡◌, ℕ, ◌+◌, ◌/◌, ◌%◌, ◌^◌, ◌<◌, ◌≤◌, Bool, true, false, cond, eqb, ◌≢◌, ◌⊎◌, ◌↔◌, sym, ap, ◌∙◌, inl, inr, arith, eq-eqb, ne_eqb}
use native.Mathlib.Decide.{ℕ_discrete, dec_lt}
use Rattle.operations.specs.declared.Operation.{Operation}
use Rattle.operations.specs.Operations.{plus, minus, unsigned, signed, order, key, relation, related, related_in, with_constant, right, holds}
use Rattle.operations.specs.Values.{var}
use Rattle.operations.specs.Assumptions.{Implies}
use Rattle.operations.proofs.Order.{key_one}

-- ---- the values
-- "unsigned": each value stands at its own number
pub unsigned-order : (x : ℕ) → x < 2 ^ 32 → key unsigned x ≡ x
unsigned-order x h = omega arith

-- a value that is below zero as two's complement: its highest bit is 1
abbrev pub Negative : ℕ → Type 0
Negative x = 2 ^ 31 ≤ x

-- "two's complement": x comes before y where x alone is below zero, or both or neither are and x is the lesser number
pub signed-order : (x y : ℕ) → x < 2 ^ 32 → y < 2 ^ 32
    → (key signed x < key signed y) ↔ ((Negative x × y < 2 ^ 31) ⊎ ((Negative x ↔ Negative y) × x < y))
signed-order x y hx hy = (there, back)
  where
    there : key signed x < key signed y → (Negative x × y < 2 ^ 31) ⊎ ((Negative x ↔ Negative y) × x < y)
    there l = elim (dec_lt x (2 ^ 31)) [
      | yes m ↦ inr ((λ k. absurd (omega arith), λ k. omega arith), omega arith)
      | no m ↦ elim (dec_lt y (2 ^ 31)) [ yes n ↦ inl (omega arith, n) | no n ↦ inr ((λ k. omega arith, λ k. omega arith), omega arith) ]
    ]

    back : (Negative x × y < 2 ^ 31) ⊎ ((Negative x ↔ Negative y) × x < y) → key signed x < key signed y
    back (inl (m, n)) = omega arith
    back (inr (m, n)) = elim (dec_lt y (2 ^ 31)) [ yes k ↦ omega arith | no k ↦ let j = m.1 (omega arith) in omega arith ]

-- ---- the codes
-- "Codes 24 to 29 and 40 to 45 repeat 16 to 21 and 32 to 37": these are signed, those are not
module _ (o : Operation) where
  pub unsigned_codes : ((16 ≤ o.code) × (o.code ≤ 21)) ⊎ ((32 ≤ o.code) × (o.code ≤ 37)) → order o ≡ unsigned
  unsigned_codes (inl h) = rw (ne_eqb (o.code / 8 % 2) 1 (λ e. omega arith))
  unsigned_codes (inr h) = rw (ne_eqb (o.code / 8 % 2) 1 (λ e. omega arith))

  pub signed_codes : ((24 ≤ o.code) × (o.code ≤ 29)) ⊎ ((40 ≤ o.code) × (o.code ≤ 45)) → order o ≡ signed
  signed_codes (inl h) = rw (eq-eqb (o.code / 8 % 2) 1 (omega arith))
  signed_codes (inr h) = rw (eq-eqb (o.code / 8 % 2) 1 (omega arith))

-- ---- what other laws ask of an order
-- what is so of both orders is so of every operation's
by_order : (P : ℕ → Type 0) → P unsigned → P signed → (o : Operation) → P (order o)
by_order P u s o = go (eqb (o.code / 8 % 2) 1)
  where
    go : (b : Bool) → P (cond b signed unsigned)
    go true = s
    go false = u

pub order_small : (o : Operation) → order o < 2 ^ 32
order_small = by_order (λ s. s < 2 ^ 32) (omega arith) (omega arith)

-- the value after the least of one order is at no end of the other
pub inside_both : (f g : Operation) → (plus (order f) 1 ≢ order g) × (plus (order f) 1 ≢ minus (order g) 1)
inside_both f g =
    by_order (λ s. (plus s 1 ≢ order g) × (plus s 1 ≢ minus (order g) 1))
    (by_order (λ t. (1 ≢ t) × (1 ≢ minus t 1)) (λ e. omega arith, λ e. omega arith) (λ e. omega arith, λ e. omega arith) g)
    (by_order (λ t. (2 ^ 31 + 1 ≢ t) × (2 ^ 31 + 1 ≢ minus t 1)) (λ e. omega arith, λ e. omega arith) (λ e. omega arith, λ e. omega arith) g) f

-- ---- two orders that say the same
-- two values stand at one place exactly if they are equal
key-eqb : (s x y : ℕ) → s < 2 ^ 32 → x < 2 ^ 32 → y < 2 ^ 32 → eqb (key s x) (key s y) ≡ eqb x y
key-eqb s x y hs hx hy = elim (ℕ_discrete x y) [
  | yes e ↦ eq-eqb (key s x) (key s y) (ap (key s) e) ∙ sym (eq-eqb x y e)
  | no n ↦ ne_eqb (key s x) (key s y) (λ e. n (key_one s hs x y hx hy e)) ∙ sym (ne_eqb x y n)
]

-- = and ≠ are the same in any order: code 24 and code 16 with the same operands imply each other
module _ (f g : Operation) (A : f.a ≡ g.a) (B : f.b ≡ g.b) (C : f.c ≡ g.c) (w : with_constant f ≡ with_constant g)
    (r : relation f ≡ relation g) (l : relation f < 2) (hc : f.c < 2 ^ 32) where
  equal_by : (s x y : ℕ) → s < 2 ^ 32 → x < 2 ^ 32 → y < 2 ^ 32 → related_in s (relation f) x y ≡ related (relation f) x y
  unfolding related
  equal_by s x y hs hx hy = elim (ℕ_discrete (relation f) 0) [
    | yes e ↦ rw (e, key-eqb s x y hs hx hy)
    | no n ↦ let e : relation f ≡ 1 = omega arith in rw (e, key-eqb s x y hs hx hy)
  ]

  pub implied_in_any-order : Implies f g
  unfolding holds
  implied_in_any-order v W h =
      let x = var v f.a in
      let y = right f (var v) in
      let hy : y < 2 ^ 32 = small (with_constant f) in
      let e = equal_by (order f) x y (order_small f) (W.small f.a) hy in
      let e' = equal_by (order g) x y (order_small g) (W.small f.a) hy in
      (λ i. related_in (order g) (sym r i) (var v (sym A i)) (cond (sym w i) (sym C i) (var v (sym B i)))) ∙ e' ∙ sym e ∙ h
    where
      small : (b : Bool) → cond b f.c (var v f.b) < 2 ^ 32
      small true = hc
      small false = W.small f.b
