-- Which new places lead to which, in the form in which the code meets it. Assumes nothing.
use mathlib.Core.Path.{◌≡◌, refl, sym, ap, ◌∙◌}
use mathlib.Core.Logic.{dite}
use mathlib.Core.List.{List}
use Prim.Native.Nat.{ℕ, zero, suc, ◌+◌, ◌*◌, ◌%◌, ◌≤◌, ◌<◌}
use native.Mathlib.Omega.{arith}
use native.Mathlib.Decide.{ℕ_discrete, dec_lt}
use borrow.Author.Tests.{ne_eqb, lt-ltb, le-ltb}
use lib.ListN.{length, get_or, set, length-set}
use Rattle.sets.specs.Sets.{with, without}
use Rattle.records.specs.Records.{index}
use Rattle.words.specs.inner.Words.{Member, LowestFrom}
use Rattle.marker.specs.inner.Seen.{HoldsBeyond}
use Rattle.marker.specs.inner.Spreads.{led_to, led_from}
use Rattle.marker.specs.inner.Spans.{each}
use Rattle.marker.proofs.Seen.{none_past}
use Rattle.marker.proofs.Passes.{each_past, each_then, Going, going_start, going_more, going_end}

module _ (l : List ℕ) (q n : ℕ) where
  pub led_pair : {v : ℕ} → n < 4096 → v ≡ with (get_or l q 0) (n % 64) → set l q v ≡ led_to l q n
  unfolding led_to
  led_pair b e = rw (lt-ltb n 4096 b, led_to, e)

  pub led_node : 4096 ≤ n → l ≡ led_to l q n
  unfolding led_to
  led_node b = rw (le-ltb n 4096 b, led_to)

  length_to : length (led_to l q n) ≡ length l
  length_to =
      dite (dec_lt n 4096) (λ b. ap length (sym (led_pair b refl)) ∙ length-set l q (with (get_or l q 0) (n % 64)))
      (λ b. ap length (sym (led_node (omega arith))))

module _ (t m l : List ℕ) (i : ℕ) where
  pub led_from_lem : {l₁ l₂ : List ℕ} → get_or m i 0 ≡ 4 → l₁ ≡ led_to l (i % 64) (get_or t (2 * i) 0) → l₂ ≡ led_to l₁ (i % 64) (get_or t (2 * i + 1) 0) → l₂ ≡ led_from t m l i
  unfolding led_from
  led_from_lem e a b =
      b ∙ ap (λ (x : List ℕ). led_to x (i % 64) (get_or t (2 * i + 1) 0)) a ∙ (let z : index i 0 ≡ 2 * i = omega arith in rw (e, led_from) (rw z))

  pub led_not : (get_or m i 0 ≡ 4 → ⊥) → l ≡ led_from t m l i
  unfolding led_from
  led_not e = rw (ne_eqb (get_or m i 0) 4 e, led_from)

  length_led : length (led_from t m l i) ≡ length l
  unfolding led_from
  length_led = dite (ℕ_discrete (get_or m i 0) 4) (λ e. rw (e, led_from) (simp length_to)) (λ e. ap length (sym (led_not e)))

-- ---- the pairs of one word: only those beyond lead, which are members
pub record Leading (t m w : List ℕ) (p : ℕ) (l₀ l : List ℕ) (word : ℕ) : Type 0 where
  pub long : length l ≡ 64
  pub at : ℕ
  pub going : Going (led_from t m) w p l₀ l word at

module _ (t m w : List ℕ) (p : ℕ) where
  pub lead_start : {l : List ℕ} → length l ≡ 64 → Leading t m w p l l (get_or w p 0)
  lead_start {l} e = record { long = e; at = 0; going = going_start (led_from t m) w p l }

  module _ {l₀ l : List ℕ} {word : ℕ} (L : Leading t m w p l₀ l word) (b : p < length w) (H : HoldsBeyond w m) where
    idle : (i : ℕ) → i < 64 → (Member w (64 * p + i) → ⊥) → l ≡ led_from t m l (64 * p + i)
    idle i c f = led_not t m l (64 * p + i) (λ e. f (H.has (64 * p + i) (omega (arith, H.most)) e))

    pub lead_more : {l' : List ℕ} {q rest : ℕ} → LowestFrom word 0 q → q < 64 → rest ≡ without word q → l' ≡ led_from t m l (64 * p + q) → Leading t m w p l₀ l' rest
    lead_more {q = q} F c e d =
        record { long = ap length d ∙ length_led t m l (64 * p + q) ∙ L.long; at = q + 1; going = going_more (led_from t m) w p L.going idle F c e d }

    pub lead_end : word ≡ 0 → l ≡ each (led_from t m) (64 * p) 64 l₀
    lead_end e = going_end (led_from t m) w p L.going idle e

-- ---- the words before p
length-each : (t m : List ℕ) (a n : ℕ) (l : List ℕ) → length (each (led_from t m) a n l) ≡ length l
unfolding each
length-each t m a zero l = refl
length-each t m a (suc n) l = length_led t m (each (led_from t m) a n l) (a + n) ∙ length-each t m a n l

pub record Led (t m l₀ l : List ℕ) (p : ℕ) : Type 0 where
  pub is : l ≡ each (led_from t m) 0 (64 * p) l₀
  pub long : length l ≡ 64
  pub most : p ≤ 64

module _ (t m : List ℕ) where
  pub led_start : {l : List ℕ} → length l ≡ 64 → Led t m l l 0
  unfolding each
  led_start e = record { is = refl; long = e; most = omega arith }

  module _ {l₀ l : List ℕ} {p : ℕ} (L : Led t m l₀ l p) where
    pub led_more : {w l' : List ℕ} → HoldsBeyond w m → p < length w → l' ≡ each (led_from t m) (64 * p) 64 l → Led t m l₀ l' (p + 1)
    led_more H b e =
        let z : 0 + 64 * p ≡ 64 * p = omega arith in
        let s : 64 * p + 64 ≡ 64 * (p + 1) = omega arith in
        record {
          is = e ∙ ap (each (led_from t m) (64 * p) 64) L.is ∙ rw (z, s) at (each_then (led_from t m) 0 (64 * p) 64 l₀);
          long = ap length e ∙ length-each t m (64 * p) 64 l ∙ L.long;
          most = omega (arith, H.most);
        }

    pub led_end : {w : List ℕ} → HoldsBeyond w m → length w ≤ p → l ≡ each (led_from t m) 0 4096 l₀
    led_end {w} H b = each_past (led_from t m) 0 l₀ 4096 L.is (omega (arith, L.most)) idle
      where
        idle : (i : ℕ) → 64 * p ≤ i → i < 4096 → l ≡ led_from t m l (0 + i)
        idle i a c = let z : 0 + i ≡ i = omega arith in rw z (led_not t m l i (λ e. none_past w i (omega arith) (H.has i c e)))
