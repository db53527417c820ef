-- Passes that open pairs, word by word, in the form in which the code meets them. Assumes nothing.
use mathlib.Core.Path.{◌≡◌, refl, sym, ◌∙◌}
use mathlib.Core.Bool.{false}
use mathlib.Core.List.{List}
use mathlib.Core.Logic.{dite}
use Prim.Native.Nat.{ℕ, zero, suc, ◌+◌, ◌*◌, ◌-◌, ◌%◌, ◌≤◌, ◌<◌}
use native.Mathlib.Omega.{arith}
use native.Mathlib.Decide.{ℕ_discrete}
use borrow.Author.Tests.{ne_eqb}
use lib.ListN.{length, get_or}
use Rattle.sets.specs.Sets.{bit, without}
use Rattle.sets.proofs.Sets.{bit-none}
use Rattle.words.specs.inner.Words.{Member}
use Rattle.words.proofs.Words.{not_at}
use Rattle.words.proofs.Rests.{same_else, ones, ones_most, ones_less}
use Rattle.marker.specs.Marks.{opening}
use Rattle.marker.specs.inner.Openings.{Opened, none_yet, Tried, Swept}
use Rattle.marker.specs.inner.Seen.{HoldsBeyond}
use Rattle.marker.proofs.Orders.{opened-long, opened_then, swept_none, swept_start, swept_up, swept_down}
use Rattle.marker.proofs.Seen.{none_past}

-- ---- one word, in whatever order: the pairs of word p whose bits are no more in `word` had their turn. Whoever is beyond is a member of w
pub record Trying (t w : List ℕ) (p : ℕ) (x y : List ℕ) (n word : ℕ) : Type 0 where
  pub did : Opened t x n y
  pub most : n + ones word ≤ 64
  pub else_not : n ≡ 0 → (y ≡ x) × ((i : ℕ) → i < 64 → Member w (64 * p + i) → bit word i ≡ 0 → opening t x (64 * p + i) (get_or x (64 * p + i) 0) ≡ false)

module _ (t w : List ℕ) (p : ℕ) where
  pub trying_start : (x : List ℕ) → Trying t w p x x 0 (get_or w p 0)
  trying_start x =
      record {
        did = none_yet;
        most = omega (arith, ones_most (get_or w p 0));
        else_not = λ e. (refl, λ i l m z. (let a : (64 * p + i) % 64 ≡ i = omega arith in absurd (not_at w p (64 * p + i) (omega arith) (rw a z) m)));
      }

  module _ {x y : List ℕ} {n word : ℕ} (S : Trying t w p x y n word) where
    pub trying_more : {z : List ℕ} {q r rest : ℕ} → q < 64 → bit word q ≡ 1 → rest ≡ without word q → Tried t y (64 * p + q) r z → Trying t w p x z (n + r) rest
    trying_more {q = q} l b e T =
        rw e
        (record {
          did = opened_then t S.did T.did;
          most = omega (arith, S.most, T.most, ones_less word q l b);
          else_not = λ h.
              (let u = S.else_not (omega arith) in
              let v = T.else_not (omega arith) in (
                v.0 ∙ u.0,
                λ i c m f. dite (ℕ_discrete i q) (λ g. rw g (rw u.0 at v.1)) (λ g. u.1 i c m (sym (same_else word q l i c g) ∙ f)),
              ));
        })

    pub trying_end : word ≡ 0 → HoldsBeyond w x → p < length w → Swept t x (64 * p) (64 * p + 64) n y
    unfolding opening
    trying_end e H l =
        record {
          did = S.did;
          long = opened-long t S.did;
          near = omega arith;
          most = omega (arith, S.most);
          else_not = λ h. (let u = S.else_not h in (u.0, λ k a b. go u.1 k (k - 64 * p) (omega arith) (omega arith)));
        }
      where
        go : ((i : ℕ) → i < 64 → Member w (64 * p + i) → bit word i ≡ 0 → opening t x (64 * p + i) (get_or x (64 * p + i) 0) ≡ false)
            → (k i : ℕ) → i < 64 → k ≡ 64 * p + i → opening t x k (get_or x k 0) ≡ false
        go u k i c f =
            rw f
            (dite (ℕ_discrete (get_or x (64 * p + i) 0) 4) (λ z. u i c (H.has (64 * p + i) (omega (arith, H.most)) z) (rw e (bit-none i)))
            (λ z. rw (ne_eqb (get_or x (64 * p + i) 0) 4 z)))

-- ---- all words
module _ (t : List ℕ) where
  -- whoever has no word is not beyond
  past : {w x : List ℕ} {p : ℕ} → HoldsBeyond w x → length w ≤ p → p ≤ 64 → Swept t x (64 * p) 4096 0 x
  past {w} {x} H l m = swept_none t x (omega arith) (λ k a b e. none_past w k (omega arith) (H.has k b e))

  -- of c words k had their turn: the first, or the last
  pub SweptTo : ℕ → ℕ → List ℕ → ℕ → ℕ → List ℕ → Type 0
  SweptTo zero c x k n y = Swept t x 0 (64 * k) n y
  SweptTo (suc d) c x k n y = Swept t x (64 * (c - k)) 4096 n y

  pub swept_to_start : (down : ℕ) {w x : List ℕ} → HoldsBeyond w x → SweptTo down (length w) x 0 0 x
  unfolding SweptTo
  swept_to_start zero {w} {x} H = swept_start t x 0
  swept_to_start (suc d) {w} {x} H = past H (omega arith) (omega (arith, H.most))

  pub swept_to_more : (down : ℕ) {c k p : ℕ} (x : List ℕ) {y z : List ℕ} (n : ℕ) {r : ℕ} → k < c → (down ≡ 0 → p ≡ k) → ((down ≡ 0 → ⊥) → p ≡ c - 1 - k)
      → SweptTo down c x k n y → Swept t y (64 * p) (64 * p + 64) r z → SweptTo down c x (k + 1) (n + r) z
  unfolding SweptTo
  swept_to_more zero {k = k} x n l u d S R =
      let e : 64 * (k + 1) ≡ 64 * k + 64 = omega arith in rw e (swept_up t S (rw (u refl) at R))
  swept_to_more (suc i) {c = c} {k = k} {p = p} x n l u d S R =
      let a = d (λ h. omega arith) in
      let e : 64 * p + 64 ≡ 64 * (c - k) = omega arith in
      let f : 64 * (c - (k + 1)) ≡ 64 * p = omega arith in
      rw f (swept_down t S (rw e at R))

  pub swept_to_end : (down c k : ℕ) (x : List ℕ) (n : ℕ) {w y : List ℕ} → HoldsBeyond w y → length w ≡ c → k ≡ c → SweptTo down c x k n y → Swept t x 0 4096 n y
  unfolding SweptTo
  swept_to_end zero c k x n H g e S = let z : n + 0 ≡ n = omega arith in rw z at (swept_up t S (past H (omega arith) (omega (arith, H.most))))
  swept_to_end (suc d) c k x n H g e S = let z : 64 * (c - k) ≡ 0 = omega arith in rw z at S

  -- no more than there are pairs
  pub swept_to-most : (down c k : ℕ) (x y : List ℕ) {n : ℕ} → k ≤ 64 → SweptTo down c x k n y → n ≤ 4096
  unfolding SweptTo
  swept_to-most zero c k x y l S = omega (arith, S.most)
  swept_to-most (suc d) c k x y l S = omega (arith, S.most)
