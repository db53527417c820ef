-- Passes over pairs, and over those of a set word by word. Assumes nothing.
use mathlib.Core.Path.{◌≡◌, refl, ap, ◌∙◌}
use mathlib.Core.List.{List}
use Prim.Native.Nat.{ℕ, zero, suc, ◌+◌, ◌*◌, ◌≤◌, ◌<◌}
use native.Mathlib.Numerals.{add-one}
use native.Mathlib.Omega.{arith}
use lib.ListN.{get_or}
use Rattle.base.proofs.Walks.{up_to}
use Rattle.sets.specs.Sets.{without}
use Rattle.words.specs.inner.Words.{Member, LowestFrom}
use Rattle.words.proofs.Rests.{Coming, coming_start, coming_next, coming_more, coming_end, none_up}
use Rattle.marker.specs.inner.Spans.{each}

module _ (f : List ℕ → ℕ → List ℕ) (a : ℕ) where
  each_more : (x : List ℕ) {y z : List ℕ} (k : ℕ) → y ≡ each f a k x → z ≡ f y (a + k) → z ≡ each f a (k + 1) x
  unfolding each
  each_more x k e d = rw (add-one k, each) (d ∙ ap (λ (l : List ℕ). f l (a + k)) e)

  -- numbers for which nothing is to be done
  pub each_past : (x : List ℕ) {y : List ℕ} {k : ℕ} (j : ℕ) → y ≡ each f a k x → k ≤ j → ((i : ℕ) → k ≤ i → i < j → y ≡ f y (a + i)) → y ≡ each f a j x
  each_past x {y} j e l h = up_to (λ i. y ≡ each f a i x) j l e (λ i p q d. each_more x i d (h i p q))

  -- one span after another
  pub each_then : (m n : ℕ) (x : List ℕ) → each f (a + m) n (each f a m x) ≡ each f a (m + n) x
  unfolding each
  each_then m zero x = let e : m + 0 ≡ m = omega arith in rw e
  each_then m (suc n) x =
      let e : m + suc n ≡ suc (m + n) = omega arith in
      let z : a + m + n ≡ a + (m + n) = omega arith in
      rw (e, each, z) (ap (λ (l : List ℕ). f l (a + (m + n))) (each_then m n x))

-- the loop over the bits of word p: x₀ has become x by the pairs below bit `at`, and `word` is what is left
pub record Going (f : List ℕ → ℕ → List ℕ) (w : List ℕ) (p : ℕ) (x₀ x : List ℕ) (word at : ℕ) : Type 0 where
  pub coming : Coming (get_or w p 0) word at
  pub is : x ≡ each f (64 * p) at x₀

module _ (f : List ℕ → ℕ → List ℕ) (w : List ℕ) (p : ℕ) where
  pub going_start : (x : List ℕ) → Going f w p x x (get_or w p 0) 0
  unfolding each
  going_start x = record { coming = coming_start (get_or w p 0); is = refl }

  -- pairs that are no members need nothing
  module _ {x₀ x : List ℕ} {word at : ℕ} (G : Going f w p x₀ x word at) (idle : (i : ℕ) → i < 64 → (Member w (64 * p + i) → ⊥) → x ≡ f x (64 * p + i)) where
    passed : {q : ℕ} → LowestFrom (get_or w p 0) at q → x ≡ each f (64 * p) q x₀
    passed {q} N = each_past f (64 * p) x₀ q G.is N.least (λ i a b. idle i (omega (arith, N.most)) (none_up w p N i a b))

    pub going_more : {y : List ℕ} {q rest : ℕ} → LowestFrom word 0 q → q < 64 → rest ≡ without word q → y ≡ f x (64 * p + q) → Going f w p x₀ y rest (q + 1)
    going_more {q = q} L l e d =
        record { coming = coming_more G.coming L l e; is = each_more f (64 * p) x₀ q (passed (coming_next G.coming L l)) d }

    pub going_end : word ≡ 0 → x ≡ each f (64 * p) 64 x₀
    going_end e = passed (coming_end G.coming e)
