-- Spans of a list, in the form in which the code meets them. Assumes nothing.
use mathlib.Core.Path.{◌≡◌, refl, sym, ap, ◌∙◌}
use mathlib.Core.Logic.{dite}
use mathlib.Core.List.{List}
use Prim.Native.Nat.{ℕ, ◌+◌, ◌≤◌, ◌<◌}
use native.Mathlib.Omega.{arith}
use native.Mathlib.Decide.{dec_lt}
use borrow.Author.Tests.{lt-ltb, le-ltb}
use lib.ListN.{length, get_or, set, length-set, get_or-eq_default}
use Rattle.base.specs.Walks.{pass}
use Rattle.base.proofs.Walks.{length-pass, pass_at, pass-is}
use Rattle.marker.specs.inner.Spans.{among, remade}
use Rattle.base.proofs.Stores.{Passing, passing_more, passing_gap}

-- ---- the elements of a span made anew
module _ (a b : ℕ) (f : ℕ → ℕ) (i x : ℕ) where
  among_before : i < a → among a b f i x ≡ x
  unfolding among
  among_before p = rw (lt-ltb i a p, among)

  among_in : a ≤ i → i < b → among a b f i x ≡ f x
  unfolding among
  among_in p q = rw (le-ltb i a p, among) (rw (lt-ltb i b q, among))

  among_past : a ≤ i → b ≤ i → among a b f i x ≡ x
  unfolding among
  among_past p q = rw (le-ltb i a p, among) (rw (le-ltb i b q, among))

  among-after : b ≤ i → among a b f i x ≡ x
  among-after q = dite (dec_lt i a) among_before (λ p. among_past (omega arith) q)

-- one store a turn: of those below i that is done
pub record Remaking (a b : ℕ) (f : ℕ → ℕ) (d₀ d : List ℕ) (i : ℕ) : Type 0 where
  pub least : a ≤ i
  pub most : i ≤ b
  pub short : b ≤ length d
  pub done : Passing (among a b f) d₀ d i

module _ (a b : ℕ) (f : ℕ → ℕ) where
  pub remaking_start : (d : List ℕ) → a ≤ b → b ≤ length d → Remaking a b f d d a
  remaking_start d p q =
      record {
        least = omega arith;
        most = p;
        short = q;
        done = record { long = refl; most = omega arith; before = λ j l. sym (among_before a b f j (get_or d j 0) l); after = λ j l. refl };
      }

  pub remaking_more : {d₀ d : List ℕ} {i v : ℕ} → Remaking a b f d₀ d i → i < b → v ≡ f (get_or d i 0) → Remaking a b f d₀ (set d i v) (i + 1)
  remaking_more {d = d} {i = i} R l e =
      record {
        least = omega (arith, R.least);
        most = omega arith;
        short = simp length-set R.short;
        done = passing_more (among a b f) R.done (omega (arith, R.short)) (e ∙ sym (among_in a b f i (get_or d i 0) R.least l));
      }

  -- elements that stay as they are need no store
  pub remaking_gap : {d₀ d : List ℕ} {i j : ℕ} → Remaking a b f d₀ d i → i ≤ j → j ≤ b
      → ((k : ℕ) → i ≤ k → k < j → f (get_or d₀ k 0) ≡ get_or d₀ k 0) → Remaking a b f d₀ d j
  remaking_gap {d₀ = d₀} R p q h =
      record {
        least = omega (arith, R.least);
        most = q;
        short = R.short;
        done =
            passing_gap (among a b f) R.done p (omega (arith, R.short))
            (λ k l m. among_in a b f k (get_or d₀ k 0) (omega (arith, R.least)) (omega arith) ∙ h k l m);
      }

  pub remaking_end : {d₀ d : List ℕ} {i : ℕ} → Remaking a b f d₀ d i → b ≤ i → d ≡ remade a b f d₀
  unfolding remade
  remaking_end {d₀} {d} {i} R l =
      pass-is (among a b f) d₀ d R.done.long
      (λ j k. dite (dec_lt j i) (λ m. R.done.before j m) (λ m. R.done.after j (omega arith) ∙ sym (among-after a b f j (get_or d₀ j 0) (omega arith))))

-- a pass goes on by the elements from i up to j
pub passing_span : (g : ℕ → ℕ → ℕ) (f : ℕ → ℕ) {d₀ d d₁ : List ℕ} {i j : ℕ} → Passing g d₀ d i → i ≤ j → j ≤ length d → d₁ ≡ remade i j f d
    → ((k x : ℕ) → i ≤ k → k < j → f x ≡ g k x) → Passing g d₀ d₁ j
unfolding remade
passing_span g f {d₀ = d₀} {d = d} {i = i} {j = j} P a b e h =
    rw e
    (record {
      long = long ∙ P.long;
      most = omega (arith, long);
      before = λ k l. pass_at (among i j f) d k (omega arith) ∙ early k l (dec_lt k i);
      after = λ k l. late k l (dec_lt k (length d));
    })
  where
    long : length (pass (among i j f) 0 d) ≡ length d
    long = length-pass (among i j f) 0 d

    early : (k : ℕ) → k < j → Dec (k < i) → among i j f k (get_or d k 0) ≡ g k (get_or d₀ k 0)
    early k l (yes m) = among_before i j f k (get_or d k 0) m ∙ P.before k m
    early k l (no m) = among_in i j f k (get_or d k 0) (omega arith) l ∙ h k (get_or d k 0) (omega arith) l ∙ ap (g k) (P.after k (omega arith))

    late : (k : ℕ) → j ≤ k → Dec (k < length d) → get_or (pass (among i j f) 0 d) k 0 ≡ get_or d₀ k 0
    late k l (yes m) = pass_at (among i j f) d k m ∙ among-after i j f k (get_or d k 0) l ∙ P.after k (omega arith)
    late k l (no m) =
        get_or-eq_default (pass (among i j f) 0 d) 0 {n = k} (omega (arith, long)) ∙ sym (get_or-eq_default d₀ 0 {n = k} (omega (arith, P.long)))
