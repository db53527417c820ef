-- Stores one after another that make each element of a list anew. Assumes nothing.
use mathlib.Core.Path.{◌≡◌, refl, sym, ap, ◌∙◌}
use mathlib.Core.List.{List}
use mathlib.Core.Logic.{dite}
use Prim.Native.Nat.{ℕ, ◌+◌, ◌≤◌, ◌<◌}
use native.Mathlib.Omega.{arith}
use native.Mathlib.Decide.{ℕ_discrete, dec_lt}
use lib.ListN.{length, get_or, set, length-set}
use lib.Seq.{get_or-set_same, get_or-set_other}
use Rattle.base.specs.Walks.{pass}
use Rattle.base.proofs.Walks.{pass-is}

-- a list each of whose elements is made anew, one store a turn: of the first i that is done
pub record Passing (f : ℕ → ℕ → ℕ) (d₀ d : List ℕ) (i : ℕ) : Type 0 where
  pub long : length d ≡ length d₀
  pub most : i ≤ length d
  pub before : (j : ℕ) → j < i → get_or d j 0 ≡ f j (get_or d₀ j 0)
  pub after : (j : ℕ) → i ≤ j → get_or d j 0 ≡ get_or d₀ j 0

module _ (f : ℕ → ℕ → ℕ) where
  pub passing_none : (d : List ℕ) → Passing f d d 0
  passing_none d = record { long = refl; most = omega arith; before = λ j l. absurd (omega arith); after = λ j l. refl }

  pub passing_more : {d₀ d : List ℕ} {i v : ℕ} → Passing f d₀ d i → i < length d → v ≡ f i (get_or d i 0) → Passing f d₀ (set d i v) (i + 1)
  passing_more {d₀} {d} {i} {v} P l e =
      record {
        long = length-set d i v ∙ P.long;
        most = simp length-set (omega arith);
        before = λ j k. go j k (ℕ_discrete j i);
        after = λ j k. get_or-set_other d i j v 0 (λ z. omega arith) ∙ P.after j (omega arith);
      }
    where
      go : (j : ℕ) → j < i + 1 → Dec (j ≡ i) → get_or (set d i v) j 0 ≡ f j (get_or d₀ j 0)
      go j k (yes z) = rw z (get_or-set_same d i v 0 l ∙ e ∙ ap (f i) (P.after i (omega arith)))
      go j k (no z) = get_or-set_other d i j v 0 z ∙ P.before j (omega arith)

  pub passing_all : {d₀ d : List ℕ} {i : ℕ} → Passing f d₀ d i → length d ≤ i → d ≡ pass f 0 d₀
  passing_all {d₀} {d} P l = pass-is f d₀ d P.long (λ j k. P.before j (omega (arith, P.long)))

-- a pass goes on past elements that stay as they are
pub passing_gap : (g : ℕ → ℕ → ℕ) {d₀ d : List ℕ} {i j : ℕ} → Passing g d₀ d i → i ≤ j → j ≤ length d
    → ((k : ℕ) → i ≤ k → k < j → g k (get_or d₀ k 0) ≡ get_or d₀ k 0) → Passing g d₀ d j
passing_gap g {i = i} P a b h =
    record {
      long = P.long;
      most = b;
      before = λ k l. dite (dec_lt k i) (λ m. P.before k m) (λ m. P.after k (omega arith) ∙ sym (h k (omega arith) l));
      after = λ k l. P.after k (omega arith);
    }
