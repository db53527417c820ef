-- `find` over the numbers below a bound finds the first value that they give. Assumes nothing.
use Rattle.std.specs.Prelude.{◌≡◌, Bool, true, false, ℕ, ◌≤◌, ◌<◌, Option, None, Some, MatchOption}
use mathlib.Core.Path.{sym, ap, ◌∙◌}
use native.Mathlib.Omega.{arith}
use Rattle.base.specs.Options.{when, missing, first_of}
use Rattle.base.proofs.Options.{none_if, none_everywhere, first_at_lem}

module _ (p : ℕ → Bool) (n : ℕ) where
  abbrev found : ℕ → Option ℕ
  found i = when (p i) i

  none_passes : (i : ℕ) → ((k : ℕ) → 0 ≤ k → k < i → p k ≡ false) → first_of i found ≡ None
  none_passes i h = none_everywhere found i (λ k l. none_if (p k) k (h k (omega arith) l))

  -- by what std's `first_from_Range` says of what `find` gives
  pub first_by_find : (r : Option ℕ)
      → MatchOption r ((k : ℕ) → 0 ≤ k → k < n → p k ≡ false)
      (λ i. (0 ≤ i) × (i < n) × (p i ≡ true) × ((k : ℕ) → 0 ≤ k → k < i → p k ≡ false))
      → r ≡ first_of n found
  first_by_find None h = sym (none_passes n h)
  first_by_find (Some i) (z, l, e, h) = sym (first_at_lem found n i l (none_passes i h) (ap (λ (b : Bool). missing (when b i)) e) ∙ ap (λ (b : Bool). when b i) e)
