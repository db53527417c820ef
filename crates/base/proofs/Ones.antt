-- A list of zeros with one other element. Assumes nothing.
use mathlib.Core.Path.{◌≡◌, ◌∙◌}
use Prim.Native.Nat.{ℕ, ◌<◌}
use native.Mathlib.Omega.{arith}
use native.Mathlib.Decide.{ℕ_discrete}
use lib.ListN.{get_or, set, replicate, length-replicate}
use lib.Seq.{get_or-set_same, get_or-set_other}
use Rattle.base.proofs.Walks.{zeros_at}

-- v among n zeros, at i
module _ (n i v : ℕ) where
  pub one-there : i < n → get_or (set (replicate n 0) i v) i 0 ≡ v
  one-there l = get_or-set_same (replicate n 0) i v 0 (simp length-replicate l)

  pub one_other : (j : ℕ) → (j ≡ i → ⊥) → ◌≡◌ {A = ℕ} (get_or (set (replicate n 0) i v) j 0) 0
  one_other j e = get_or-set_other (replicate n 0) i j v 0 e ∙ zeros_at n j

  pub one_only : (j : ℕ) → 0 < get_or (set (replicate n 0) i v) j 0 → j ≡ i
  one_only j p = go (ℕ_discrete j i)
    where
      go : Dec (j ≡ i) → j ≡ i
      go (yes e) = e
      go (no e) = absurd (omega (arith, one_other j e))
