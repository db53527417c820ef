-- A list d₀ whose front becomes that of another list l, element by element. Assumes nothing.
use mathlib.Core.Path.{◌≡◌, refl, ap, ◌∙◌, subst}
use mathlib.Core.List.{List, ◌++◌}
use Prim.Native.Nat.{ℕ, suc, ◌+◌, ◌≤◌, ◌<◌}
use native.Mathlib.Numerals.{add-one}
use native.Mathlib.Omega.{arith}
use lib.ListN.{length, get_or, set, drop}
use lib.Seq.{take_all, paste, paste-zero, paste-suc, length-paste}

-- of d₀ the first i elements have become those of l
pub record Copying (l d₀ d : List ℕ) (i : ℕ) : Type 0 where
  pub is : d ≡ paste d₀ 0 l i
  pub most : i ≤ length l
  pub long : length d ≡ length d₀

pub copying_start : (l d : List ℕ) → Copying l d d 0
copying_start l d = record { is = paste-zero d 0 l; most = omega arith; long = refl }

module _ (l d₀ d : List ℕ) (i : ℕ) where
  pub copying_more : length l ≤ length d₀ → Copying l d₀ d i → i < length l → Copying l d₀ (set d i (get_or l i 0)) (i + 1)
  copying_more w c h =
      let z : 0 + i ≡ i = omega arith in
      let s : set (paste d₀ 0 l i) i (get_or l i 0) ≡ paste d₀ 0 l (suc i) =
      subst (λ (k : ℕ). set (paste d₀ 0 l i) k (get_or l i 0) ≡ paste d₀ 0 l (suc i)) z (paste-suc d₀ 0 l i 0 (omega arith) h) in
      let e : set d i (get_or l i 0) ≡ paste d₀ 0 l (i + 1) = rw (c.is, add-one i) s in
      record { is = e; most = omega arith; long = ap length e ∙ length-paste d₀ 0 l (i + 1) (omega arith) (omega arith) }

  pub copying_done : Copying l d₀ d i → length l ≤ i → d ≡ l ++ drop (length l) d₀
  copying_done c h =
      let e : i ≡ length l = omega (arith, c.most) in
      let z : 0 + length l ≡ length l = omega arith in
      c.is ∙ rw (e, z, take_all (length l) l (omega arith))
