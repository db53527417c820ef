-- Marks that are looked at together. They only say where to look: no rule of document 01 speaks of it.
use Rattle.std.specs.Prelude.{ℕ, zero, suc, ◌+◌, ◌*◌, List, slice_index}

-- k bytes from n on as one number, the first of them lowest
unfoldable pub packed : List ℕ → ℕ → ℕ → ℕ
packed m n zero = 0
packed m n (suc k) = slice_index m n + 256 * packed m (n + 1) k
