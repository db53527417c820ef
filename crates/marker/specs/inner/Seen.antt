-- Where Algorithm 1 has to look: sets of pairs, of 64 words at most, that have every pair that matters. No rule of
-- document 01 speaks of them.
use Rattle.std.specs.Prelude.{◌≡◌, List, ℕ, ◌≤◌, ◌<◌, length, get_or}
use Rattle.words.specs.inner.Words.{Member}

-- every pair with a mark is a member of w
pub record Holds (w m : List ℕ) : Type 0 where
  pub most : length w ≤ 64
  pub has : (n : ℕ) → n < 4096 → 0 < get_or m n 0 → Member w n

-- every pair beyond is one
pub record HoldsBeyond (w m : List ℕ) : Type 0 where
  pub most : length w ≤ 64
  pub has : (n : ℕ) → n < 4096 → get_or m n 0 ≡ 4 → Member w n
