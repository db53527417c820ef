-- Sets of pairs as bits of words: 64, or 65 in a list. They only say where to look: no rule of document 01 speaks of
-- them.
use Rattle.std.specs.Prelude.{◌≡◌, List, ℕ, zero, suc, ◌-◌, ◌/◌, ◌%◌, ◌≤◌, ◌<◌, get_or, set}
use Rattle.sets.specs.Sets.{bit, joined, with, without}

-- pair n is a member
abbrev pub Member : List ℕ → ℕ → Type 0
Member w n = bit (get_or w (n / 64) 0) (n % 64) ≡ 1

-- pair n became one
unfoldable pub added : List ℕ → ℕ → List ℕ
added w n = set w (n / 64) (with (get_or w (n / 64) 0) (n % 64))

-- pair n is none any more
unfoldable pub removed : List ℕ → ℕ → List ℕ
removed w n = set w (n / 64) (without (get_or w (n / 64) 0) (n % 64))

-- the bits that some of the first n words have: the new places of their members
unfoldable pub gathered : List ℕ → ℕ → ℕ
gathered w zero = 0
gathered w (suc n) = joined (gathered w n) (get_or w n 0)

-- ---- 65 words: the last has a bit for each of the others that may have one, so that the first of these is found at
-- once
abbrev pub Listed : List ℕ → ℕ → Type 0
Listed w n = Member w n × (bit (get_or w 64 0) (n / 64) ≡ 1)

-- pair n was put in the list
unfoldable pub listed : List ℕ → ℕ → List ℕ
listed w n = set (added w n) 64 (with (get_or (added w n) 64 0) (n / 64))

-- ---- bits of one word
-- r is the lowest bit of x from k on, or 64
pub record LowestFrom (x k r : ℕ) : Type 0 where
  pub least : k ≤ r
  pub most : r ≤ 64
  pub none : (i : ℕ) → k ≤ i → i < r → bit x i ≡ 0
  pub here : r < 64 → bit x r ≡ 1

-- r is one more than its highest bit before k, or 0
pub record HighestBefore (x k r : ℕ) : Type 0 where
  pub most : r ≤ k
  pub none : (i : ℕ) → r ≤ i → i < k → bit x i ≡ 0
  pub here : 0 < r → bit x (r - 1) ≡ 1
