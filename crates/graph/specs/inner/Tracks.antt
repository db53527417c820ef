-- Where to look: sets and lists of pairs that have every pair that matters. Contracts of inner functions speak of them,
-- and no rule of document 01.
use Rattle.std.specs.Prelude.{◌≡◌, Bool, true, false, List, ℕ, ◌<◌, length, get_or}
use Rattle.records.specs.Records.{index}
use Rattle.words.specs.inner.Words.{Member, Listed, listed}
use Rattle.graph.specs.Buffers.{Buffers}

-- each pair that has something in a buffer is a member of the set: a mark, a set or a flag other than 0, a target other
-- than 65535. A set with more members does too: that of all pairs serves any buffers
pub record Covers (seen : List ℕ) (g : Buffers) : Type 0 where
  pub long : length seen ≡ 64
  pub marks : (i : ℕ) → i < 4096 → 0 < get_or g.marks i 0 → Member seen i
  pub targets : (i r : ℕ) → i < 4096 → r < 2 → (get_or g.targets (index i r) 0 ≡ 65535 → ⊥) → Member seen i
  pub sets : (i : ℕ) → i < 4096 → 0 < get_or g.sets i 0 → Member seen i
  pub waiting : (i : ℕ) → i < 4096 → 0 < get_or g.waiting i 0 → Member seen i

-- each pair that waits is in the list. A list with more pairs does too
pub record Lists (l w : List ℕ) : Type 0 where
  pub long : length l ≡ 65
  pub each : (i : ℕ) → i < 4096 → 0 < get_or w i 0 → Listed l i

-- both: what a turn keeps up
pub record Tracks (l seen : List ℕ) (g : Buffers) : Type 0 where
  pub lists : Lists l g.waiting
  pub covers : Covers seen g

-- the list after pair n was told whether it is to wait
unfoldable pub listed_if : Bool → List ℕ → ℕ → List ℕ
listed_if true l n = listed l n
listed_if false l n = l
