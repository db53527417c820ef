-- What the functions that print leave, a portion of what "the program [..] prints" at a time: bytes at the front of a
-- lent buffer.
use Rattle.std.specs.Prelude.{◌≡◌, List, [], ◌++◌, ℕ, ◌≤◌, ◌<◌, length, take, drop}
use Rattle.records.specs.Records.{Graph}
use Rattle.report.specs.Transitions.{remaining}

-- Of what "The program [..] prints", the bytes, and no others, are put at the front of a buffer, and r is their count.
-- All is said by `put` and `long`; the rest follows from them, and is what the program has to know.
pub record Front (before bytes after : List ℕ) (r : ℕ) : Type 0 where
  pub put : after ≡ bytes ++ drop (length bytes) before
  pub long : r ≡ length bytes
  pub is : take r after ≡ bytes
  pub fits : r ≤ length after
  pub counts : r ≡ length (take r after)

-- "then for each transition": some of those from pair n on stand at the front of a buffer; they, and then those from
-- pair `next` on, are those from pair n on. As long as there are pairs, at least one is taken.
pub record Portioned (t : List ℕ) (G : Graph) (n : ℕ) (before after : List ℕ) (next r : ℕ) : Type 0 where
  pub bytes : List ℕ
  pub front : Front before bytes after r
  pub rest : bytes ++ remaining t G next ≡ remaining t G n
  pub onward : n < 4096 → n < next

-- "then for each transition": what main writes of those from pair n on (`condition-printed`, proofs/Whole.antt), one
-- portion after the other, each the bytes that a call left at the front of a buffer, until there are no more pairs.
pub data Portions (t : List ℕ) (G : Graph) : ℕ → List ℕ → Type 0 where
  last : {n : ℕ} → 4096 ≤ n → Portions t G n []
  more : {n next r : ℕ} {before after rest : List ℕ} → n < 4096
      → Portioned t G n before after next r → Portions t G next rest
      → Portions t G n (take r after ++ rest)
