-- A record of the stated lengths.
use mathlib.Core.Path.{◌≡◌}
use lib.ListN.{length}
use Rattle.records.specs.Records.{Record}

-- "Lent: marks (4,160 bytes), targets (8,192 u16 [..]), sets (4,096 u64 [..])". `Returned` does not ask for it: it is what
-- the theorem of proofs/Determined.antt supposes of a record
pub record Lengths (R : Record) : Type 0 where
  pub marks : length R.graph.marks ≡ 4160
  pub targets : length R.graph.targets ≡ 8192
  pub sets : length R.graph.sets ≡ 4096
