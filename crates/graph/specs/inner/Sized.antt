-- The stated lengths, which contracts of inner functions require.
use Rattle.std.specs.Prelude.{◌≡◌, length}
use Rattle.graph.specs.Buffers.{Buffers}

-- "Lent: marks (4,160 bytes), targets (8,192 u16 [..]), sets (4,096 u64 [..]), waiting (4,096 bytes)"
pub record Sized (g : Buffers) : Type 0 where
  pub marks : length g.marks ≡ 4160
  pub targets : length g.targets ≡ 8192
  pub sets : length g.sets ≡ 4096
  pub waiting : length g.waiting ≡ 4096
