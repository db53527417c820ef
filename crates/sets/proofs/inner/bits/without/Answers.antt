-- `sets::inner::bits::without` meets its contract. Assumes nothing.
use mathlib.Core.Path.{ap}
use Rattle.sets.specs.Sets.{without}
use Prim.Native.Nat.{ℕ, ◌-◌, ◌^◌}
use lib.Bits.{bit_and}
use Rattle.sets.proofs.inner.bits.without.Goals as goal

pub returns : goal.returns
unfolding without
returns c = ap (λ (x : ℕ). bit_and c.args.s (2 ^ 64 - 1 - x)) c.alone.ensures
