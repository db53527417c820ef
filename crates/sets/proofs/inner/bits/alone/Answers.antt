-- `sets::inner::bits::alone` meets its contract: a shift by v is 2^v. Assumes nothing.
use mathlib.Core.Path.{◌∙◌}
use native.Mathlib.Nat.{one-mul}
use native.Mathlib.Omega.{arith}
use lib.Pow.{shl_exact}
use lib.Dec.{lit<}
use Rattle.sets.specs.Sets.{alone}
use Rattle.sets.proofs.inner.bits.alone.Goals as goal

pub returns : goal.returns
unfolding alone
returns c = shl_exact {a = 1} 1 _ 64 (lit< tt) (omega arith) ∙ one-mul _
