-- `words::inner::members::lowest` meets its contract. Assumes nothing.
use Rattle.words.proofs.Bits.{lowest-is}
use native.Mathlib.Omega.{arith}
use Rattle.words.proofs.inner.members.lowest.Goals as goal

pub returns : goal.returns
returns c = lowest-is _ c.requires (omega arith)
