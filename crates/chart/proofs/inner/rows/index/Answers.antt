-- `chart::inner::rows::index` meets its contract: both tables' ends are stored, and carried to the places without rows. Assumes nothing.
use mathlib.Core.Path.{◌∙◌}
use Prim.Native.Nat.{◌+◌}
use lib.ListN.{get_or-replicate}
use Rattle.chart.proofs.Rows.{indexed}
use native.Mathlib.Omega.{arith}
use Rattle.chart.proofs.inner.rows.index.Goals as goal

pub ends-requires : goal.ends-requires
ends-requires c = record { indexable = (c.requires.indexable, omega arith); blank = λ p u. get_or-replicate 130 (0 + p) 0 0 (omega arith) }

pub ends-requires-2 : goal.ends-requires-2
ends-requires-2 c = record { indexable = (c.requires.indexable_2, omega arith); blank = λ p u. c.ends.ensures.above (65 + p) (omega arith) ∙ get_or-replicate 130 (65 + p) 0 0 (omega arith) }

pub returns : goal.returns
returns c = indexed _ _ c.requires.indexable c.requires.indexable_2 c.ends.ensures c.ends-2.ensures c.carry.ensures c.carry-2.ensures
