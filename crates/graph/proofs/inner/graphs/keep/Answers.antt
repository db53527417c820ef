-- `graph::inner::graphs::keep` meets its contract. Assumes nothing.
use mathlib.Core.Path.{refl}
use Rattle.graph.proofs.Keeping.{keep-is}
use Rattle.graph.proofs.inner.graphs.keep.Goals as goal

pub returns : goal.returns
returns c = keep-is _ _ _ _ _ c.leave_all.ensures c.kept.ensures refl
