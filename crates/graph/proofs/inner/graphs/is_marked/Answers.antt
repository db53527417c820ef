-- `graph::inner::graphs::is_marked` meets its contract. Assumes nothing.
use mathlib.Core.Path.{refl}
use Rattle.graph.specs.Buffers.{marked}
use Rattle.graph.proofs.inner.graphs.is_marked.Goals as goal

pub returns : goal.returns
unfolding marked
returns c = refl
