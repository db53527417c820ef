-- `graph::inner::graphs::leave` meets its contract. Assumes nothing.
use mathlib.Core.Path.{refl}
use Rattle.graph.proofs.Keeping.{both-targets}
use Rattle.graph.proofs.inner.graphs.leave.Goals as goal

pub returns : goal.returns
returns c = (refl, both-targets c.args.targets.now c.args.n, refl, refl)
