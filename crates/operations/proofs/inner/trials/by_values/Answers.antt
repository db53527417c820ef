-- `operations::inner::trials::by_values` meets its contract: the values of one variable, without those that
-- stand again. Assumes nothing.
use Rattle.operations.proofs.Fewer.{with-constant-bound, by_one}
use Rattle.operations.proofs.inner.trials.by_values.Goals as goal

pub returns : goal.returns
returns c =
    let a = c.args in
    let (F, G, h) = c.requires in
    by_one _ _ _ _ c.order_of-s.ensures c.order_of-t.ensures (with-constant-bound a.f F) (with-constant-bound a.g G)
    c.points-l.ensures c.repeated-k.ensures F G h c.met_by_some.ensures
