-- `operations::inner::trials::possible` meets its contract: below, at and above. Assumes nothing.
use Rattle.operations.proofs.Independent.{possible-is}
use Rattle.std.proofs.Common.{arith}
use Rattle.operations.proofs.inner.trials.possible.Goals as goal

pub returns : goal.returns
returns c =
    let a = c.args in
    rw (
      c.alike-3.ensures,
      c.when_above.ensures,
      c.above.ensures,
      c.alike-2.ensures,
      c.when_equal.ensures,
      c.alike.ensures,
      c.when_below.ensures,
      c.below.ensures,
    ) (possible-is a.f (omega arith) a.p)
