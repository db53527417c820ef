-- `operations::inner::meaning::related` meets its contract: by the three orders of two numbers. Assumes nothing.
use Rattle.operations.proofs.Order.{related-is}
use Rattle.operations.proofs.inner.meaning.related.Goals as goal

pub returns : goal.returns
returns c = rw (c.when_above.ensures, c.when_equal.ensures, c.when_below.ensures) (related-is _ _ _)
