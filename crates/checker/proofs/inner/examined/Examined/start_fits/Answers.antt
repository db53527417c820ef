-- `checker::inner::examined::Examined::start_fits` meets its contract: start by start. Assumes nothing.
use Rattle.std.proofs.Common.{refl}
use Rattle.checker.proofs.Shapes.{start_unmarked, start-pair, start-kept, start_none}
use Rattle.checker.proofs.inner.examined.Examined.start_fits.Goals as goal

pub returns-then-self-pair-ne1 : goal.returns-then-self-pair-ne1
returns-then-self-pair-ne1 c = start_unmarked _ _ _ c.start_pair-pair.ensures c.if-n-pair.true c.if-self-pair-ne1.true

pub returns-then-n-pair : goal.returns-then-n-pair
returns-then-n-pair c =
    start-pair _ _ _ c.start_pair-pair.ensures c.if-n-pair.true c.if-self-pair-ne1.false c.old_of.ensures
    c.new_of.ensures c.fair.ensures

pub returns-then-n-kept : goal.returns-then-n-kept
returns-then-n-kept c = start-kept _ _ _ c.start_kept-kept.ensures c.if-n-kept.true refl

pub returns : goal.returns
returns c = start_none _ _ _ c.start_pair-pair.ensures c.start_kept-kept.ensures c.if-n-pair.false c.if-n-kept.false
