-- `checker::inner::shape::line_fits` meets its contract: the first n, then the others. Assumes nothing.
use Rattle.checker.proofs.Shapes.{line_over, line-within}
use Rattle.checker.proofs.inner.shape.line_fits.Goals as goal

pub returns-then-most-worst : goal.returns-then-most-worst
returns-then-most-worst c = line_over c.args.marks.now c.args.from c.args.n c.args.most c.args.never c.requires.1 c.requires.3 (c.worst.ensures _ c.requires.2) c.if-most-worst.true

pub returns : goal.returns
returns c = line-within c.args.marks.now c.args.from c.args.n c.args.most c.args.never c.requires.1 c.requires.3 (c.worst.ensures _ c.requires.2) c.if-most-worst.false c.blank.ensures
