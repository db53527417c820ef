-- `checker::inner::shape::place_fits` meets its contract: the kept nodes, pairs, and places that do not exist. Assumes
-- nothing.
use Rattle.checker.proofs.Shapes.{place_kept, place_pairs, place_none}
use Rattle.checker.proofs.inner.shape.place_fits.Goals as goal

pub returns-then-p-eq64 : goal.returns-then-p-eq64
returns-then-p-eq64 c =
    place_kept c.args.heads c.args.marks.now c.args.p c.shown-n.result c.shown-n.ensures.1 c.if-p-eq64.true
    c.line_fits.ensures

pub returns-then-p-shown : goal.returns-then-p-shown
returns-then-p-shown c =
    place_pairs c.args.heads c.args.marks.now c.args.p c.shown-n.result c.shown-n.ensures.1 c.shown.result c.requires
    c.if-p-eq64.false c.shown.ensures.1 c.if-p-shown.true c.line_fits-then-p-shown.ensures

pub returns : goal.returns
returns c =
    place_none c.args.heads c.args.marks.now c.args.p c.shown-n.result c.shown-n.ensures.1 c.shown.result c.requires
    c.if-p-eq64.false c.shown.ensures.1 c.if-p-shown.false c.blank.ensures
