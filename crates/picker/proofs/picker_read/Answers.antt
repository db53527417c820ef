-- `picker::picker_read` meets its contract. Assumes nothing.
use Rattle.picker.specs.inner.Below.{of_heading}
use Rattle.picker.proofs.Answers.{packs, makes, made, read_answers}
use Rattle.picker.proofs.picker_read.Goals as goal

pub packed-requires : goal.packed-requires
packed-requires c = packs (read_answers c.args.text.now c.args.table.now c.read.ensures.is.0 (made of_heading _ _ c.map.ensures.cases))

pub returns : goal.returns
returns c = (makes (read_answers c.args.text.now c.args.table.now c.read.ensures.is.0 (made of_heading _ _ c.map.ensures.cases)) c.packed.ensures, c.read.ensures.is.1)
