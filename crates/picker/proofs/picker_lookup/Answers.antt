-- `picker::picker_lookup` meets its contract: a part has 12 entries at most. Assumes nothing.
use Rattle.picker.proofs.Handed.{length-fits, part_short, part_below, length-refused, part_handed}
use native.Mathlib.Omega.{arith}
use Rattle.chart.specs.Compared.{compared}
use Rattle.picker.proofs.Answers.{lent_is}
use Rattle.picker.proofs.picker_lookup.Goals as goal

pub packed-requires : goal.packed-requires
packed-requires c = length-fits c.sole.ensures

pub returns-then-rows-ne12 : goal.returns-then-rows-ne12
returns-then-rows-ne12 c = length-refused _ _ _ _ c.if-rows-ne12.true c.sole.ensures c.packed.ensures

pub copy-requires : goal.copy-requires
copy-requires c =
    let X = compared c.lent_heads-heads.result c.args.old_rows.now c.args.new_rows.now in
    let s = part_short X _ _ (λ k. omega (arith, c.type_inv.old_rows k)) (λ k. omega (arith, c.type_inv.new_rows k)) c.lookup-part.ensures.is in
    omega (arith, c.if-rows-ne12.false)

pub packed-requires-2 : goal.packed-requires-2
packed-requires-2 c =
    let X = compared c.lent_heads-heads.result c.args.old_rows.now c.args.new_rows.now in
    part_below X _ _ (λ k. omega (arith, c.type_inv.old_rows k)) (λ k. omega (arith, c.type_inv.new_rows k)) c.lookup-part.ensures.is c.from.ensures

pub returns : goal.returns
returns c =
    rw (← lent_is _ _ _ _ _ c.lent_heads-heads.ensures)
    (part_handed _ _ _ _ c.if-rows-ne12.false c.lookup-part.ensures.is c.copy.ensures c.from.ensures c.packed-2.ensures)
