-- `picker::picker_write` meets its contract. Assumes nothing.
use lib.ListN.{length}
use Rattle.picker.specs.Numbers.{one}
use Rattle.picker.proofs.Answers.{packs, makes, made, write_answers}
use native.Mathlib.Omega.{arith}
use Rattle.picker.proofs.picker_write.Goals as goal

pub packed-requires : goal.packed-requires
packed-requires c = packs (write_answers c.args.places c.args.alarm c.args.rows.now (length c.args.bytes.now) (omega arith) (omega arith) (λ i. omega (arith, c.type_inv.rows i)) c.write.ensures.is.0 (made one _ _ c.map.ensures.cases))

pub returns : goal.returns
returns c = (makes (write_answers c.args.places c.args.alarm c.args.rows.now (length c.args.bytes.now) (omega arith) (omega arith) (λ i. omega (arith, c.type_inv.rows i)) c.write.ensures.is.0 (made one _ _ c.map.ensures.cases)) c.packed.ensures, c.write.ensures.is.1)
