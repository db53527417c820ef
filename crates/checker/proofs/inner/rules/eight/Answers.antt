-- `checker::inner::rules::eight` meets its contract: the library joins the eight bytes alike. Assumes nothing.
use Rattle.std.proofs.Common.{◌∙◌, ap, get_or, arith}
use Rattle.std.proofs.lemmas.List.{get_or-take, get_or-drop}
use Rattle.checker.proofs.Absent.{eight_is}
use Rattle.checker.proofs.inner.rules.eight.Goals as goal

pub returns : goal.returns
returns c =
    let w = rw c.unwrap-bytes.ensures at c.first_chunk.ensures.cases in
    c.from_le_bytes.ensures
    ∙ eight_is c.args.marks.now c.unwrap-bytes.result.now c.args.n (λ i l.
    ap (λ s. get_or s i 0) w.same ∙ get_or-take 8 _ i 0 l
    ∙ get_or-take _ _ i 0 (omega (arith, c.requires)) ∙ get_or-drop c.args.n c.args.marks.now i 0)
