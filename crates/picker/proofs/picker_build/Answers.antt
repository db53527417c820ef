-- `picker::picker_build` meets its contract. Assumes nothing.
use Rattle.picker.specs.Numbers.{of_build}
use Rattle.picker.proofs.Answers.{packs, makes, made, build_answers, built_passes, built-returned, lent_is}
use Rattle.picker.proofs.picker_build.Goals as goal

pub packed-requires : goal.packed-requires
packed-requires c = packs (build_answers _ _ c.build.ensures.answer (made of_build _ _ c.map.ensures.cases))

pub returns : goal.returns
returns c =
    rw (← lent_is _ _ _ _ _ c.lent_heads-heads.ensures)
    (let i = (made of_build _ _ c.map.ensures.cases) in
    let A = build_answers _ _ c.build.ensures.answer i in
    let e = c.packed.ensures in
    record {
      answer = makes A e;
      leaves = c.build.ensures.leaves;
      passes = λ l. built_passes i (packs A) e l _ _ _ _ c.build.ensures.passes;
      algorithms = λ l. built-returned i (packs A) e l _ _ _ _ c.build.ensures.algorithms;
    })
