-- `operations::inner::trials::met_by_some` meets its contract: by std's search. Assumes nothing.
use Rattle.std.proofs.Common.{◌∙◌, rules, tests}
use Rattle.std.proofs.lemmas.Iterator.{YieldsList-from_slice}
use Rattle.std.proofs.lemmas.Iterator.Search.{any_from_yields_List}
use Rattle.operations.specs.inner.ShortWays.{meets_both}
use Rattle.operations.proofs.Searches.{any_of_std}
use Rattle.operations.proofs.inner.trials.met_by_some.Goals as goal

pub returns : goal.returns
returns c =
    let a = c.args in
    let p = meets_both a.f a.p a.g a.q in
    any_from_yields_List p _ _ _ c.any.ensures.ran (YieldsList-from_slice a.l.now cc) (λ x b q k. search (rules, tests))
    ∙ any_of_std p a.l.now
