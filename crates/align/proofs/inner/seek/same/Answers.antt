-- `align::inner::seek::same` meets its contract: by `find`. Assumes nothing.
use Rattle.std.proofs.Common.{◌≡◌, ℕ, Bool, true, false, rules}
use Rattle.std.proofs.lemmas.Iterator.{first_from_Range}
use Rattle.operations.specs.Operations.{same}
use Rattle.chart.specs.Charts.{operation}
use Rattle.chart.proofs.Found.{first_by_find}
use Rattle.align.specs.Steps.{find}
use Rattle.align.proofs.inner.seek.same.Goals as goal

pub returns : goal.returns
unfolding find
returns c =
    let p : ℕ → Bool = λ k. same (operation c.args.rows.now k) (operation c.args.part.now c.args.j) in
    first_by_find p _ _ (first_from_Range _ _ _ _ (λ k. p k ≡ true) (λ k. p k ≡ false) c.find.ensures.ran
    (λ x q k. search rules) (λ x q k. search rules))
