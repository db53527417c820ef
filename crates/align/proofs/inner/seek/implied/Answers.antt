-- `align::inner::seek::implied` meets its contract: nothing where no values meet o, else by `find`. Assumes nothing.
use mathlib.Core.Path.{sym, ◌∙◌}
use Rattle.std.proofs.Common.{◌≡◌, ◌&&◌, ℕ, Bool, true, false, rules}
use Rattle.std.proofs.lemmas.Iterator.{first_from_Range}
use Rattle.operations.specs.Operations.{is_assumption}
use Rattle.operations.specs.Trials.{implication}
use Rattle.chart.specs.Charts.{operation}
use Rattle.chart.proofs.Found.{first_by_find}
use Rattle.align.specs.Steps.{find, is_implied}
use Rattle.align.proofs.Seek.{never-implies}
use Rattle.align.proofs.inner.seek.implied.Goals as goal

pub returns-then-never : goal.returns-then-never
returns-then-never c = never-implies _ _ (sym c.never.ensures.is ∙ c.if-never.true)

pub returns : goal.returns
unfolding find
returns c =
    let p : ℕ → Bool = λ k. is_assumption (operation c.args.rows.now k) && is_implied (implication c.args.o (operation c.args.rows.now k)) in
    first_by_find p _ _ (first_from_Range _ _ _ _ (λ k. p k ≡ true) (λ k. p k ≡ false) c.find.ensures.ran
    (λ x q k. search rules) (λ x q k. search rules))
