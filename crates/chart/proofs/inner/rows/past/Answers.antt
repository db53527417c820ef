-- `chart::inner::rows::past` meets its contract: the rows passed leave the place or a lower one. Assumes nothing.
use Rattle.std.proofs.Common.{◌≡◌, rules, tests}
use Rattle.std.proofs.lemmas.Iterator.{first_from_Range}
use Rattle.chart.specs.Charts.{from}
use Rattle.chart.proofs.Rows.{past_found}
use Rattle.chart.proofs.inner.rows.past.Goals as goal

pub returns : goal.returns
returns c =
    let t = c.args.rows.now in
    let p = c.args.place in
    rw c.unwrap_or.ensures
    (past_found t p c.requires.ascending c.requires.lower c.find.result
    (first_from_Range _ _ _ _ (λ i. from t i ≡ p → ⊥) (λ i. from t i ≡ p) c.find.ensures.ran
    (λ x q k. search (rules, tests)) (λ x q k. search (rules, tests))))
