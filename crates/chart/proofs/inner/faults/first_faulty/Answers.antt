-- `chart::inner::faults::first_faulty` meets its contract: by `find`. Assumes nothing.
use Rattle.std.proofs.Common.{◌≡◌, true, false, rules}
use Rattle.std.proofs.lemmas.Iterator.{first_from_Range}
use Rattle.chart.specs.Charts.{charted}
use Rattle.chart.specs.inner.Faulty.{faulty}
use Rattle.chart.proofs.Found.{first_by_find}
use Rattle.chart.proofs.inner.faults.first_faulty.Goals as goal

pub returns : goal.returns
returns c =
    let p = faulty (charted c.args.head c.args.rows.now) in
    first_by_find p _ _ (first_from_Range _ _ _ _ (λ i. p i ≡ true) (λ i. p i ≡ false) c.find.ensures.ran
    (λ x q k. search rules) (λ x q k. search rules))
