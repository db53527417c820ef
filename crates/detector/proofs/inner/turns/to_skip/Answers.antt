-- `detector::inner::turns::to_skip` meets its contract: none where the table has none, else row by row. Assumes nothing.
use mathlib.Core.Path.{ap, ◌∙◌}
use native.Mathlib.Omega.{arith}
use Rattle.chart.specs.declared.places.NewPlace.{NewPlace}
use Rattle.chart.specs.Charts.{leaving}
use Rattle.chart.proofs.Takable.{part_none}
use Rattle.detector.proofs.Rows.{skips_none, skips_by}
use Rattle.detector.proofs.inner.turns.to_skip.Goals as goal

pub returns-then-not-any_never : goal.returns-then-not-any_never
returns-then-not-any_never c =
    skips_none (leaving c.args.new_rows.now _) (part_none c.args.new_rows.now _ c.requires.n_bound.1 c.if-not-any_never.true)

pub rows_of-part-requires : goal.rows_of-part-requires
rows_of-part-requires c =
    let e = ap (λ (q : NewPlace). q.0) c.new_of.ensures in
    record { indexed = c.requires.indexed.0; ascending = (c.requires.indexed.1, omega arith) }

pub returns : goal.returns
returns c =
    let e = c.rows_of-part.ensures ∙ ap (λ (q : NewPlace). leaving c.args.new_rows.now q.0) c.new_of.ensures in
    skips_by e c.can_be_taken.ensures c.can_be_taken-2.ensures
