-- `chart::open_to` meets its contract: a chart that is judged faultless, and the place. Assumes nothing.
use mathlib.Core.Path.{ap, ◌∙◌}
use Rattle.std.specs.Prelude.{◌&&◌, ltb}
use Rattle.base.proofs.Answers.{ok-missing}
use Rattle.chart.specs.Lookup.{open_to}
use Rattle.chart.proofs.open_to.Goals as goal

pub returns : goal.returns
unfolding open_to
returns c = ap (λ b. b && ltb c.args.place c.args.head.places) (c.is_ok.ensures.value ∙ ok-missing _ _ c.judge.ensures)
