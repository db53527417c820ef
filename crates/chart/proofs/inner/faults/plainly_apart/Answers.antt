-- `chart::inner::faults::plainly_apart` meets its contract: the first row of a place, a third, and a second. Assumes nothing.
use Rattle.chart.proofs.Faults.{apart-first, apart-second}
use Rattle.chart.proofs.inner.faults.plainly_apart.Goals as goal

pub returns-then-not-same_place : goal.returns-then-not-same_place
returns-then-not-same_place c = λ e. search apart-first

pub returns : goal.returns
returns c = λ e. search (apart-second, c.opposed.ensures e)
