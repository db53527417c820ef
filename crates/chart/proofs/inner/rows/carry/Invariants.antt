-- `chart::inner::rows::carry` meets its contract. The invariant: the entries of the places passed are there. Assumes nothing.
use mathlib.Core.Path.{◌≡◌}
use Rattle.chart.specs.inner.Index.{last_of, Carried}
use Rattle.chart.proofs.inner.rows.carry.Given as goal

abbrev pub invariant-loop-p : goal.invariant-loop-p
invariant-loop-p l = Carried l.initial.entries l.at l.p l.entries × (l.last ≡ last_of l.initial.entries l.at l.p)
