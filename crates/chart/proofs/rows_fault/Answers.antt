-- `chart::rows_fault` meets its contract: a row that is found, a conflict that is found, or neither. Assumes nothing.
use Rattle.std.specs.Prelude.{Some}
use mathlib.Core.Path.{sym, ap, ◌∙◌}
use Rattle.chart.specs.Charts.{charted}
use Rattle.chart.specs.inner.Faulty.{faulty}
use Rattle.chart.proofs.Faultless.{unfound}
use Rattle.chart.proofs.Faults.{found_below, row_told, conflict_told, none_told}
use Rattle.chart.proofs.rows_fault.Goals as goal

pub row_reason-requires : goal.row_reason-requires
row_reason-requires c = found_below (faulty (charted c.args.head c.args.rows.now)) _ _ (sym c.in-Some.is ∙ c.first_faulty.ensures)

pub returns-in-Some : goal.returns-in-Some
returns-in-Some c = row_told _ (charted _ _) c.first_faulty.ensures c.in-Some.is c.row_reason.ensures (ap Some c.new.ensures)

pub first_conflict-requires : goal.first_conflict-requires
first_conflict-requires c = unfound (charted c.args.head c.args.rows.now) c.first_faulty.ensures c.in_default.is

pub returns-in-Some-first_conflict : goal.returns-in-Some-first_conflict
returns-in-Some-first_conflict c = conflict_told _ (charted _ _) c.first_faulty.ensures c.in_default.is c.first_conflict.ensures c.in-Some-first_conflict.is (ap Some c.new-in-Some-first_conflict.ensures)

pub returns-in-None : goal.returns-in-None
returns-in-None c = none_told _ (charted _ _) c.first_faulty.ensures c.in_default.is c.first_conflict.ensures c.in-None.is
