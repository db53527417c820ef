-- `chart::fault` meets its contract: test by test. Assumes nothing.
use Rattle.std.proofs.Common.{ap}
use Rattle.std.specs.Prelude.{Some}
use Rattle.chart.specs.Faults.{count_fault, alarm_fault, fault}
use Rattle.chart.proofs.fault.Goals as goal

pub returns-then-lacks : goal.returns-then-lacks
unfolding fault count_fault alarm_fault
returns-then-lacks c = rw (← c.lacks.ensures, c.if-lacks.true) (ap Some c.new.ensures)

pub returns-then-exceeds : goal.returns-then-exceeds
unfolding fault count_fault alarm_fault
returns-then-exceeds c = rw (← c.lacks.ensures, c.if-lacks.false, ← c.exceeds.ensures, c.if-exceeds.true) (ap Some c.new-then-exceeds.ensures)

pub returns-then-alarm_outside : goal.returns-then-alarm_outside
unfolding fault count_fault alarm_fault
returns-then-alarm_outside c = rw (← c.lacks.ensures, c.if-lacks.false, ← c.exceeds.ensures, c.if-exceeds.false, ← c.alarm_outside.ensures, c.if-alarm_outside.true) (ap Some c.new-then-alarm_outside.ensures)

pub returns : goal.returns
unfolding fault count_fault alarm_fault
returns c = rw (← c.lacks.ensures, c.if-lacks.false, ← c.exceeds.ensures, c.if-exceeds.false, ← c.alarm_outside.ensures, c.if-alarm_outside.false) c.rows_fault.ensures
