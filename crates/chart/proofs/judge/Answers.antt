-- `chart::judge` meets its contract: a table of whole rows has the faults of its chart. Assumes nothing.
use Rattle.std.specs.Prelude.{Some}
use Rattle.std.proofs.Common.{ap, not}
use Rattle.chart.specs.Faults.{refusal}
use Rattle.chart.proofs.judge.Goals as goal

pub returns-then-not-whole : goal.returns-then-not-whole
unfolding refusal
returns-then-not-whole c = rw (← c.whole.ensures, (ap not c.if-not-whole.true)) (ap Some c.sole.ensures)

pub returns : goal.returns
unfolding refusal
returns c = rw (← c.whole.ensures, (ap not c.if-not-whole.false)) c.fault.ensures
