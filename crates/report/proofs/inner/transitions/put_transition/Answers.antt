-- Where there is no target, nothing is put. Assumes nothing.
use Rattle.report.proofs.Fronts.{transition-none, transition-some}
use Rattle.report.proofs.inner.transitions.put_transition.Goals as goal

pub returns-in_default : goal.returns-in_default
returns-in_default c = transition-none _ _ _ _ _ 0 c.in_default.is

pub returns : goal.returns
returns c = transition-some _ _ _ _ _ _ _ _ _ c.in-Some.is c.mark_of-mark.ensures c.put_line.ensures
