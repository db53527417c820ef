-- `marker::inner::spread::lead_all` meets its contract. Assumes nothing.
use Rattle.marker.proofs.Leads.{Led}
use Rattle.marker.proofs.inner.spread.lead_all.Given as goal

abbrev pub invariant-loop-p : goal.invariant-loop-p
invariant-loop-p l = Led l.targets l.marks l.initial.leads l.leads l.p
