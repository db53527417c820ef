-- `marker::inner::spread::lead_word` meets its contract. Assumes nothing.
use Rattle.marker.proofs.Leads.{Leading}
use Rattle.marker.proofs.inner.spread.lead_word.Given as goal

abbrev pub invariant-loop-q : goal.invariant-loop-q
invariant-loop-q l = Leading l.targets l.marks l.rest l.p l.initial.leads l.leads l.q-iterator.0
