-- `marker::inner::marks::sweep_both` meets its contract. Assumes nothing.
use Rattle.marker.proofs.Spreads.{passed_one, passed_two}
use borrow.Author.Rules.{rules}
use Rattle.marker.proofs.inner.marks.sweep_both.Goals as goal

pub returns-then-sweep-eq0 : goal.returns-then-sweep-eq0
returns-then-sweep-eq0 c = (search passed_one, search rules)

pub returns : goal.returns
returns c = (search passed_two, search rules)
