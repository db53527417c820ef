-- `marker::inner::marks::open_out` meets its contract. Assumes nothing.
use Rattle.marker.proofs.Seen.{beyond_out}
use borrow.Author.Rules.{rules}
use Rattle.marker.proofs.inner.marks.open_out.Goals as goal

pub returns : goal.returns
returns c = (search rules, search beyond_out)
