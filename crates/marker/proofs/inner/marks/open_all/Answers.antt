-- `marker::inner::marks::open_all` meets its contract. Assumes nothing.
use Rattle.marker.proofs.Seen.{holds_opened}
use borrow.Author.Rules.{rules}
use Rattle.marker.proofs.inner.marks.open_all.Goals as goal

pub returns : goal.returns
returns c = (search rules, search holds_opened)
