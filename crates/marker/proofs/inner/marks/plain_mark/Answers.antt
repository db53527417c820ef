-- `marker::inner::marks::plain_mark` meets its contract. Assumes nothing.
use Rattle.marker.proofs.Ranking.{plain_zero, plain_else}
use Rattle.marker.proofs.inner.marks.plain_mark.Goals as goal

pub returns-then-x-eq0 : goal.returns-then-x-eq0
returns-then-x-eq0 c = search plain_zero

pub returns : goal.returns
returns c = search plain_else
