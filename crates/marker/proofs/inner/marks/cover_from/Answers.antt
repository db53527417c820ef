-- `marker::inner::marks::cover_from` meets its contract. Assumes nothing.
use Rattle.marker.proofs.Covering.{covers-both}
use Rattle.marker.proofs.inner.marks.cover_from.Goals as goal

pub returns : goal.returns
returns c = covers-both _ _ _ c.requires.1 c.cover.ensures c.cover-2.ensures
