-- `marker::inner::marks::rank` meets its contract. Assumes nothing.
use mathlib.Core.Path.{refl}
use Rattle.marker.proofs.Ranking.{rank_is}
use Rattle.marker.proofs.Seen.{holds_started}
use Rattle.marker.proofs.inner.marks.rank.Goals as goal

pub open_all-requires : goal.open_all-requires
open_all-requires c = search holds_started

pub returns : goal.returns
returns c =
    rank_is _ _ _ c.told-marks c.told-targets c.requires.0 c.plain.ensures refl c.open_all.ensures.0 c.cover_all.ensures
