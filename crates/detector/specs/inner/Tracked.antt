-- Where to look, as a build keeps it up: inner functions require it, and no rule of document 01 speaks of it.
use Rattle.graph.specs.Buffers.{Buffers}
use Rattle.graph.specs.inner.Tracks.{Tracks}
use Rattle.detector.specs.declared.inner.turns.Tracked.{Tracked}

-- whoever waits is in the list, and whoever has something in a buffer was seen
abbrev pub Follows : Tracked → Buffers → Type 0
Follows t g = Tracks t.waits t.seen g
