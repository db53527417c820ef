-- `words::inner::members::gathered` meets its contract. Assumes nothing.
use Rattle.words.proofs.Words.{gathering_none, gathering_more}
use native.Mathlib.Omega.{arith}
use Rattle.words.proofs.inner.members.gathered.Goals as goal

pub loop-word-init : goal.loop-word-init
loop-word-init c = gathering_none _

pub loop-word-preserved : goal.loop-word-preserved
loop-word-preserved c = gathering_more c.loop-word.invariant (omega arith) c.joined-all.ensures
