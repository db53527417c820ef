-- `align::inner::follow::along` meets its contract: from its parts. Assumes nothing.
use mathlib.Core.Path.{sym, subst}
use Prim.Native.Nat.{ℕ, ◌<◌}
use Rattle.align.specs.Steps.{along}
use Rattle.operations.proofs.Codes.{fit-a}
use Rattle.align.proofs.inner.follow.along.Goals as goal

pub with-requires : goal.with-requires
with-requires c = subst (λ (a : ℕ). a < 64) (sym c.a_at.ensures) (fit-a _ c.requires.1)

pub returns : goal.returns
unfolding along
returns c = rw (c.with.ensures, c.a_at.ensures, ← c.old_to.ensures)
