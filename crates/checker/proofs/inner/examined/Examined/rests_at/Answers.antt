-- `checker::inner::examined::Examined::rests_at` meets its contract: test by test. Assumes nothing.
use Rattle.checker.proofs.Targets.{rests-none, rests-kept, rests_nowhere, rests_present}
use Rattle.checker.proofs.inner.examined.Examined.rests_at.Goals as goal

pub returns-then-t-eq65535 : goal.returns-then-t-eq65535
returns-then-t-eq65535 c = rests-none _ _ _ c.if-t-eq65535.true

pub returns-then-keeps : goal.returns-then-keeps
returns-then-keeps c = rests-kept _ _ _ c.if-t-eq65535.false c.keeps.ensures c.if-keeps.true

pub returns-then-t-ge4096 : goal.returns-then-t-ge4096
returns-then-t-ge4096 c = rests_nowhere _ _ _ c.if-t-eq65535.false c.keeps.ensures c.if-keeps.false c.if-t-ge4096.true

pub returns : goal.returns
returns c =
    rests_present _ _ _ c.if-t-eq65535.false c.keeps.ensures c.if-keeps.false c.if-t-ge4096.false c.new_of.ensures
    c.eq.ensures
