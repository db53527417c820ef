-- `checker::inner::examined::Examined::ranked` meets its contract: by the mark of the pair. Assumes nothing.
use Rattle.std.proofs.Common.{rules, ◌∙◌}
use Rattle.checker.proofs.Targets.{ranked-none, ranked_open, ranked-covered}
use Rattle.checker.proofs.inner.examined.Examined.ranked.Goals as goal

pub returns-then-t-eq65535 : goal.returns-then-t-eq65535
returns-then-t-eq65535 c = ranked-none _ _ _ c.if-t-eq65535.true

pub returns-then-self-m-eq1 : goal.returns-then-self-m-eq1
returns-then-self-m-eq1 c =
    ranked_open _ _ _ c.if-t-eq65535.false c.if-self-m-eq1.true (c.contains.ensures.value
    ∙ rw (c.new.ensures.start, c.new.ensures.end, c.new.ensures.exhausted) (search rules))

pub returns : goal.returns
returns c =
    ranked-covered _ _ _ c.if-t-eq65535.false c.if-self-m-eq1.false (c.contains-2.ensures.value
    ∙ rw (c.new-2.ensures.start, c.new-2.ensures.end, c.new-2.ensures.exhausted) (search rules))
