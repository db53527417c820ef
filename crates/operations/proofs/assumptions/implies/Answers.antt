-- `operations::assumptions::implies` meets its contract: answer by answer. Assumes nothing.
use Rattle.std.proofs.Common.{sym, ◌∙◌}
use Rattle.operations.proofs.Exact.{tested}
use Rattle.operations.proofs.assumptions.implies.Goals as goal

pub returns-then-follows : goal.returns-then-follows
returns-then-follows c =
    let n = sym c.never.ensures.is ∙ c.if-never.false in
    let p = tested _ _ (rw (n, ← c.follows.ensures n, c.if-follows.true)) in
    record { is = p.0; means = p.1 }

pub returns : goal.returns
returns c =
    let n = sym c.never.ensures.is ∙ c.if-never.false in
    let p = tested _ _ (rw (n, ← c.follows.ensures n, c.if-follows.false)) in
    record { is = p.0; means = p.1 }
