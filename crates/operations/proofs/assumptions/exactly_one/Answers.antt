-- `operations::assumptions::exactly_one` meets its contract: at once for two that are opposed or independent, else by
-- two searches. Assumes nothing.
use Rattle.std.proofs.Common.{sym, ◌∙◌, arith}
use Rattle.operations.proofs.Exact.{one_tested}
use Rattle.operations.proofs.Opposed.{opposed_one}
use Rattle.operations.proofs.Independent.{apart-one}
use Rattle.operations.proofs.assumptions.exactly_one.Goals as goal

pub returns-then-opposed : goal.returns-then-opposed
returns-then-opposed c =
    let p = one_tested _ _ (opposed_one _ _ (c.opposed.ensures c.if-opposed.true).2) in
    record { is = p.0; means = p.1 }

pub returns-then-independent : goal.returns-then-independent
returns-then-independent c =
    let a = c.args in
    let q = apart-one a.f a.g (omega arith) (omega arith) (sym c.independent.ensures ∙ c.if-independent.true) in
    let p = one_tested _ _ (rw (
      c.possible-then-independent-3.ensures,
      c.possible-then-independent-2.ensures,
      c.possible-then-independent.ensures,
      c.possible.ensures,
    ) q) in
    record { is = p.0; means = p.1 }

pub returns-then-not-sought : goal.returns-then-not-sought
returns-then-not-sought c =
    let p = one_tested _ _ (rw (← c.sought.ensures, c.if-not-sought.true, ← c.sought-then-not-sought.ensures)) in
    record { is = p.0; means = p.1 }

pub returns-else-not-sought : goal.returns-else-not-sought
returns-else-not-sought c =
    let p = one_tested _ _ (rw (← c.sought.ensures, c.if-not-sought.false)) in
    record { is = p.0; means = p.1 }
