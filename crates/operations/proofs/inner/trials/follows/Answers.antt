-- `operations::inner::trials::follows` meets its contract: by what g can make of values where f has nothing to do
-- with it, else by a search. Assumes nothing.
use Rattle.std.proofs.Common.{not, sym, ap, ◌∙◌, arith}
use Rattle.operations.proofs.Independent.{apart-implies}
use Rattle.operations.proofs.inner.trials.follows.Goals as goal

pub returns-then-independent : goal.returns-then-independent
returns-then-independent c =
    let a = c.args in
    λ n. ap not c.possible.ensures
    ∙ apart-implies a.f a.g (omega arith) (omega arith) (sym c.independent.ensures ∙ c.if-independent.true) n
