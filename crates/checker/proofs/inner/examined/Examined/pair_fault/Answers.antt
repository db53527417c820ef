-- `checker::inner::examined::Examined::pair_fault` meets its contract: absent, or by its rows. Assumes nothing.
use Rattle.checker.proofs.Targets.{absent, present}
use Rattle.checker.specs.inner.Examinations.{graph_in}
use Rattle.checker.proofs.inner.examined.Examined.pair_fault.Goals as goal

pub returns-then-self-m-eq0 : goal.returns-then-self-m-eq0
returns-then-self-m-eq0 c = absent _ (graph_in c.args.self.now) _ c.if-self-m-eq0.true

pub returns : goal.returns
returns c =
    present _ (graph_in c.args.self.now) _ c.if-self-m-eq0.false c.new_of.ensures c.new_part.ensures
    c.rows_fault.ensures
