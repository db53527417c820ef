-- `checker::inner::examined::Examined::first_fault` meets its contract. The invariant: no pair passed has a fault.
-- Assumes nothing.
use Rattle.std.proofs.Common.{sym, refl, ◌∙◌, arith, rules}
use Rattle.base.specs.Options.{first_of}
use Rattle.checker.specs.inner.Examinations.{graph_in}
use Rattle.checker.proofs.Targets.{found_at, passed_over}
use Rattle.checker.proofs.inner.examined.Examined.first_fault.Goals as goal

pub loop-m-init : goal.loop-m-init
unfolding first_of
loop-m-init c = (search rules, refl)

pub returns-in-Some : goal.returns-in-Some
returns-in-Some c = found_at _ 4096 _ c.loop-m-test.true c.loop-m.invariant.1 (sym c.pair_fault.ensures ∙ c.in-Some.is)

pub loop-m-preserved : goal.loop-m-preserved
loop-m-preserved c = (
  omega arith,
  passed_over _ (graph_in c.args.self.now) c.loop-m.m c.next_pair-m.result c.loop-m.invariant.1
      (sym c.pair_fault.ensures ∙ c.in_default.is) c.next_pair-m.ensures.2,
)
