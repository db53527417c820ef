-- `checker::inner::present::Present::rows_fault` meets its contract. The invariant: no row passed is at fault. Assumes
-- nothing.
use Rattle.std.proofs.Common.{sym, refl, ap, ◌∙◌, arith}
use Rattle.base.specs.Options.{first_of, missing}
use Rattle.base.proofs.Options.{none_at, none_all}
use Rattle.checker.proofs.Targets.{found_at, both-rows}
use Rattle.checker.specs.inner.Presences.{graph_at}
use Rattle.checker.proofs.inner.present.Present.rows_fault.Goals as goal

pub loop-k-init : goal.loop-k-init
unfolding first_of
loop-k-init c = refl

pub returns-in-Some : goal.returns-in-Some
returns-in-Some c =
    found_at _ 2 _ (omega arith) c.loop-k.invariant (sym c.target_fault.ensures ∙ c.in-Some.is)
    ∙ both-rows _ (graph_at c.args.self.now) _ _

pub loop-k-preserved : goal.loop-k-preserved
loop-k-preserved c = none_at _ _ c.loop-k.invariant (ap missing (sym c.target_fault.ensures ∙ c.in_default.is))

pub returns : goal.returns
returns c =
    none_all _ 2 _ c.loop-k.auto.k-end c.loop-k-test.false c.loop-k.invariant
    ∙ both-rows _ (graph_at c.args.self.now) _ _
