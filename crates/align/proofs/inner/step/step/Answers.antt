-- `align::inner::step::step` meets its contract: from its parts. Assumes nothing.
use mathlib.Core.Path.{sym, ap₂, ◌∙◌}
use Rattle.base.proofs.OnSome.{on_at}
use Rattle.align.proofs.Moves.{moved-below}
use Rattle.align.specs.Steps.{arrived, step}
use Rattle.align.proofs.inner.step.step.Goals as goal

pub arrived-requires : goal.arrived-requires
arrived-requires c = λ h e. on_at _ (moved-below _ c.args.charts.now.prepared.old-faultless _ _ c.requires.p_bound) (sym c.moved.ensures ∙ e)

pub returns : goal.returns
unfolding step
returns c = c.arrived.ensures ∙ ap₂ (arrived _) (λ i. record { 0 = c.new_to.ensures i }) c.moved.ensures
