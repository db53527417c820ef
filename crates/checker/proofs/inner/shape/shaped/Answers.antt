-- `checker::inner::shape::shaped` meets its contract: part by part. Assumes nothing.
use Rattle.std.proofs.Common.{sym, ap, ◌∙◌, ◌&&◌}
use Rattle.std.proofs.Math.Bool.{and-true}
use Rattle.base.specs.Says.{bool}
use Rattle.base.proofs.Tests.{and_false}
use Rattle.checker.specs.Rules.{shaped, marks_fit}
use Rattle.checker.proofs.inner.shape.shaped.Goals as goal

pub returns-then-not-start_named : goal.returns-then-not-start_named
unfolding shaped
returns-then-not-start_named c = rw (sym c.start_named.ensures ∙ c.if-not-start_named.true)

pub returns-then-not-targets_fit : goal.returns-then-not-targets_fit
unfolding shaped
returns-then-not-targets_fit c =
    rw (sym c.start_named.ensures ∙ c.if-not-start_named.false, sym c.targets_fit.ensures ∙ c.if-not-targets_fit.true)
    (sym (and_false _))

pub returns : goal.returns
unfolding shaped
returns c =
    rw (sym c.start_named.ensures ∙ c.if-not-start_named.false, sym c.targets_fit.ensures ∙ c.if-not-targets_fit.false)
    (c.marks_fit.ensures ∙ sym (and-true _))
