-- `checker::inner::examined::Examined::broken` meets its contract: the start, then the targets. Assumes nothing.
use Rattle.checker.proofs.Answering.{start-broken, targets-judged}
use Rattle.checker.specs.inner.Examinations.{graph_in}
use Rattle.checker.proofs.inner.examined.Examined.broken.Goals as goal

pub returns-then-not-start_fits : goal.returns-then-not-start_fits
returns-then-not-start_fits c =
    start-broken _ (record { start = c.args.start; graph = graph_in c.args.self.now }) c.start_fits.ensures
    c.if-not-start_fits.true

pub returns : goal.returns
returns c =
    targets-judged _ (record { start = c.args.start; graph = graph_in c.args.self.now }) c.start_fits.ensures
    c.if-not-start_fits.false c.first_fault.ensures
