-- `marker::inner::marks::open_rest` meets its contract. Assumes nothing.
use mathlib.Core.Path.{◌∙◌}
use Rattle.marker.proofs.Orders.{sweeping_start}
use Rattle.marker.proofs.Spreads.{rounds_again, passes_done, passes_rest, passes_less}
use borrow.Author.Rules.{rules}
use native.Mathlib.Omega.{arith}
use Rattle.marker.proofs.inner.marks.open_rest.Goals as goal

pub loop-marks-init : goal.loop-marks-init
loop-marks-init c = (sweeping_start _ _ (omega arith), search rules, search rules)

pub returns-after-loop-marks : goal.returns-after-loop-marks
returns-after-loop-marks c = passes_done _ c.loop-marks.invariant.0 c.sweep_both.ensures.0 c.loop-marks-test.false

pub returns-else-sweep_both-ne0 : goal.returns-else-sweep_both-ne0
returns-else-sweep_both-ne0 c =
    passes_done _ (rounds_again _ c.loop-marks.invariant.0 c.sweep_both.ensures.0.spread) c.sweep_both-in-loop-marks.ensures.0 c.if-sweep_both-ne0.false

pub returns-else-sweep_both-ne0-2 : goal.returns-else-sweep_both-ne0-2
returns-else-sweep_both-ne0-2 c =
    passes_done _ (rounds_again _ (rounds_again _ c.loop-marks.invariant.0 c.sweep_both.ensures.0.spread) c.sweep_both-in-loop-marks.ensures.0.spread)
    c.sweep_both-then-sweep_both-ne0.ensures.0 c.if-sweep_both-ne0-2.false

pub loop-marks-smaller : goal.loop-marks-smaller
loop-marks-smaller c =
    let W = c.loop-marks.invariant.0 in
    let P = c.sweep_both.ensures.0 in
    let Z = rounds_again _ W P.spread in
    passes_less _ W P c.loop-marks-test.true
    (rounds_again _
    (rounds_again _ (rounds_again _ (sweeping_start _ _ (Z.same ∙ Z.long)) c.sweep_both-in-loop-marks.ensures.0.spread)
    c.sweep_both-then-sweep_both-ne0.ensures.0.spread)
    c.spread.ensures)

pub loop-marks-preserved : goal.loop-marks-preserved
loop-marks-preserved c =
    let S = c.spread.ensures in
    let W =
    rounds_again _ (rounds_again _ (rounds_again _ c.loop-marks.invariant.0 c.sweep_both.ensures.0.spread) c.sweep_both-in-loop-marks.ensures.0.spread)
    c.sweep_both-then-sweep_both-ne0.ensures.0.spread in
    (rounds_again _ W S, passes_rest _ W S c.sweep_both-then-sweep_both-ne0.ensures.1, search rules)
