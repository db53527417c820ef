-- `detector::inner::explore::explore` meets its contract. Assumes nothing.
use Rattle.chart.proofs.Faultless.{ascends}
use Rattle.chart.proofs.Takable.{none_never}
use Rattle.detector.proofs.Exploring.{build_begun, build_below, build_less, build_turn, build_done}
use Rattle.detector.proofs.inner.explore.explore.Goals as goal

pub loop-n-init : goal.loop-n-init
loop-n-init c = build_begun _ c.args.charts.now.prepared.old-faultless c.args.charts.now.prepared.new-faultless c.begin.ensures.waiting_after c.begin.ensures.follows

pub to_skip-skips-requires : goal.to_skip-skips-requires
to_skip-skips-requires c =
    let p = c.args.charts.now.prepared in
    record {
      indexed = (p.indexed, ascends _ p.new-faultless);
      n_bound = (build_below _ c.loop-n.invariant c.in-Some.ensures.0, none_never c.args.charts.now.new_rows.now c.some_never-any_never.ensures);
    }

pub turn-requires-clause-n_bound : goal.turn-requires-clause-n_bound
turn-requires-clause-n_bound c = (build_below _ c.loop-n.invariant c.in-Some.ensures.0, c.to_skip-skips.ensures)

pub loop-n-smaller : goal.loop-n-smaller
loop-n-smaller c = build_less _ c.loop-n.invariant c.in-Some.ensures.0 c.turn.ensures.waiting_after

pub loop-n-preserved : goal.loop-n-preserved
loop-n-preserved c = build_turn _ c.loop-n.invariant c.in-Some.ensures.0 c.turn.ensures.waiting_after c.turn.ensures.follows_2

pub returns-clause-waiting_after : goal.returns-clause-waiting_after
returns-clause-waiting_after c = build_done _ c.loop-n.invariant c.in_default.ensures.0
