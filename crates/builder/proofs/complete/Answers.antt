-- `builder::complete` meets its contract. Assumes nothing.
use Rattle.condition.proofs.Left.{start_seen}
use Rattle.builder.proofs.Answering.{both_left, both_summed}
use Rattle.builder.proofs.complete.Goals as goal

pub finish-requires : goal.finish-requires
finish-requires c =
    let p = c.args.charts.now.prepared in
    let e = c.explore.ensures in
    (e.covers, start_seen _ p.old-faultless p.new-faultless e.waiting_after e.covers)

pub returns : goal.returns
returns c =
    let e = c.explore.ensures.waiting_after in
    (both_left _ e c.finish.ensures.0, both_summed _ e _ c.finish.ensures.1)
