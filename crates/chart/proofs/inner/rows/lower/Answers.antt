-- `chart::inner::rows::lower` meets its contract: by `partition_point`. Assumes nothing.
use Rattle.std.proofs.Common.{rules, tests}
use Rattle.std.proofs.lemmas.List.Sorted.{IsPartitionPoint-from_clause}
use Rattle.chart.proofs.Rows.{is_lower, parted, lower_parted}
use Rattle.chart.proofs.inner.rows.lower.Goals as goal

pub returns : goal.returns
returns c =
    let t = c.args.rows.now in
    let point = IsPartitionPoint-from_clause (is_lower c.args.place) _ _ c.partition_point.ensures.partitioned
    (rw c.as_chunks.ensures.front (parted t c.args.place c.requires)) (λ a r q k. search (rules, tests)) in
    lower_parted t c.args.place c.requires (rw c.as_chunks.ensures.front at c.partition_point.ensures.bound) (rw c.as_chunks.ensures.front at point)
