-- `condition::inner::finish::finish` meets its contract. Assumes nothing.
use mathlib.Core.Path.{ap, ◌∙◌}
use lib.ListN.{drop}
use Rattle.condition.proofs.Finishing.{finish_alone, finish_joint, summed_alone, summed_joint}
use native.Mathlib.Omega.{arith}
use Rattle.std.proofs.lemmas.List.{take_all, length-drop}
use Rattle.base.specs.Walks.{count}
use Rattle.condition.proofs.inner.finish.finish.Goals as goal

pub returns-then-is_alone : goal.returns-then-is_alone
returns-then-is_alone c = (search finish_alone, summed_alone _ _ c.is_alone.ensures c.if-is_alone.true c.start_kept.ensures c.leave_alone.ensures)

pub returns : goal.returns
returns c =
    let m = c.rank-counts.new.marks in
    let last = take_all 64 (drop 4096 m) (omega (arith, length-drop 4096 m, c.rank-counts.array_long)) in
    (search finish_joint, summed_joint _ _ c.is_alone.ensures _ _ c.if-is_alone.false c.start_pair-first.ensures c.told-marks c.redirect_kept.array_long c.rank-counts.ensures (c.count_row.ensures ∙ ap (count 2) last))
