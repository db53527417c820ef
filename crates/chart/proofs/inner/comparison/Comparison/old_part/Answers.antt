-- `chart::inner::comparison::Comparison::old_part` meets its contract: the rows between two entries of the index are
-- those that leave the place. Assumes nothing.
use mathlib.Core.Path.{sym, ◌∙◌}
use Rattle.chart.proofs.Faultless.{indexable}
use Rattle.chart.proofs.Rows.{part_old}
use Rattle.chart.proofs.inner.comparison.Comparison.old_part.Goals as goal

pub returns : goal.returns
returns c =
    let p = c.args.self.now.prepared in
    c.rows_at.ensures ∙ sym (part_old _ _ p.indexed c.requires (indexable _ p.old-faultless).ascending)
