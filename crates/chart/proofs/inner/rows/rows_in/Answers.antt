-- `chart::inner::rows::rows_in` meets its contract: the part between the two lower bounds is the rows that leave the place. Assumes nothing.
use mathlib.Core.Path.{sym, ◌∙◌}
use Rattle.chart.proofs.Rows.{ordered, part, part_inside}
use Rattle.chart.proofs.inner.rows.rows_in.Goals as goal

pub returns : goal.returns
returns c = record {
  is = c.part.ensures.is ∙ sym (part _ _ _ _ c.lower-first.ensures c.past.ensures c.requires);
  stands = record {
    row = _;
    block = c.part.ensures.stands.0;
    offset = c.part.ensures.stands.1;
    inside = part_inside _ _ _ _ (ordered _ _ _ _ c.lower-first.ensures c.past.ensures) c.past.ensures.inside c.part.ensures.is;
  };
}
