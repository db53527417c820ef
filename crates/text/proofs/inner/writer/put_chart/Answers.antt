-- `text::inner::writer::put_chart` meets its contract: the first record, and the rows after it. Assumes nothing.
use Rattle.text.proofs.Puts.{chart-put}
use Rattle.text.proofs.inner.writer.put_chart.Goals as goal

pub returns : goal.returns
returns c = chart-put _ _ _ _ _ _ c.requires.1 c.put_fields-p.ensures c.put_fields.ensures
