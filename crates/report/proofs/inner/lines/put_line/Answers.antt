-- The four numbers are the last four fields of a record. Assumes nothing.
use Rattle.report.proofs.Fronts.{line-put}
use Rattle.report.proofs.inner.lines.put_line.Goals as goal

pub returns : goal.returns
returns c = line-put _ _ _ _ _ _ _ _ c.put_fields.ensures
