-- So many bytes are read, within the text. Assumes nothing.
use Rattle.std.proofs.Common.{sym, arith}
use lib.Seq.{length-take-le}
use Rattle.pick.proofs.fill.Goals as goal

pub returns-in-Ok-eq0 : goal.returns-in-Ok-eq0
returns-in-Ok-eq0 g c = (omega arith, sym (length-take-le _ _ (omega arith)))

pub returns : goal.returns
returns g c = (omega arith, sym (length-take-le _ _ (omega arith)))
