-- `builder::lent` meets its contract: by its tests. Assumes nothing.
use Rattle.builder.proofs.lent.Goals as goal

pub returns : goal.returns
returns c = rw c.sized.ensures
