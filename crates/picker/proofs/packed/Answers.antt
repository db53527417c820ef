-- `picker::packed` meets its contract: the numbers of the answer fit their places. Assumes nothing.
use Rattle.picker.proofs.Answers.{given_below, refused-fits}
use Rattle.picker.proofs.packed.Goals as goal

pub given-requires : goal.given-requires
given-requires c = given_below c.in-Ok.is c.requires

pub refused-requires : goal.refused-requires
refused-requires c = refused-fits c.in-Err.is c.requires
