-- The numbers of a build are small. Assumes nothing.
use Rattle.builder.proofs.Bounds.{done_small, refused-fits}
use Rattle.pick.proofs.show.Goals as goal

pub refuse-requires : goal.refuse-requires
refuse-requires g c = (refused-fits _ _ c.build.ensures.answer c.in-Err.is).position

pub head-requires : goal.head-requires
head-requires g c = done_small _ _ c.build.ensures.answer c.in-Ok.is
