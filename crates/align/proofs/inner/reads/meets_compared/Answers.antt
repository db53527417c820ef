-- `align::inner::reads::meets_compared` meets its contract: an assumption reads what it compares. Assumes nothing.
use mathlib.Core.Path.{ap, ap₂, ◌∙◌}
use native.Mathlib.Omega.{arith}
use Rattle.operations.proofs.Codes.{fit-a}
use Rattle.sets.specs.Sets.{alone, joined, meets}
use Rattle.align.proofs.ReadSets.{reads-assumption, partner-fits}
use Rattle.align.proofs.inner.reads.meets_compared.Goals as goal

pub alone-requires : goal.alone-requires
alone-requires c = fit-a _ c.requires.1

pub alone-requires-2 : goal.alone-requires-2
alone-requires-2 c = omega (arith, c.partner.ensures, partner-fits _ c.requires.1)

pub returns : goal.returns
returns c = c.meets.ensures ∙ ap (meets _) (c.joined.ensures ∙ ap₂ joined c.alone.ensures (c.alone-2.ensures ∙ ap alone c.partner.ensures) ∙ reads-assumption _ c.requires.0)
