-- `align::inner::seek::writing` meets its contract: the place's assignment, if the filter keeps it. Assumes nothing.
use Rattle.std.proofs.Common.{sym, ◌∙◌, eqb, rules}
use Rattle.operations.specs.Operations.{is_assignment}
use Rattle.align.proofs.Seek.{found_inside, filtered}
use Rattle.align.proofs.inner.seek.writing.Goals as goal

pub filter-requires : goal.filter-requires
filter-requires c = λ x e p q k l v r u f t. rw q (found_inside _ _ x (sym e ∙ c.assignment.ensures))

pub returns : goal.returns
returns c =
    filtered c.args.rows.now is_assignment (λ o. eqb o.a c.args.a) c.requires _ (λ k b h. search rules) _ c.assignment.ensures c.filter.ensures
