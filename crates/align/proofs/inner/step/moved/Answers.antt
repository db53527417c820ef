-- `align::inner::step::moved` meets its contract: by an assignment, or by an assumption after what is followed. Assumes nothing.
use mathlib.Core.Path.{sym, ◌∙◌}
use Rattle.base.proofs.OnSome.{on_at}
use Rattle.align.proofs.Moves.{followed-below, moved-assigned, moved_twice, moved_assumed}
use Rattle.align.proofs.ReadSets.{assuming}
use Rattle.align.proofs.inner.step.moved.Goals as goal

pub assigned-requires : goal.assigned-requires
assigned-requires c = record { place_bound = c.requires.place_bound; j_bound = (c.requires.j_bound.0, sym c.is_assignment_at.ensures ∙ c.if-is_assignment_at.true, c.requires.j_bound.2) }

pub returns-then-is_assignment_at : goal.returns-then-is_assignment_at
returns-then-is_assignment_at c = moved-assigned _ _ _ (sym c.is_assignment_at.ensures ∙ c.if-is_assignment_at.true) c.assigned.ensures

pub assumed-requires : goal.assumed-requires
assumed-requires c = let n = sym c.is_assignment_at.ensures ∙ c.if-is_assignment_at.false in
    record { place_bound = on_at _ (followed-below _ c.args.charts.now.prepared.old-faultless _ c.requires.place_bound) (sym c.follow.ensures ∙ c.in_ok-next.was); j_bound = (c.requires.j_bound.0, assuming (record { code = _; a = 0; b = 0; c = 0 }) c.requires.j_bound.1 n, c.requires.j_bound.2) }

pub returns-in_err-next : goal.returns-in_err-next
returns-in_err-next c = rw c.from_residual.ensures (moved_twice _ _ _ (sym c.is_assignment_at.ensures ∙ c.if-is_assignment_at.false) c.follow.ensures c.in_err-next.was)

pub returns : goal.returns
returns c = moved_assumed _ _ _ _ (sym c.is_assignment_at.ensures ∙ c.if-is_assignment_at.false) c.follow.ensures c.in_ok-next.was c.assumed.ensures
