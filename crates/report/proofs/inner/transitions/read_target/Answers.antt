-- None where the row never holds, else the target as it stands: at once where the table has no row that never holds.
-- Assumes nothing.
use mathlib.Core.Path.{refl, ◌∙◌}
use Rattle.report.proofs.Rows.{unused-taken, taken-alike, taken-never, taken_other}
use Rattle.report.proofs.inner.transitions.read_target.Goals as goal
use Rattle.report.proofs.inner.transitions.read_target.Goals.{then-any_never, else-any_never}

pub returns-then-entry : goal.returns-then-entry
returns-then-entry c = unused-taken _ _ _ _ _ refl c.if-entry.true

pub returns-then-never : goal.returns-then-never
returns-then-never c =
    elim c.if-any_never.branch [
      | then-any_never w ↦ taken-never _ _ _ _ _ refl _ (w.never-is ∙ w.never_row-never.ensures) c.if-never.true
      | else-any_never w ↦ absurd (cc)
    ]

pub returns-else-never : goal.returns-else-never
returns-else-never c =
    elim c.if-any_never.branch [
      | then-any_never w ↦ taken_other _ _ _ _ _ refl _ (w.never-is ∙ w.never_row-never.ensures) c.if-never.false c.if-entry.false
      | else-any_never w ↦ taken-alike _ _ _ _ _ refl c.requires.none_never w.if-any_never.false c.if-entry.false
    ]
