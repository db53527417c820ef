-- `text::fields::follow` meets its contract: the byte, another, and past the end. Assumes nothing.
use Rattle.text.proofs.Numbers.{follow_past, follow-is, follow_not}
use Rattle.std.proofs.Common.{ltb-false, sym, arith}
use Rattle.text.proofs.fields.follow.Goals.{in_default-via-in-Some+else-found-b, in_default-via-in_default}
use Rattle.text.proofs.fields.follow.Goals as goal

pub returns-in-Some : goal.returns-in-Some
returns-in-Some c = search (follow-is, arith)

pub returns-in_default : goal.returns-in_default
returns-in_default c =
    elim c.in_default.branch [
      | in_default-via-in-Some+else-found-b w ↦ search (follow_not, arith)
      | in_default-via-in_default w ↦
          follow_past _ _ _ _ c.new.ensures (omega arith) (ltb-false _ _ (sym w.in_default.ensures.lookup.0))
    ]
