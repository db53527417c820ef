-- `text::fields::number_at` meets its contract: the loop keeps the value of the digits passed (`Counting`), which is
-- not 0; the measure is what is left of the text. Assumes nothing.
use Rattle.std.proofs.Common.{◌≡◌, ◌-◌, length}
use Rattle.text.specs.Fields.{kind}
use Rattle.text.proofs.Numbers.{Counting}
use Rattle.text.proofs.fields.number_at.Given as goal

abbrev pub invariant-loop-first : goal.invariant-loop-first
invariant-loop-first l = Counting (kind l.field) l.text l.first l.value l.next × (l.value ≡ 0 → ⊥)

abbrev pub decreases-loop-first : goal.decreases-loop-first
decreases-loop-first l = length l.text - l.next
