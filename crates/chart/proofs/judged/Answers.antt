-- `chart::judged` meets its contract: the lengths, the old chart, the new one. Assumes nothing.
-- a chart is judged by the head that its own head is
use Rattle.std.specs.Prelude.{Some}
use Rattle.std.proofs.Common.{not}
use Rattle.std.proofs.lemmas.Result.{err_from_is_err_and}
use Rattle.base.proofs.Answers.{none-due, some-due}
use mathlib.Core.Path.{◌≡◌, refl, ap, ◌∙◌}
use mathlib.Core.List.{List}
use Rattle.std.specs.Prelude.{Option}
use Prim.Native.Nat.{ℕ}
use Rattle.base.specs.declared.Refusal.{Refusal}
use Rattle.chart.specs.Heads.{Head}
use Rattle.chart.specs.Charts.{charted}
use Rattle.chart.specs.Faults.{fault, judged}
use Rattle.chart.proofs.judged.Goals as goal

judged-head : (k : ℕ) (t : List ℕ) {o : Option Refusal} {h g : Head} → o ≡ fault k (charted h t) → h ≡ g → o ≡ fault k (charted g t)
judged-head k t e f = e ∙ ap (λ (h : Head). fault k (charted h t)) f

pub returns-then-not-lent-named : goal.returns-then-not-lent-named
unfolding judged
returns-then-not-lent-named c = rw (← c.edition_named-named.ensures, ← c.whole.ensures, ← c.whole-2.ensures, (ap not c.if-not-lent-named.true)) (ap Some c.sole.ensures)

pub returns-in_err-fault : goal.returns-in_err-fault
unfolding judged
returns-in_err-fault c =
    let p = err_from_is_err_and c.from_residual.result c.from_residual.ensures.1 in
    rw (
      ← c.edition_named-named.ensures,
      ← c.whole.ensures,
      ← c.whole-2.ensures,
      (ap not c.if-not-lent-named.false),
      some-due (judged-head 0 _ c.fault.ensures c.head.ensures) c.in_err-fault.was,
      p.1,
      p.2,
    )
    refl

pub returns : goal.returns
unfolding judged
returns c =
    rw (
      ← c.edition_named-named.ensures,
      ← c.whole.ensures,
      ← c.whole-2.ensures,
      (ap not c.if-not-lent-named.false),
      none-due (judged-head 0 _ c.fault.ensures c.head.ensures) c.in_ok-fault.was,
    )
    (judged-head 1 _ c.fault-2.ensures c.head-2.ensures)
