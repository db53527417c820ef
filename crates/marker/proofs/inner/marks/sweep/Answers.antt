-- `marker::inner::marks::sweep` meets its contract. Assumes nothing.
use Rattle.marker.proofs.Sweeps.{swept_to_start, swept_to_more, swept_to_end, swept_to-most}
use borrow.Author.Rules.{rules}
use native.Mathlib.Omega.{arith}
use Rattle.marker.proofs.inner.marks.sweep.Goals as goal
use Rattle.marker.proofs.inner.marks.sweep.Goals.{then-this-ne0, else-this-ne0}

pub loop-k-init : goal.loop-k-init
loop-k-init g c = (swept_to_start _ _ c.requires, search rules, search rules)

pub overflow_add-n : goal.overflow_add-n
overflow_add-n g c =
    record {
      fits = omega (arith, swept_to-most _ _ _ _ _ _ (omega (arith, c.requires.most)) c.loop-k.invariant.0, c.sweep_word-n.ensures.0.most);
    }

pub loop-k-preserved : goal.loop-k-preserved
loop-k-preserved g c = (
  swept_to_more _ _ _ _ (omega arith)
      (λ z. elim c.if-this-ne0.branch [ then-this-ne0 w ↦ absurd (w.if-this-ne0.true z) | else-this-ne0 w ↦ w.p-is ])
      (λ z. elim c.if-this-ne0.branch [ then-this-ne0 w ↦ w.p-is | else-this-ne0 w ↦ absurd (z w.if-this-ne0.false) ])
      c.loop-k.invariant.0 c.sweep_word-n.ensures.0,
  search rules,
  search rules,
)

pub returns : goal.returns
returns g c = (swept_to_end _ _ _ _ _ _ c.loop-k.invariant.1 c.loop-k.invariant.2 (omega arith) c.loop-k.invariant.0, search rules)
