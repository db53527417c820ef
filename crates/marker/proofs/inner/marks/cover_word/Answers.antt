-- `marker::inner::marks::cover_word` meets its contract. Assumes nothing.
use mathlib.Core.Path.{refl}
use Rattle.marker.proofs.Covering.{word_start, word_few, word_open, word_shut, word_end}
use native.Mathlib.Omega.{arith}
use Rattle.marker.proofs.inner.marks.cover_word.Goals as goal

pub loop-q-init : goal.loop-q-init
loop-q-init c = rw c.into_iter-q-iterator.ensures.into_iter_gives (word_start _ _ _ _ c.told-marks c.requires.held.1)

pub overflow_add-opened : goal.overflow_add-opened
overflow_add-opened c = record { fits = omega (arith, (word_few _ _ _ c.loop-q.invariant).0, c.requires.opened_bound) }

pub overflow_add-covered : goal.overflow_add-covered
overflow_add-covered c = record { fits = omega (arith, (word_few _ _ _ c.loop-q.invariant).1, c.requires.opened_bound, c.cover_from-covered.ensures.2) }

pub loop-q-preserved-then-marks-p-eq1 : goal.loop-q-preserved-then-marks-p-eq1
loop-q-preserved-then-marks-p-eq1 c =
    let S = c.in-Some.ensures.steps in
    word_open _ _ _ c.loop-q.invariant (omega arith) (S.3 refl) S.0 S.2 _ c.if-marks-p-eq1.true c.cover_from-covered.ensures

pub loop-q-preserved : goal.loop-q-preserved
loop-q-preserved c =
    let S = c.in-Some.ensures.steps in
    word_shut _ _ _ c.loop-q.invariant (omega arith) (S.3 refl) S.0 S.2 c.if-marks-p-eq1.false

pub returns : goal.returns
returns c = word_end _ _ _ c.loop-q.invariant (omega arith) c.in-None.ensures.steps.0
