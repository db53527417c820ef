-- `words::inner::members::BitsIterator::next` meets its contract. Assumes nothing.
use Prim.Native.Nat.{◌-◌, ◌<◌}
use native.Mathlib.Omega.{arith}
use Rattle.words.proofs.Rests.{rest_less}
use borrow.Author.Rules.{rules}
use Rattle.words.proofs.inner.members.BitsIterator.next.Goals as goal
use Rattle.words.proofs.inner.members.BitsIterator.next.Goals.{then-this-ne0, else-this-ne0}

pub returns-clause-goes : goal.returns-clause-goes
returns-clause-goes g c =
    let less : c.without-self.result < c.args.self.now.0 =
    rw c.without-self.ensures
    (elim c.if-this-ne0.branch [
      | then-this-ne0 w ↦
          let H = w.highest.ensures in
          let p = H.1 (omega arith) in
          rw w.q-is (rest_less _ (w.highest.result - 1) (omega (arith, H.0.most)) (H.0.here p))
      | else-this-ne0 w ↦ let L = w.lowest-q.ensures in rw w.q-is (rest_less _ _ L.1 (L.0.here L.1))
    ])
    in
    search (rules, less)
