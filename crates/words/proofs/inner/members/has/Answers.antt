-- `words::inner::members::has` meets its contract. Assumes nothing.
use native.Mathlib.Omega.{arith}
use Rattle.words.proofs.Words.{has-is}
use borrow.Author.Rules.{rules}
use Rattle.words.proofs.inner.members.has.Goals as goal

pub returns : goal.returns
returns c =
    let a = c.args in
    has-is a.words.now a.p a.q (search rules) (omega (arith, c.shared_slice_known-2-1.given a.p)) c.alone.ensures c.meets.ensures
