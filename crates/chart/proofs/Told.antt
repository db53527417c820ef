-- What is told of an answer that gives nothing, the refusal if there is one, tells all such answers apart. Assumes nothing.
use mathlib.Core.Path.{◌≡◌, refl, sym, ap}
use Rattle.std.proofs.lemmas.Option.{none-some, same_Some}
use Rattle.std.specs.Prelude.{Ok, Err}
use Rattle.std.specs.Result.{result_err}
use Rattle.base.specs.Answers.{Answer}

pub told-one : (j k : Answer Unit) → result_err j ≡ result_err k → j ≡ k
told-one (Ok x) (Ok y) e = refl
told-one (Ok x) (Err r) e = absurd (none-some r e)
told-one (Err r) (Ok x) e = absurd (none-some r (sym e))
told-one (Err r) (Err s) e = ap Err (same_Some r s e)
