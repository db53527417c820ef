-- What the reader answers of each text. Assumes nothing.
use mathlib.Core.Path.{sym, ◌∙◌}
use Rattle.std.proofs.lemmas.Result.{err_from_is_err_and}
use Rattle.pick.proofs.Reading.{renewed, old-refused, new-refused, both_charts}
use Rattle.pick.proofs.read_both.Goals as goal

pub returns-in_err-one : goal.returns-in_err-one
returns-in_err-one c =
    let t = err_from_is_err_and c.from_residual.result c.from_residual.ensures.1 in
    let p = old-refused _ c.args.new_text.now _ _ c.args.new.now _ c.read.ensures.is _ c.in_err-one.was in
    rw (t.1, t.2) (record { is = p.0; few = p.1 })

pub returns-in_err-other : goal.returns-in_err-other
returns-in_err-other c =
    let t = err_from_is_err_and c.from_residual-in_err-other.result c.from_residual-in_err-other.ensures.1 in
    let m = renewed _ _ (λ e d h. h) c.map_err.ensures.cases in
    let p = new-refused _ _ _ _ _ _ c.read.ensures.is _ _ c.in_ok-one.was _ c.read-2.ensures.is _ (sym c.in_err-other.was ∙ m) in
    rw (t.1, t.2) (record { is = p.0; few = p.1 })

pub returns : goal.returns
returns c =
    let m = renewed _ _ (λ e d h. h) c.map_err.ensures.cases in
    let p = both_charts _ _ _ _ _ _ c.read.ensures.is _ _ c.in_ok-one.was _ c.read-2.ensures.is _ (sym c.in_ok-other.was ∙ m) c.both_heads.ensures in
    record { is = p.0; few = p.1 }
