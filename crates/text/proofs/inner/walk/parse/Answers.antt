-- `text::inner::walk::parse` meets its contract: a law for each way through it. Assumes nothing.
use Rattle.std.proofs.Common.{rules, ◌≡◌, ◌*◌, sym, ◌∙◌, arith}
use Rattle.std.specs.Result.{result_err}
use Rattle.text.proofs.Cases.{handed_on}
use Rattle.text.specs.inner.Walk.{numbers_at, laid, reach_at, reached, first_at, past_first}
use Rattle.text.proofs.Walking.{few_rows, step_unfit, step_past, parse_none, parse_first, parse_rows, parse_after, parse_chart}
use Rattle.text.proofs.inner.walk.parse.Goals as goal

pub returns-then-text-eq0 : goal.returns-then-text-eq0
returns-then-text-eq0 c = parse_none _ _ _ (search rules) c.if-text-eq0.true

pub returns-in_err-heading : goal.returns-in_err-heading
returns-in_err-heading c =
    let f : c.first.result ≡ first_at c.args.text.now 0 = cc in
    rw (handed_on _ c.from_residual.ensures.1) (parse_first _ _ c.if-text-eq0.false _ (sym f ∙ c.in_err-heading.was))

pub overflow_mul-heading : goal.overflow_mul-heading
overflow_mul-heading c =
    let f : c.first.result ≡ first_at c.args.text.now 0 = cc in
    omega (arith, few_rows _ _ (sym f ∙ c.in_ok-heading.was))

pub rows-requires : goal.rows-requires
rows-requires c =
    let f : c.first.result ≡ first_at c.args.text.now 0 = cc in
    let few = few_rows _ _ (sym f ∙ c.in_ok-heading.was) in
    (omega arith, few)

pub returns-in_err-rows : goal.returns-in_err-rows
returns-in_err-rows c =
    let f : c.first.result ≡ first_at c.args.text.now 0 = cc in
    let e = sym f ∙ c.in_ok-heading.was in
    let n = 6 * c.in_ok-heading.heading.rows in
    let d : result_err c.rows.result ≡ result_err (reach_at n 6 c.args.text.now (past_first c.args.text.now)) = cc in
    let l : c.rows.new.table ≡ laid (numbers_at n 6 c.args.text.now (past_first c.args.text.now)) c.args.table.now = cc in
    rw (handed_on _ c.from_residual-in_err-rows.ensures.1) (parse_rows _ _ c.if-text-eq0.false _ e _ l _ (step_unfit _ _ d _ c.in_err-rows.was))

pub returns-then-reader-text : goal.returns-then-reader-text
returns-then-reader-text c =
    let f : c.first.result ≡ first_at c.args.text.now 0 = cc in
    let e = sym f ∙ c.in_ok-heading.was in
    let n = 6 * c.in_ok-heading.heading.rows in
    let d : result_err c.rows.result ≡ result_err (reach_at n 6 c.args.text.now (past_first c.args.text.now)) = cc in
    let l : c.rows.new.table ≡ laid (numbers_at n 6 c.args.text.now (past_first c.args.text.now)) c.args.table.now = cc in
    let a : c.rows.new.self.at ≡ reached (reach_at n 6 c.args.text.now (past_first c.args.text.now)) (past_first c.args.text.now) = cc in
    parse_after _ _ c.if-text-eq0.false _ e _ l _ _ (search rules) (step_past _ _ d _ _ _ a c.in_ok-rows.was) c.if-reader-text.true

pub returns : goal.returns
returns c =
    let f : c.first.result ≡ first_at c.args.text.now 0 = cc in
    let e = sym f ∙ c.in_ok-heading.was in
    let n = 6 * c.in_ok-heading.heading.rows in
    let d : result_err c.rows.result ≡ result_err (reach_at n 6 c.args.text.now (past_first c.args.text.now)) = cc in
    let l : c.rows.new.table ≡ laid (numbers_at n 6 c.args.text.now (past_first c.args.text.now)) c.args.table.now = cc in
    let a : c.rows.new.self.at ≡ reached (reach_at n 6 c.args.text.now (past_first c.args.text.now)) (past_first c.args.text.now) = cc in
    parse_chart _ _ c.if-text-eq0.false _ e _ l _ (step_past _ _ d _ _ _ a c.in_ok-rows.was) c.if-reader-text.false
