-- `chart::lookup` meets its contract, chart by chart. Assumes nothing.
use mathlib.Core.Path.{◌≡◌, refl, ap, ◌∙◌}
use mathlib.Core.Bool.{cond}
use mathlib.Core.List.{List, []}
use mathlib.Core.Logic.{◌≢◌}
use Prim.Native.Nat.{ℕ}
use native.Mathlib.Omega.{arith}
use borrow.Author.Tests.{eq-eqb, ne_eqb}
use Rattle.chart.specs.Heads.{Head}
use Rattle.chart.specs.Charts.{charted, leaving}
use Rattle.chart.specs.Lookup.{open_to, lookup}
use Rattle.chart.proofs.lookup.Goals as goal

other : {n : ℕ} → n ≡ 0 → n ≢ 1
other e f = omega arith

-- what a place of a chart opens, by the head that its own head is
opened-head : (place : ℕ) (t : List ℕ) {r : List ℕ} {h g : Head} → r ≡ cond (open_to (charted h t) place) (leaving t place) [] → h ≡ g
    → r ≡ cond (open_to (charted g t) place) (leaving t place) []
opened-head place t e f = e ∙ ap (λ (h : Head). cond (open_to (charted h t) place) (leaving t place) []) f

pub returns-then-chart-eq0 : goal.returns-then-chart-eq0
unfolding lookup
returns-then-chart-eq0 c = record { stands = rw (ne_eqb _ _ (other c.if-chart-eq0.true)) c.rows_open.ensures.stands; is = rw (eq-eqb _ _ c.if-chart-eq0.true) (opened-head _ _ c.rows_open.ensures.is c.head.ensures) }

pub returns-then-chart-eq1 : goal.returns-then-chart-eq1
unfolding lookup
returns-then-chart-eq1 c = record { stands = rw (eq-eqb _ _ c.if-chart-eq1.true) c.rows_open-then-chart-eq1.ensures.stands; is = rw (ne_eqb _ _ c.if-chart-eq0.false, eq-eqb _ _ c.if-chart-eq1.true) (opened-head _ _ c.rows_open-then-chart-eq1.ensures.is c.head-then-chart-eq1.ensures) }

pub returns : goal.returns
unfolding lookup
returns c = record { stands = rw (ne_eqb _ _ c.if-chart-eq1.false) (record { row = 0; block = refl; offset = omega arith; inside = omega arith }); is = rw (ne_eqb _ _ c.if-chart-eq0.false, ne_eqb _ _ c.if-chart-eq1.false) }
