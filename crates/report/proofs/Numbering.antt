-- The number that is printed for a row is its number in the table: as many rows stand before it as leave lower places,
-- and before those of its own place as its rank says. Assumes nothing.
use mathlib.Core.Path.{◌≡◌, refl, ap}
use mathlib.Core.List.{List}
use mathlib.Core.Logic.{dite}
use Prim.Native.Nat.{ℕ, zero, suc, ◌+◌, ◌≤◌, ◌<◌}
use native.Mathlib.Decide.{dec_lt}
use native.Mathlib.Omega.{arith}
use borrow.Author.Tests.{lt-ltb, le-ltb}
use Rattle.chart.specs.Charts.{size, from, rows_where}
use Rattle.chart.specs.inner.Ascending.{Ascending}
use Rattle.records.specs.Records.{rank}
use Rattle.chart.proofs.Parts.{before, before_longer, before_same}
use Rattle.report.specs.Transitions.{rows_below, first_row}

module _ (t : List ℕ) (A : Ascending t) (i : ℕ) (inside : i < size t) where
  -- each row before row i leaves its place or a lower one
  passed : (n : ℕ) → n ≤ i → rows_below t (from t i) n + before t (from t i) n ≡ n
  unfolding rows_below rows_where
  passed zero h = refl
  passed (suc n) h =
      let e = passed n (omega arith) in
      let o = A.order n i (omega arith) inside in
      dite (dec_lt (from t n) (from t i))
      (λ l. rw (lt-ltb (from t n) (from t i) l, rows_below) (omega (arith, before_same t (from t i) n (λ g. omega arith))))
      (λ l. rw (le-ltb (from t n) (from t i) (omega arith), rows_below) (omega (arith, before_longer t (from t i) n (omega arith) (omega arith))))

  -- no row from row i on leaves a lower place
  beyond : (n : ℕ) → i ≤ n → n ≤ size t → rows_below t (from t i) n ≡ rows_below t (from t i) i
  unfolding rows_below
  beyond zero h g = let z : 0 ≡ i = omega arith in ap (rows_below t (from t i)) z
  beyond (suc n) h g =
      dite (dec_lt i (suc n))
      (λ l.
      let o = A.order i n (omega arith) (omega arith) in
      rw (le-ltb (from t n) (from t i) o, rows_below) (beyond n (omega arith) (omega arith)))
      (λ l. let z : suc n ≡ i = omega arith in ap (rows_below t (from t i)) z)

  pub row_number : i ≡ first_row t (from t i) + rank t i
  unfolding first_row
  row_number = omega (arith, passed i (omega arith), beyond (size t) (omega arith) (omega arith))
