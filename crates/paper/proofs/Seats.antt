-- Which row of a pair each row is that the algorithms are given: it can be taken, and it is the same row; and every row
-- that can be taken is given to them. Assumes nothing.
use mathlib.Core.Path.{◌≡◌, sym, ap, subst, ◌∙◌}
use mathlib.Core.Bool.{true}
use mathlib.Core.List.{List}
use mathlib.Core.Logic.{⊎_elim}
use Prim.Native.Nat.{ℕ, zero, suc, ◌%◌, ◌<◌}
use native.Mathlib.Omega.{arith}
use lib.ListN.{length}
use Rattle.chart.specs.Charts.{size, can_be_taken, leaving}
use Rattle.chart.specs.Compared.{Compared}
use Rattle.chart.specs.Faultless.{FaultlessChart}
use Rattle.chart.specs.declared.places.NewPlace.{NewPlace}
use Rattle.chart.specs.Places.{new_of}
use Rattle.chart.specs.Possible.{possible_rows, number_in, stripped}
use Rattle.chart.proofs.Chosen.{SameRow}
use Rattle.chart.proofs.Parts.{whole, two_at_most}
use Rattle.chart.proofs.Possible.{possible-leaving, seen, seen_none, seen_more, seen_same, left, left-row}
use Rattle.chart.proofs.Takable.{takable}
use Rattle.chart.proofs.Words.{Words}
use Rattle.detector.specs.Turns.{rows_of}
use Rattle.paper.specs.Nodes.{Pair, number, Numbered}
use Rattle.paper.specs.Algorithm2.{edges}
use Rattle.paper.specs.Returned.{seat}
use Rattle.paper.proofs.Edges.{At}
use Rattle.paper.proofs.Members.{in_or_not, pair_is}

module _ (X : Compared) where
  -- the rows of a pair that the algorithms are given are those of its rows that can be taken
  pub rows_left : (i : ℕ) → rows_of (stripped X).new i ≡ possible_rows (rows_of X.new i)
  rows_left i = possible-leaving X.new.table (new_of i).0

  -- row r of these is row k of all
  pub record Seated (i r k : ℕ) : Type 0 where
    pub can : can_be_taken (rows_of X.new i) k ≡ true
    pub place : r ≡ seen (rows_of X.new i) k
    pub same : SameRow (rows_of (stripped X).new i) r (rows_of X.new i) k

  pub seated : {i r k : ℕ} → At X i r k → Seated i r k
  seated {i} {r} {k} a =
      let t = rows_of X.new i in
      let L = left-row t r (subst (λ (rows : List ℕ). r < size rows) (rows_left i) a.row) in
      subst (Seated i r) a.seated
      (record { can = L.can; place = L.place; same = subst (λ (rows : List ℕ). SameRow rows r t (number_in t r)) (sym (rows_left i)) L.same })

  -- a row that can be taken is given to them, as the next after those before it
  pub at_seen : (i k : ℕ) → can_be_taken (rows_of X.new i) k ≡ true → At X i (seen (rows_of X.new i) k) k
  at_seen i k e =
      let z = left (rows_of X.new i) k e in
      record { row = subst (λ (rows : List ℕ). seen (rows_of X.new i) k < size rows) (sym (rows_left i)) z.0; seated = z.1 }

  -- the same of a pair with a number
  pub at_pair : (n : Pair) → Numbered n → (r : ℕ) → r < size (edges (stripped X) n.new) → At X (number n) r (seat X.new n.new r)
  at_pair n B r l =
      let e : new_of (number n) ≡ n.new = ap (λ (m : Pair). m.new) (pair_is n B) in
      record { row = subst (λ (q : NewPlace). r < size (edges (stripped X) q)) (sym e) l; seated = ap (λ (q : NewPlace). seat X.new q r) e }

  -- no two rows have one seat
  pub one-row : {i r r' k : ℕ} → At X i r k → At X i r' k → r ≡ r'
  one-row a b = (seated a).place ∙ sym (seated b).place

  pub first_or_second : FaultlessChart X.new → Words X.new.table → {i r k : ℕ} → At X i r k → k < 2
  first_or_second H wn {i} {r} {k} a = omega (arith, (takable (rows_of X.new i) k (seated a).can).0, two_at_most X.new H wn.small (new_of i).0)

  pub whole-rows : (q : NewPlace) → length (leaving X.new.table q.0) % 6 ≡ 0
  unfolding leaving
  whole-rows q = whole X.new.table q.0 (size X.new.table) (omega arith)

  -- two rows are left at most
  pub few_left : FaultlessChart X.new → Words X.new.table → (q : NewPlace) (r : ℕ) → r < size (edges (stripped X) q) → r < 2
  few_left H wn q r l =
      let L = left-row t r (subst (λ (rows : List ℕ). r < size rows) (possible-leaving X.new.table q.0) l) in
      let m = (takable t (number_in t r) L.can).0 in
      omega (arith, L.place, few (number_in t r) (omega (arith, m, two_at_most X.new H wn.small q.0)))
    where
      t : List ℕ
      t = leaving X.new.table q.0

      few : (k : ℕ) → k < 2 → seen t k < 2
      few zero l = omega (arith, seen_none t)
      few (suc zero) l = ⊎_elim (λ e. omega (arith, seen_more t 0 e, seen_none t)) (λ e. omega (arith, seen_same t (whole-rows q) 0 e, seen_none t)) (in_or_not (can_be_taken t 0))
      few (suc (suc k)) l = absurd (omega arith)
