-- Laws of counting rows, of the rows that never hold and of the mark of a node.
-- Assumes nothing.
use mathlib.Core.Path.{◌≡◌, refl, sym, ap, ◌∙◌}
use mathlib.Core.Bool.{Bool, true, false, cond}
use mathlib.Core.Logic.{dite}
use mathlib.Core.List.{List, []}
use Prim.Native.Nat.{ℕ, ◌+◌, ◌-◌, ◌*◌, ◌%◌, ◌≤◌, ◌<◌}
use native.Mathlib.Numerals.{add-one}
use native.Mathlib.Decide.{dec_lt}
use native.Mathlib.Omega.{arith}
use borrow.Author.Tests.{lt-ltb, le-ltb, ne_eqb}
use lib.ListN.{length, get_or, get_or-eq_default}
use Rattle.operations.specs.Operations.{kind}
use Rattle.operations.specs.Trials.{never_holds}
use Rattle.chart.specs.Charts.{size, from, operation, rows_where, leaving}
use Rattle.chart.specs.Places.{new_of}
use Rattle.chart.specs.inner.NoneNever.{NoneNever}
use Rattle.chart.proofs.Parts.{before, before_longer, before_same, whole, same_row}
use Rattle.chart.proofs.Takable.{part_none}
use Rattle.records.specs.Records.{graph_of, target, read_target}
use Rattle.records.proofs.Reading.{read_never, read_other}
use Rattle.report.specs.Transitions.{rows_below, first_row, used}
use Rattle.std.specs.Prelude.{None, Some}

-- i rows are counted
pub record Counted (t : List ℕ) (q rows i : ℕ) : Type 0 where
  pub is : rows ≡ rows_below t q i
  pub most : rows ≤ i
  pub inside : i ≤ size t

module _ (t : List ℕ) (q : ℕ) where
  pub counted_none : Counted t q 0 0
  unfolding rows_below
  counted_none = record { is = refl; most = omega arith; inside = omega arith }

  pub counted_one : (rows i after : ℕ) → Counted t q rows i → i < size t → get_or t (i * 6) 0 < q → after ≡ rows + 1 → Counted t q after (i + 1)
  unfolding rows_below
  counted_one rows i after c h g e =
      record { is = e ∙ rw (add-one i, rows_below, lt-ltb _ _ g) (ap (λ (n : ℕ). n + 1) c.is); most = omega (arith, c.most); inside = omega arith }

  pub counted_no : (rows i after : ℕ) → Counted t q rows i → i < size t → q ≤ get_or t (i * 6) 0 → after ≡ rows → Counted t q after (i + 1)
  unfolding rows_below
  counted_no rows i after c h g e =
      record { is = e ∙ rw (add-one i, rows_below, le-ltb _ _ g) c.is; most = omega (arith, c.most); inside = omega arith }

  pub counted_all : (rows i : ℕ) → Counted t q rows i → size t ≤ i → length t ≤ 768 → (rows ≡ first_row t q) × (rows ≤ 128)
  unfolding first_row
  counted_all rows i c h l =
      let e : i ≡ size t = omega (arith, c.inside) in
      (c.is ∙ ap (rows_below t q) e, omega (arith, c.most, c.inside))

-- ---- row k of a place
module _ (t : List ℕ) (q k : ℕ) where
  -- past the rows of the place there is no row that never holds: what is not there is an assignment
  past_never : size (leaving t q) ≤ k → never_holds (operation (leaving t q) k) ≡ false
  unfolding leaving never_holds kind
  past_never h =
      let e : get_or (leaving t q) (k * 6 + 2) 0 ≡ 0 = get_or-eq_default (leaving t q) 0 {n = k * 6 + 2} (omega (arith, whole t q (size t) (omega arith))) in
      rw e

  -- where the table has no row that never holds, row k of the place is none, whether it is there or not
  none_here : {some : Bool} → NoneNever some t → some ≡ false → never_holds (operation (leaving t q) k) ≡ false
  none_here N e = dite (dec_lt k (size (leaving t q))) (λ l. part_none t q N e k l) (λ l. past_never (omega arith))

-- of the first i rows so many leave place q that `left` rows of it are to come before its row k
pub record Sought (t : List ℕ) (q k left i : ℕ) : Type 0 where
  pub is : before t q i + left ≡ k
  pub inside : i ≤ size t

module _ (t : List ℕ) (q k : ℕ) where
  pub sought_first : Sought t q k k 0
  unfolding rows_where
  sought_first = record { is = omega arith; inside = omega arith }

  pub sought_one : (left i after : ℕ) → Sought t q k left i → i < size t → from t i ≡ q → (left ≡ 0 → ⊥) → after ≡ left - 1 → Sought t q k after (i + 1)
  sought_one left i after s h g z e =
      record { is = rw (add-one i) (omega (arith, s.is, before_longer t q i h g)); inside = omega arith }

  pub sought_no : (left i after : ℕ) → Sought t q k left i → i < size t → (from t i ≡ q → ⊥) → after ≡ left → Sought t q k after (i + 1)
  sought_no left i after s h g e =
      record { is = rw (add-one i) (omega (arith, s.is, before_same t q i g)); inside = omega arith }

  -- none is to come before row i, which leaves the place: it is its row k
  pub sought_found : (left i : ℕ) (r : Bool) → Sought t q k left i → i < size t → from t i ≡ q → left ≡ 0 → r ≡ never_holds (operation t i)
      → r ≡ never_holds (operation (leaving t q) k)
  sought_found left i r s h g z e =
      let p : before t q i ≡ k = omega (arith, s.is) in
      e ∙ ap never_holds (sym (same_row t q i h g).operation-same ∙ ap (operation (leaving t q)) p)

  -- all rows are passed, so that the place has no row k
  pub sought_end : (left i : ℕ) → Sought t q k left i → size t ≤ i → false ≡ never_holds (operation (leaving t q) k)
  unfolding leaving
  sought_end left i s h =
      let z : i ≡ size t = omega (arith, s.inside) in
      let u : before t q (size t) + left ≡ k = ap (λ (j : ℕ). before t q j + left) (sym z) ∙ s.is in
      sym (past_never t q k (omega arith))

-- ---- a target as a reader takes it
module _ (t targets : List ℕ) (n k x : ℕ) (here : x ≡ target (graph_of [] targets []) n k) where
  -- where there is none, the row does not matter
  taken_none : x ≡ 65535 → x ≡ read_target t (graph_of [] targets []) n k
  unfolding read_target
  taken_none e = e ∙ go (never_holds (operation (leaving t (new_of n).0) k)) (sym e ∙ here)
    where
      go : (b : Bool) {y : ℕ} → 65535 ≡ y → 65535 ≡ cond b 65535 y
      go true h = refl
      go false h = h

  unused : {y : ℕ} → y ≡ 65535 → None ≡ used y
  unused e = rw e refl

  as_it_stands : (x ≡ 65535 → ⊥) → x ≡ read_target t (graph_of [] targets []) n k → Some x ≡ used (read_target t (graph_of [] targets []) n k)
  as_it_stands h e = own ∙ ap used e
    where
      own : Some x ≡ used x
      own = rw (ne_eqb x 65535 h, used) refl

  -- where there is none, none is read
  pub unused-taken : x ≡ 65535 → None ≡ used (read_target t (graph_of [] targets []) n k)
  unused-taken e = unused (sym (taken_none e) ∙ e)

  -- where the table has no row that never holds, it is read as it stands
  pub taken-alike : {some : Bool} → NoneNever some t → some ≡ false → (x ≡ 65535 → ⊥) → Some x ≡ used (read_target t (graph_of [] targets []) n k)
  taken-alike N e h = as_it_stands h (here ∙ sym (read_other t (graph_of [] targets []) n k (none_here t (new_of n).0 k N e)))

  module _ (r : Bool) (tested : r ≡ never_holds (operation (leaving t (n % 64)) k)) where
    pub taken-never : r ≡ true → None ≡ used (read_target t (graph_of [] targets []) n k)
    taken-never e = unused (read_never t (graph_of [] targets []) n k (sym tested ∙ e))

    pub taken_other : r ≡ false → (x ≡ 65535 → ⊥) → Some x ≡ used (read_target t (graph_of [] targets []) n k)
    taken_other e h = as_it_stands h (here ∙ sym (read_other t (graph_of [] targets []) n k (sym tested ∙ e)))
