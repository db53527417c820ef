-- The rows of a place that are left where those that never hold are taken out: it is the same to take them out of the
-- chart or of the rows of the place; and which row of the place each of them is. Assumes nothing.
use mathlib.Core.Path.{◌≡◌, refl, sym, ap, ap₂, subst, ◌∙◌}
use mathlib.Core.Bool.{Bool, true, false, cond, ◌&&◌, not, and_comm}
use mathlib.Core.List.{List, [], ◌∷◌, ◌++◌, append-nil}
use mathlib.Core.Logic.{dite}
use Prim.Native.Nat.{ℕ, zero, suc, ◌+◌, ◌*◌, ◌%◌, ◌≤◌, ◌<◌}
use native.Mathlib.Decide.{dec_lt}
use native.Mathlib.Nat.{add-zero}
use native.Mathlib.Omega.{arith}
use lib.Dec.{eqb}
use lib.ListN.{length, get_or, take, drop, length-append, length-drop, drop_of_length-le, get_or-append}
use lib.Seq.{take_all, take-append-le, drop-append-le, get_or-append-add, drop_at, get_or_at, get_or-take, get_or-drop}
use Rattle.chart.specs.Charts.{Row, size, row, can_be_taken, rows_where, leaving}
use Rattle.chart.specs.Possible.{is_possible, possible_rows, numbers_of, number_in}
use Rattle.chart.proofs.Chosen.{SameRow, six, six_length, added, passed, by_row, whole, before, before_longer, before_same, before_mono, stands, row_of, row_same}
use Rattle.chart.proofs.Takable.{takable, by_test}

-- ---- two choices of rows can be made in either order
abbrev all : (Row → Bool) → List ℕ → List ℕ
all so t = rows_where so t (size t)

module _ (so : Row → Bool) (u s : List ℕ) where
  -- what stands after the rows of a table changes nothing
  front : (n : ℕ) → n ≤ size u → rows_where so (u ++ s) n ≡ rows_where so u n
  unfolding rows_where
  front zero l = refl
  front (suc n) l =
      rw (
        front n (omega arith),
        get_or-append u s 0 (n * 6) (omega arith),
        get_or-append u s 0 (n * 6 + 1) (omega arith),
        get_or-append u s 0 (n * 6 + 2) (omega arith),
        get_or-append u s 0 (n * 6 + 3) (omega arith),
        get_or-append u s 0 (n * 6 + 4) (omega arith),
        get_or-append u s 0 (n * 6 + 5) (omega arith),
        drop-append-le (n * 6) u s (omega arith),
        take-append-le 6 (drop (n * 6) u) s (omega (arith, length-drop (n * 6) u)),
      )

  -- one row after whole rows is chosen or not
  appended : length u % 6 ≡ 0 → length s ≡ 6 → all so (u ++ s) ≡ all so u ++ cond (so (row s 0)) s []
  unfolding rows_where
  appended w l =
      let at : length u ≡ size u * 6 = omega arith in
      let more : size (u ++ s) ≡ suc (size u) = omega (arith, length-append u s) in
      let field : (f : ℕ) → get_or (u ++ s) (size u * 6 + f) 0 ≡ get_or s f 0 = λ f. ap (λ (k : ℕ). get_or (u ++ s) (k + f) 0) (sym at) ∙ get_or-append-add u s f 0 in
      let first : get_or (u ++ s) (size u * 6) 0 ≡ get_or s 0 0 = rw add-zero at (field 0) in
      let last : row (u ++ s) (size u) ≡ row s 0 = rw (first, field 1, field 2, field 3, field 4, field 5) in
      ap (rows_where so (u ++ s)) more
      ∙ ap (λ (x : List ℕ). x ++ cond (so (row (u ++ s) (size u))) (take 6 (drop (size u * 6) (u ++ s))) []) (front (size u) (omega arith))
      ∙ ap₂ (λ (r : Row) (x : List ℕ). all so u ++ cond (so r) x []) last (ap (take 6) (drop_at u s (size u * 6) at) ∙ take_all 6 s (omega arith))

-- row n of a table, by itself
alone : (t : List ℕ) (n : ℕ) → row (six t n) 0 ≡ row t n
unfolding six
alone t n =
    let field : (f : ℕ) → f < 6 → get_or (take 6 (drop (n * 6) t)) f 0 ≡ get_or t (n * 6 + f) 0 = λ f l. get_or-take 6 (drop (n * 6) t) f 0 l ∙ get_or-drop (n * 6) t f 0 in
    let first : get_or (take 6 (drop (n * 6) t)) 0 0 ≡ get_or t (n * 6) 0 = rw add-zero at (field 0 (omega arith)) in
    rw (first, field 1 (omega arith), field 2 (omega arith), field 3 (omega arith), field 4 (omega arith), field 5 (omega arith))

-- one row more: it is in both choices, or not
one_more : (f g : Row → Bool) (t : List ℕ) (n : ℕ) → n < size t
    → all g (rows_where f t (suc n)) ≡ all g (rows_where f t n) ++ cond (f (row t n) && g (row t n)) (six t n) []
one_more f g t n l =
    by_row f t n
    (λ e. ap (all g) (added f t n e) ∙ appended g (rows_where f t n) (six t n) (whole f t n (omega arith)) (six_length t n l)
    ∙ rw (e, alone t n))
    (λ e. ap (all g) (passed f t n e) ∙ rw (e, append-nil))

commute : (f g : Row → Bool) (t : List ℕ) (n : ℕ) → n ≤ size t → all g (rows_where f t n) ≡ all f (rows_where g t n)
unfolding rows_where
commute f g t zero l = refl
commute f g t (suc n) l =
    one_more f g t n l
    ∙ ap₂ (λ (u : List ℕ) (b : Bool). u ++ cond b (six t n) []) (commute f g t n (omega arith)) (and_comm (f (row t n)) (g (row t n)))
    ∙ sym (one_more g f t n l)

pub possible-leaving : (t : List ℕ) (p : ℕ) → leaving (possible_rows t) p ≡ possible_rows (leaving t p)
unfolding leaving possible_rows
possible-leaving t p = commute is_possible (λ r. eqb r.from p) t (size t) (omega arith)

-- ---- the numbers that the rows had before
-- a row that can be taken is left, and there is no other
is-left : (t : List ℕ) (k : ℕ) → can_be_taken t k ≡ true → is_possible (row t k) ≡ true
is-left t k e = ap not (takable t k e).1

can_be_left : (t : List ℕ) (k : ℕ) → k < size t → is_possible (row t k) ≡ true → can_be_taken t k ≡ true
can_be_left t k l e = by_test t k l ∙ e

-- so many rows before row k can be taken: the rank of row k, if it can, among those that are left
abbrev pub seen : List ℕ → ℕ → ℕ
seen t k = before is_possible t k

module _ (t : List ℕ) where
  pub seen_more : (k : ℕ) → can_be_taken t k ≡ true → seen t (suc k) ≡ suc (seen t k)
  seen_more k e = omega (arith, before_longer is_possible t k (takable t k e).0 (is-left t k e))

  -- a row that never holds adds nothing, nor does what is after the last row of a table of whole rows
  pub seen_same : length t % 6 ≡ 0 → (k : ℕ) → can_be_taken t k ≡ false → seen t (suc k) ≡ seen t k
  unfolding six
  seen_same w k e =
      dite (dec_lt k (size t)) (λ l. before_same is_possible t k (sym (by_test t k l) ∙ e))
      (λ l. by_row is_possible t k (λ c. ap size (added is_possible t k c ∙ ap (λ (x : List ℕ). rows_where is_possible t k ++ x) (after (omega arith)) ∙ append-nil (rows_where is_possible t k))) (before_same is_possible t k))
    where
      after : length t ≤ k * 6 → six t k ≡ []
      after l = ap (take 6) (drop_of_length-le t {i = k * 6} l)

  pub seen_all : seen t (size t) ≡ size (possible_rows t)
  unfolding possible_rows
  seen_all = refl

  pub seen_none : seen t 0 ≡ 0
  unfolding rows_where
  seen_none = refl

  numbers-length : (n : ℕ) → n ≤ size t → length (numbers_of t n) ≡ seen t n
  unfolding numbers_of
  numbers-length zero l = sym seen_none
  numbers-length (suc n) l =
      by_row is_possible t n
      (λ e. rw e (length-append (numbers_of t n) (n ∷ []) ∙ omega (arith, numbers-length n (omega arith), before_longer is_possible t n l e)))
      (λ e. rw (e, append-nil) (numbers-length n (omega arith) ∙ sym (before_same is_possible t n e)))

  number_at : (i n : ℕ) → i < n → n ≤ size t → is_possible (row t i) ≡ true → get_or (numbers_of t n) (seen t i) 0 ≡ i
  unfolding numbers_of
  number_at i zero l u c = absurd (omega arith)
  number_at i (suc n) l u c =
      dite (dec_lt i n)
      (λ h. let k = before_longer is_possible t i (omega arith) c in
      let m = before_mono is_possible t (suc i) n h (omega arith) in
      get_or-append (numbers_of t n) _ 0 (seen t i) (omega (arith, numbers-length n (omega arith))) ∙ number_at i n h (omega arith) c)
      (λ h. let z : n ≡ i = omega arith in
      rw (z, c) (get_or_at (numbers_of t i) i [] 0 (seen t i) (numbers-length i (omega arith))))

  -- row r of those that are left is row k of the table
  pub record Left (r k : ℕ) : Type 0 where
    pub can : can_be_taken t k ≡ true
    pub place : r ≡ seen t k
    pub same : SameRow (possible_rows t) r t k

  pub left : (k : ℕ) → can_be_taken t k ≡ true → (seen t k < size (possible_rows t)) × (number_in t (seen t k) ≡ k)
  unfolding possible_rows number_in
  left k e = (stands is_possible t k (takable t k e).0 (is-left t k e), number_at k (size t) (takable t k e).0 (omega arith) (is-left t k e))

  pub left-row : (r : ℕ) → r < size (possible_rows t) → Left r (number_in t r)
  unfolding possible_rows
  left-row r l =
      let (k, z) = row_of is_possible t r l in
      let e = can_be_left t k z.inside z.chosen in
      subst (Left r) (sym (left k e).1 ∙ ap (number_in t) (sym z.place)) (record { can = e; place = z.place; same = row_same is_possible t z })
