-- Some rows of a table, as a table of their own, and the rows of the whole table that they are. Assumes nothing.
use mathlib.Core.Path.{◌≡◌, refl, sym, ap, subst, ◌∙◌}
use mathlib.Core.Bool.{Bool, true, false}
use mathlib.Core.List.{List, [], ◌++◌, append_assoc, append-nil}
use mathlib.Core.Logic.{dite}
use Prim.Native.Nat.{ℕ, zero, suc, ◌+◌, ◌-◌, ◌*◌, ◌%◌, ◌≤◌, ◌<◌}
use native.Mathlib.Decide.{dec_lt}
use native.Mathlib.Omega.{arith}
use lib.ListN.{length, get_or, take, drop, length-append, length-take, length-drop, get_or-append}
use lib.Seq.{get_or-append-add, get_or-drop, get_or-take}
use Rattle.chart.specs.Charts.{Row, size, to, operation, row, rows_where}

-- row k of one table is row i of another
pub record SameRow (part : List ℕ) (k : ℕ) (t : List ℕ) (i : ℕ) : Type 0 where
  pub to_same : to part k ≡ to t i
  pub operation-same : operation part k ≡ operation t i

-- row n of a table by itself
unfoldable pub six : List ℕ → ℕ → List ℕ
six t n = take 6 (drop (n * 6) t)

pub six_length : (t : List ℕ) (n : ℕ) → n < size t → length (six t n) ≡ 6
unfolding six
six_length t n l = simp (length-take, length-drop) (omega arith)

module _ (so : Row → Bool) (t : List ℕ) where
  -- one row more: it is added, or it is not so
  pub added : (n : ℕ) → so (row t n) ≡ true → rows_where so t (suc n) ≡ rows_where so t n ++ six t n
  unfolding rows_where six
  added n e = rw e

  pub passed : (n : ℕ) → so (row t n) ≡ false → rows_where so t (suc n) ≡ rows_where so t n
  unfolding rows_where
  passed n e = rw (e, append-nil)

  pub by_row : {A : Type 0} (n : ℕ) → (so (row t n) ≡ true → A) → (so (row t n) ≡ false → A) → A
  by_row {A} n f g = go (so (row t n)) refl
    where
      go : (b : Bool) → so (row t n) ≡ b → A
      go true e = f e
      go false e = g e

  longer : (n : ℕ) → n < size t → so (row t n) ≡ true → length (rows_where so t (suc n)) ≡ length (rows_where so t n) + 6
  longer n l e =
      ap length (added n e) ∙ length-append (rows_where so t n) (six t n) ∙ ap (λ (x : ℕ). length (rows_where so t n) + x) (six_length t n l)

  -- whole rows
  pub whole : (n : ℕ) → n ≤ size t → length (rows_where so t n) % 6 ≡ 0
  unfolding rows_where
  whole zero l = refl
  whole (suc n) l = by_row n (λ e. omega (arith, longer n l e, whole n (omega arith))) (λ e. rw (passed n e) (whole n (omega arith)))

  -- rows are only ever added at the end
  grows : (n d : ℕ) → (rest : List ℕ) × (rows_where so t (n + d) ≡ rows_where so t n ++ rest)
  grows n zero = ([], rw append-nil (ap (rows_where so t) (omega arith)))
  grows n (suc d) =
      let r = grows n d in
      by_row (n + d)
      (λ e. (r.0 ++ six t (n + d), ap (rows_where so t) (omega arith) ∙ added (n + d) e ∙ rw r.1 (append_assoc (rows_where so t n) r.0 (six t (n + d)))))
      (λ e. (r.0, ap (rows_where so t) (omega arith) ∙ passed (n + d) e ∙ r.1))

  -- so many rows before row i are so
  abbrev pub before : ℕ → ℕ
  before i = size (rows_where so t i)

  pub before_longer : (n : ℕ) → n < size t → so (row t n) ≡ true → before (suc n) ≡ before n + 1
  before_longer n l e = omega (arith, longer n l e, whole n (omega arith))

  pub before_same : (n : ℕ) → so (row t n) ≡ false → before (suc n) ≡ before n
  before_same n e = ap size (passed n e)

  -- the fields of row i, found in the part at its place among the rows that are so
  found_field : (i n f : ℕ) → i < n → n ≤ size t → so (row t i) ≡ true → f < 6
      → get_or (rows_where so t n) (before i * 6 + f) 0 ≡ get_or t (i * 6 + f) 0
  unfolding six
  found_field i n f l u e h =
      let g = grows (suc i) (n - suc i) in
      let en : suc i + (n - suc i) ≡ n = omega arith in
      let L = rows_where so t i in
      let at : before i * 6 + f ≡ length L + f = omega (arith, whole i (omega arith)) in
      let sx = six_length t i (omega arith) in
      ap (λ (l : List ℕ). get_or l (before i * 6 + f) 0) (ap (rows_where so t) (sym en) ∙ g.1 ∙ ap (λ (l : List ℕ). l ++ g.0) (added i e) ∙ append_assoc L (six t i) g.0)
      ∙ ap (λ (k : ℕ). get_or (L ++ (six t i ++ g.0)) k 0) at
      ∙ get_or-append-add L (six t i ++ g.0) f 0
      ∙ get_or-append (six t i) g.0 0 f (omega arith)
      ∙ rw (get_or-take, get_or-drop)

  before_up : (n d : ℕ) → n + d ≤ size t → before n ≤ before (n + d)
  before_up n zero l = let e : n + 0 ≡ n = omega arith in rw e (omega arith)
  before_up n (suc d) l =
      let e : n + suc d ≡ suc (n + d) = omega arith in
      let r = before_up n d (omega arith) in
      rw e (by_row (n + d) (λ q. omega (arith, before_longer (n + d) (omega arith) q)) (λ q. omega (arith, before_same (n + d) q)))

  -- ---- the rows of the part
  pub before_mono : (i j : ℕ) → i ≤ j → j ≤ size t → before i ≤ before j
  before_mono i j l u = let r = before_up i (j - i) (omega arith) in let e : i + (j - i) ≡ j = omega arith in rw e at r

  -- row i of the table, if it is so, stands in the part
  pub stands : (i : ℕ) → i < size t → so (row t i) ≡ true → before i < before (size t)
  stands i l e = omega (arith, before_longer i l e, before_mono (suc i) (size t) l (omega arith))

  pub same_row : (i : ℕ) → i < size t → so (row t i) ≡ true → SameRow (rows_where so t (size t)) (before i) t i
  same_row i l e =
      let field : (f : ℕ) → f < 6 → get_or (rows_where so t (size t)) (before i * 6 + f) 0 ≡ get_or t (i * 6 + f) 0 = λ f h. found_field i (size t) f l (omega arith) e h in
      record {
        to_same = field 1 (omega arith);
        operation-same = rw (field 2 (omega arith), field 3 (omega arith), field 4 (omega arith), field 5 (omega arith));
      }

  -- row k of the part is a row of the table that is so
  pub record RowOf (k i : ℕ) : Type 0 where
    pub inside : i < size t
    pub chosen : so (row t i) ≡ true
    pub place : k ≡ before i

  within : (k n : ℕ) → n ≤ size t → k < before n → (i : ℕ) × RowOf k i
  unfolding rows_where
  within k zero u l = absurd (omega arith)
  within k (suc n) u l =
      by_row n
      (λ e. dite (dec_lt k (before n)) (λ h. within k n (omega arith) h)
      (λ h. (n, record { inside = u; chosen = e; place = omega (arith, before_longer n u e) })))
      (λ e. within k n (omega arith) (omega (arith, before_same n e)))

  pub row_of : (k : ℕ) → k < before (size t) → (i : ℕ) × RowOf k i
  row_of k l = within k (size t) (omega arith) l

  pub row_same : {k i : ℕ} → RowOf k i → SameRow (rows_where so t (size t)) k t i
  row_same {k} {i} r = subst (λ (x : ℕ). SameRow (rows_where so t (size t)) x t i) (sym r.place) (same_row i r.inside r.chosen)
