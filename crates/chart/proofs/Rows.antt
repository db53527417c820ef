-- In a table by ascending "from" the rows that leave a place stand together, between two lower bounds. Assumes nothing.
use mathlib.Core.Path.{◌≡◌, refl, sym, ap, ◌∙◌}
use mathlib.Core.Bool.{Bool, true, false, cond}
use mathlib.Core.List.{List, [], ◌++◌, append_assoc, append-nil}
use mathlib.Core.Logic.{dite}
use Prim.Native.Nat.{ℕ, zero, suc, ◌+◌, ◌-◌, ◌*◌, ◌≤◌, ◌<◌}
use native.Mathlib.Nat.{add-suc, add-zero, add-mul, suc-mul, add-sub_of_le, zero-add}
use native.Mathlib.Decide.{dec_le, dec_lt, ℕ_discrete}
use native.Mathlib.Omega.{arith}
use borrow.Author.Tests.{eq-eqb, ne_eqb, lt-ltb, ltb-true, ltb-false}
use lib.Dec.{eqb, ltb}
use lib.ListN.{length, get_or, set, take, drop, length-set, length-take, length-drop}
use lib.Seq.{take-add, drop-drop, get_or-take, get_or-drop, get_or-set_same, get_or-set_other}
use Rattle.std.specs.Prelude.{Option, None, Some, MatchOption}
use Rattle.std.specs.Option.{unwrap_or}
use Rattle.std.specs.Simd.{first_chunks}
use Rattle.std.specs.List.Sorted.{IsPartitionedBy, IsPartitionPoint}
use Rattle.chart.specs.Charts.{size, from, rows_where, leaving_of, leaving}
use Rattle.chart.specs.inner.Ascending.{Ascending}
use Rattle.chart.specs.inner.Index.{Lower, Indexable, End, Ends, last_of, Carried, Indexed}

-- rows that do not leave p add nothing
skip : (t : List ℕ) (p m k : ℕ) → ((j : ℕ) → m ≤ j → j < m + k → from t j ≡ p → ⊥) → leaving_of t p (m + k) ≡ leaving_of t p m
unfolding rows_where
skip t p m zero h = rw add-zero
skip t p m (suc k) h =
    rw (add-suc, ne_eqb (from t (m + k)) p (h (m + k) (omega arith) (omega arith)), append-nil)
    (skip t p m k (λ j l u. h j l (omega arith)))

-- rows that all leave p add the part of the table where they stand
stretch : (t : List ℕ) (p m k : ℕ) → ((j : ℕ) → m ≤ j → j < m + k → from t j ≡ p)
    → leaving_of t p (m + k) ≡ leaving_of t p m ++ take (k * 6) (drop (m * 6) t)
unfolding rows_where
stretch t p m zero h = rw (add-zero, append-nil)
stretch t p m (suc k) h =
    rw (
      add-suc,
      eq-eqb (from t (m + k)) p (h (m + k) (omega arith) (omega arith)),
      stretch t p m k (λ j l u. h j l (omega arith)),
      suc-mul,
      take-add,
      drop-drop,
      add-mul,
      append_assoc,
    )

module _ (t : List ℕ) (p a e : ℕ) (la : Lower t p a) (le : Lower t (p + 1) e) where
  pub ordered : a ≤ e
  ordered =
      dite (dec_le a e) (λ h. h)
      (λ n. let lt : e < a = omega arith in let h = la.below e lt in let g = le.reached (omega arith) in omega arith)

  pub part : Ascending t → leaving t p ≡ take (e * 6 - a * 6) (drop (a * 6) t)
  unfolding leaving rows_where
  part s =
      let n = size t in
      let ea : a + (e - a) ≡ e = add-sub_of_le ordered in
      let en : e + (n - e) ≡ n = add-sub_of_le le.inside in
      let first : leaving_of t p a ≡ [] = rw zero-add at (skip t p 0 a (λ j l u q. let h = la.below j (omega arith) in omega arith)) in
      let middle : leaving_of t p (a + (e - a)) ≡ leaving_of t p a ++ take ((e - a) * 6) (drop (a * 6) t) =
      stretch t p a (e - a) (λ j l u. let h = le.below j (omega arith) in let g = s.order a j l (omega (arith, la.inside, le.inside)) in let f = la.reached (omega arith) in omega arith) in
      let last : leaving_of t p (e + (n - e)) ≡ leaving_of t p e =
      skip t p e (n - e) (λ j l u q. let g = s.order e j l (omega arith) in let f = le.reached (omega arith) in omega arith) in
      let m : (e - a) * 6 ≡ e * 6 - a * 6 = omega arith in
      ap (leaving_of t p) (sym en) ∙ last ∙ ap (leaving_of t p) (sym ea) ∙ middle ∙ rw (first, m)

-- a part from row `first` up to row `end` ends within the table
pub part_inside : (t l : List ℕ) (first end : ℕ) → first ≤ end → end ≤ size t → l ≡ take (end * 6 - first * 6) (drop (first * 6) t)
    → first * 6 + length l ≤ length t
part_inside t l first end o b e =
    let z : length (take (end * 6 - first * 6) (drop (first * 6) t)) ≤ length t - first * 6 = simp (length-take, length-drop) (omega arith) in
    omega (arith, ap length e)

-- ---- the searches for the two bounds
-- a table as its rows: row i begins with what it leaves
row_first : (t : List ℕ) (n i : ℕ) (d : List ℕ) → i < n → get_or (get_or (first_chunks 6 n t) i d) 0 0 ≡ from t i
row_first t zero i d l = absurd (omega arith)
row_first t (suc n) zero d l = get_or-take 6 t 0 0 (omega arith)
row_first t (suc n) (suc i) d l = row_first (drop 6 t) n i d (omega arith) ∙ get_or-drop 6 t (i * 6) 0 ∙ ap (λ (k : ℕ). get_or t k 0) (omega arith)

row_count : (t : List ℕ) (n : ℕ) → length (first_chunks 6 n t) ≡ n
row_count t zero = refl
row_count t (suc n) = ap (λ (k : ℕ). suc k) (row_count (drop 6 t) n)

-- whether a row leaves a place below p
abbrev pub is_lower : ℕ → List ℕ → Bool
is_lower p r = ltb (get_or r 0 0) p

module _ (t : List ℕ) (p : ℕ) (s : Ascending t) where
  abbrev each : List (List ℕ)
  each = first_chunks 6 (size t) t

  lower_at : (i : ℕ) (d : List ℕ) → i < size t → is_lower p (get_or each i d) ≡ ltb (from t i) p
  lower_at i d l = ap (λ (f : ℕ). ltb f p) (row_first t (size t) i d l)

  pub parted : IsPartitionedBy (is_lower p) each
  parted i j d l u e =
      let n = row_count t (size t) in
      let h = ltb-true _ _ (sym (lower_at j d (omega arith)) ∙ e) in
      let o = s.order i j l (omega arith) in
      lower_at i d (omega arith) ∙ lt-ltb _ _ (omega arith)

  pub lower_parted : {r : ℕ} → r ≤ length each → IsPartitionPoint (λ y. is_lower p y ≡ true) (λ y. is_lower p y ≡ false) each r → Lower t p r
  lower_parted l (b, a) =
      let n = row_count t (size t) in
      record {
        inside = omega arith;
        below = λ k u. ltb-true _ _ (sym (lower_at k [] (omega arith)) ∙ b k [] (omega arith) u);
        reached = λ u. ltb-false _ _ (sym (lower_at _ [] u) ∙ a _ [] (omega arith) (omega arith));
      }

  below : {first i : ℕ} → Lower t p first → ((k : ℕ) → first ≤ k → k < i → from t k ≡ p) → (k : ℕ) → k < i → from t k < p + 1
  below {first} l h k u = dite (dec_lt k first) (λ v. let b = l.below k v in omega arith) (λ v. let b = h k (omega arith) u in omega arith)

  -- the first row from there on that leaves another place, or the count of rows
  pub past_found : {first : ℕ} → Lower t p first → (r : Option ℕ)
      → MatchOption r ((k : ℕ) → first ≤ k → k < size t → from t k ≡ p)
      (λ i. (first ≤ i) × (i < size t) × (from t i ≡ p → ⊥) × ((k : ℕ) → first ≤ k → k < i → from t k ≡ p))
      → Lower t (p + 1) (unwrap_or r (size t))
  past_found l None h = record { inside = omega arith; below = below l h; reached = λ u. absurd (omega arith) }
  past_found {first} l (Some i) (f, u, n, h) =
      record {
        inside = omega arith;
        below = below l h;
        reached = λ u. (let g = s.order first i f u in let r = l.reached (omega arith) in omega arith);
      }

-- ---- the loop that makes the index
-- the first row of a table is the lower bound of place 0
pub lower_first : (t : List ℕ) → Lower t 0 0
lower_first t = record { inside = omega arith; below = λ k l. absurd (omega arith); reached = λ l. omega arith }

-- ---- a place without rows ends where the one before it ends
pub carried_none : (at : ℕ) (e : List ℕ) → length e ≡ 130 → Carried e at 0 e
carried_none at e l = record { long = l; first = λ p h. absurd (omega arith); below = λ j h. refl; above = λ j h. refl }

module _ (e₀ : List ℕ) (at p : ℕ) (e : List ℕ) (C : Carried e₀ at p e) {r : ℕ} where
  pub last_more : {last : ℕ} → last ≡ last_of e₀ at p → r ≡ cond (eqb (get_or e (at + p) 0) 0) last (get_or e (at + p) 0) → r ≡ last_of e₀ at (p + 1)
  unfolding last_of
  last_more l q = let n : p + 1 ≡ suc p = omega arith in rw (n, ← l, ← C.above (at + p) (omega arith)) q

  pub carried_more : r ≡ last_of e₀ at (p + 1) → at + p < 130 → Carried e₀ at (p + 1) (set e (at + p) r)
  carried_more q u =
      let n : p + 1 ≡ suc p = omega arith in
      record {
        long = simp length-set C.long;
        first = λ k h. elim (ℕ_discrete k p) [
          | yes s ↦ rw (s, get_or-set_same e (at + p) r 0 (omega (arith, C.long))) (rw n at q)
          | no d ↦ rw (get_or-set_other e (at + p) (at + k) r 0 (λ s. d (omega arith))) (C.first k (let D : k ≡ p → ⊥ = d in omega arith))
        ];
        below = λ j h. rw (get_or-set_other e (at + p) j r 0 (λ s. omega arith)) (C.below j h);
        above = λ j h. rw (get_or-set_other e (at + p) j r 0 (λ s. omega arith)) (C.above j (omega arith));
      }

module _ (t : List ℕ) (s : Ascending t) where
  -- where no row leaves place p, the next place's rows begin where its own would
  passed : {p last : ℕ} → Lower t p last → End t (size t) (suc p) 0 → Lower t (suc p) last
  passed {p} {last} L E =
      record {
        inside = L.inside;
        below = λ k u. (let h = L.below k u in omega arith);
        reached = λ u. (let h = L.reached u in let n : from t last + 1 ≡ suc p → ⊥ = E.last last (omega arith) u in omega arith);
      }

  -- else they begin after its last one
  ended : {p r : ℕ} → 0 < r → End t (size t) (suc p) r → Lower t (suc p) r
  ended {p} {r} z E =
      let l = E.leaves z in
      record {
        inside = E.within;
        below = λ k u. (let h = s.order k (r - 1) (omega arith) (omega (arith, E.within)) in omega arith);
        reached = λ u. (let h = s.order (r - 1) r (omega arith) u in let n : from t r + 1 ≡ suc p → ⊥ = E.last r (omega arith) u in omega arith);
      }

  pub lowers : (at : ℕ) (e : List ℕ) → ((p : ℕ) → p ≤ 64 → End t (size t) p (get_or e (at + p) 0)) → (p : ℕ) → p ≤ 64 → Lower t p (last_of e at (suc p))
  unfolding last_of
  lowers at e E zero u = first (get_or e (at + 0) 0) (E 0 u)
    where
      first : (r : ℕ) → End t (size t) 0 r → Lower t 0 (cond (eqb r 0) 0 r)
      first r P =
          elim (ℕ_discrete r 0) [
            | yes z ↦ rw z (lower_first t)
            | no n ↦ absurd (let N : r ≡ 0 → ⊥ = n in let h = P.leaves (omega arith) in omega arith)
          ]
  lowers at e E (suc p) u = next (get_or e (at + suc p) 0) (lowers at e E p (omega arith)) (E (suc p) u)
    where
      next : {last : ℕ} (r : ℕ) → Lower t p last → End t (size t) (suc p) r → Lower t (suc p) (cond (eqb r 0) last r)
      next r L P =
          elim (ℕ_discrete r 0) [
            | yes z ↦ rw (eq-eqb r 0 z) (passed L (rw z at P))
            | no n ↦ rw (ne_eqb r 0 n) (ended (let N : r ≡ 0 → ⊥ = n in omega arith) P)
          ]

module _ (old new : List ℕ) where
  -- both tables' ends are stored, then carried: nothing that is done at one table's entries reaches the other's
  pub indexed : Indexable old → Indexable new → {e₀ e₁ e₂ e₃ e₄ : List ℕ} → Ends old (size old) 0 e₀ e₁ → Ends new (size new) 65 e₁ e₂
      → Carried e₂ 0 65 e₃ → Carried e₃ 65 65 e₄ → Indexed old new e₄
  indexed O N {e₀} {e₁} {e₂} {e₃} {e₄} A B C D =
      record {
        olds = λ p u. (let h : get_or e₄ p 0 ≡ last_of e₂ 0 (suc p) = D.below p (omega arith) ∙ (rw zero-add at (C.first p (omega arith))) in
            rw h (lowers old O.ascending 0 e₂ (λ q v. rw (B.below (0 + q) (omega arith)) (A.ends q v)) p u));
        news = λ p u. rw (D.first p (omega arith)) (lowers new N.ascending 65 e₃ (λ q v. rw (C.above (65 + q) (omega arith)) (B.ends q v)) p u);
      }

  -- ---- and what is looked up in it
  module _ {index : List ℕ} {p : ℕ} (I : Indexed old new index) (l : p < 64) where
    -- the entry after that of a place of the new chart
    after-new : Lower new (p + 1) (get_or index (65 + p + 1) 0)
    after-new = let e : 65 + (p + 1) ≡ 65 + p + 1 = omega arith in rw e at (I.news (p + 1) (omega arith))

    pub at_old : (p < 129) × (get_or index p 0 ≤ get_or index (p + 1) 0) × (get_or index (p + 1) 0 ≤ size old)
    at_old = (
      omega arith,
      ordered old p _ _ (I.olds p (omega arith)) (I.olds (p + 1) (omega arith)),
      (I.olds (p + 1) (omega arith)).inside,
    )

    pub at_new : (65 + p < 129) × (get_or index (65 + p) 0 ≤ get_or index (65 + p + 1) 0) × (get_or index (65 + p + 1) 0 ≤ size new)
    at_new = (omega arith, ordered new p _ _ (I.news p (omega arith)) after-new, after-new.inside)

    pub part_old : Ascending old → leaving old p ≡ take (get_or index (p + 1) 0 * 6 - get_or index p 0 * 6) (drop (get_or index p 0 * 6) old)
    part_old = part old p _ _ (I.olds p (omega arith)) (I.olds (p + 1) (omega arith))

    pub part_new : Ascending new → leaving new p ≡ take (get_or index (65 + p + 1) 0 * 6 - get_or index (65 + p) 0 * 6) (drop (get_or index (65 + p) 0 * 6) new)
    part_new = part new p _ _ (I.news p (omega arith)) after-new
