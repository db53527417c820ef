-- The pass that covers, with its counts, in the form in which the code meets it. Assumes nothing.
use mathlib.Core.Path.{◌≡◌, refl, sym, ap, ◌∙◌}
use mathlib.Core.Bool.{true, false}
use mathlib.Core.List.{List, [], ◌∷◌}
use mathlib.Core.Logic.{dite}
use Prim.Native.Nat.{ℕ, zero, suc, ◌+◌, ◌*◌, ◌-◌, ◌≤◌, ◌<◌}
use native.Mathlib.Numerals.{add-one}
use native.Mathlib.Omega.{arith}
use native.Mathlib.Decide.{ℕ_discrete, dec_lt}
use borrow.Author.Tests.{ne_eqb}
use lib.Dec.{eqb}
use lib.ListN.{length, get_or, set, drop, length-set, length-drop, drop_of_length-le, get_or-eq_default}
use lib.Seq.{drop-cons, get_or-drop, get_or-set_same, get_or-set_other}
use Rattle.base.specs.Walks.{count}
use Rattle.base.proofs.Counts.{count_set}
use Rattle.base.proofs.Walks.{up_to}
use Rattle.records.specs.Records.{index}
use Rattle.sets.specs.Sets.{without}
use Rattle.words.specs.inner.Words.{Member, LowestFrom}
use Rattle.words.proofs.Rests.{coming_next, coming_end, none_up}
use Rattle.marker.specs.declared.inner.marks.Counts.{Counts}
use Rattle.marker.specs.inner.Counts.{Counted}
use Rattle.marker.specs.inner.Spans.{each}
use Rattle.marker.specs.inner.Seen.{Holds}
use Rattle.marker.specs.Marks.{transitions, cover, covered, all_covered}
use Rattle.marker.specs.inner.Parts.{cover_from}
use Rattle.marker.proofs.Marks.{cover-here, cover_not, cover-same}
use Rattle.marker.proofs.Counts.{Ones, ones_at, ones_drop, counted_none, counted_few, counted_past, counted_open, counted_then}
use Rattle.marker.proofs.Passes.{Going, going_start, going_more, going_end}
use Rattle.marker.proofs.Seen.{holds_kept, unmarked_past}

-- ---- one target
module _ (m : List ℕ) (n : ℕ) where
  abbrev Covers : List ℕ → ℕ → Type 0
  Covers y r = (y ≡ cover m n) × (count 3 y ≡ r + count 3 m) × (r ≤ 1)

  pub covers_one : n < length m → get_or m n 0 ≡ 4 → Covers (set m n 3) 1
  covers_one l e = (sym (cover-here m n e), count_set 3 m n l (λ z. omega arith), omega arith)

  pub covers-none : (get_or m n 0 ≡ 4 → ⊥) → Covers m 0
  covers-none e = (sym (cover_not m n e), omega arith, omega arith)

  pub covers_past : length m ≤ n → Covers m 0
  covers_past l = covers-none (λ e. omega (arith, get_or-eq_default m 0 {n = n} l))

  length-cover : length (cover m n) ≡ length m
  length-cover =
      dite (ℕ_discrete (get_or m n 0) 4) (λ e. ap length (cover-here m n e) ∙ length-set m n 3) (λ e. ap length (cover_not m n e))

  -- the open pairs stay open, and no others become so
  cover_ones : Ones (cover m n) m
  cover_ones k = dite (ℕ_discrete (get_or m n 0) 4) (λ e. go e (ℕ_discrete k n)) (λ e. rw (cover_not m n e))
    where
      below : get_or m n 0 ≡ 4 → n < length m
      below e = dite (dec_lt n (length m)) (λ l. l) (λ l. absurd (omega (arith, get_or-eq_default m 0 {n = n} (omega arith))))

      go : get_or m n 0 ≡ 4 → Dec (k ≡ n) → eqb (get_or (cover m n) k 0) 1 ≡ eqb (get_or m k 0) 1
      go e (yes z) = rw (cover-here m n e, z, e, get_or-set_same m n 3 0 (below e))
      go e (no z) = rw (cover-here m n e, get_or-set_other m n k 3 0 z)

module _ (t m : List ℕ) (i : ℕ) where
  from_not : (get_or m i 0 ≡ 1 → ⊥) → m ≡ cover_from t m i
  unfolding cover_from
  from_not e = rw (ne_eqb (get_or m i 0) 1 e, cover_from)

  from_open : {m₁ m₂ : List ℕ} → get_or m i 0 ≡ 1 → m₁ ≡ cover m (get_or t (2 * i) 0) → m₂ ≡ cover m₁ (get_or t (2 * i + 1) 0) → m₂ ≡ cover_from t m i
  unfolding cover_from
  from_open e a b = b ∙ ap (λ (x : List ℕ). cover x (get_or t (2 * i + 1) 0)) a ∙ (let z : index i 0 ≡ 2 * i = omega arith in rw (e, cover_from) (rw z))

  -- both targets
  pub covers-both : {m₁ m₂ : List ℕ} {a b : ℕ} → get_or m i 0 ≡ 1 → Covers m (get_or t (2 * i) 0) m₁ a → Covers m₁ (get_or t (2 * i + 1) 0) m₂ b
      → (m₂ ≡ cover_from t m i) × (count 3 m₂ ≡ a + b + count 3 m) × (a + b ≤ 2)
  covers-both e x y = (from_open e x.0 y.0, omega (arith, x.1, y.1), omega (arith, x.2, y.2))

  from_is : get_or m i 0 ≡ 1 → cover_from t m i ≡ cover (cover m (get_or t (index i 0) 0)) (get_or t (index i 1) 0)
  unfolding cover_from
  from_is e = rw (e, cover_from)

  from_ones : Ones (cover_from t m i) m
  from_ones k =
      dite (ℕ_discrete (get_or m i 0) 1)
      (λ e. rw (from_is e) (cover_ones (cover m (get_or t (index i 0) 0)) (get_or t (index i 1) 0) k ∙ cover_ones m (get_or t (index i 0) 0) k))
      (λ e. rw (← from_not e))

  length_from : length (cover_from t m i) ≡ length m
  length_from =
      dite (ℕ_discrete (get_or m i 0) 1)
      (λ e. ap length (from_is e) ∙ length-cover (cover m (get_or t (index i 0) 0)) (get_or t (index i 1) 0) ∙ length-cover m (get_or t (index i 0) 0))
      (λ e. ap length (sym (from_not e)))

  holds-from : {w m₁ : List ℕ} → Holds w m → m₁ ≡ cover_from t m i → Holds w m₁
  holds-from H e = rw e (holds_kept H (λ k z. go k z (ℕ_discrete (get_or m i 0) 1)))
    where
      go : (k : ℕ) → get_or m k 0 ≡ 0 → Dec (get_or m i 0 ≡ 1) → get_or (cover_from t m i) k 0 ≡ 0
      go k z (no q) = rw (← from_not q) z
      go k z (yes q) =
          let a = cover-same m (get_or t (index i 0) 0) k (λ h. omega arith) ∙ z in
          rw (from_is q) (cover-same (cover m (get_or t (index i 0) 0)) (get_or t (index i 1) 0) k (λ h. omega arith) ∙ a)

-- lists with the same open pairs have the same transitions
same-transitions : (x y t : List ℕ) → length x ≡ length y → ((k : ℕ) → eqb (get_or x k 0) 1 ≡ eqb (get_or y k 0) 1) → transitions x t ≡ transitions y t
unfolding transitions
same-transitions [] [] t l h = refl
same-transitions [] (b ∷ y) t l h = absurd (omega arith)
same-transitions (a ∷ x) [] t l h = absurd (omega arith)
same-transitions (a ∷ x) (b ∷ y) [] l h = refl
same-transitions (a ∷ x) (b ∷ y) (u ∷ []) l h = refl
same-transitions (a ∷ x) (b ∷ y) (u ∷ (v ∷ t)) l h =
    let z = same-transitions x y t (omega arith) (λ k. h (suc k)) in
    λ i. elim (h 0 i) [ true ↦ u ∷ (v ∷ z i) | false ↦ z i ]

-- the loop that covers: what is left to do leads to the whole
pub record Covering (t w m₀ m : List ℕ) (i : ℕ) : Type 0 where
  pub long : length m ≡ 4160
  pub held : Holds w m
  pub most : i ≤ 4096
  pub ones : Ones m m₀
  pub same : all_covered t m₀ ≡ covered m (transitions (drop i m) (drop (2 * i) t))

cover-start : (t : List ℕ) {w m : List ℕ} → length m ≡ 4160 → Holds w m → Covering t w m m 0
unfolding all_covered
cover-start t l H = record { long = l; held = H; most = omega arith; ones = λ k. refl; same = refl }

module _ (t : List ℕ) (w : length t ≡ 8192) where
  heads : (i : ℕ) → i < 4096 → drop (2 * i) t ≡ get_or t (index i 0) 0 ∷ (get_or t (index i 1) 0 ∷ drop (2 * (i + 1)) t)
  heads i l =
      let a : index i 0 ≡ 2 * i = omega arith in
      let b : index i 1 ≡ suc (2 * i) = omega arith in
      let c : 2 * (i + 1) ≡ suc (suc (2 * i)) = omega arith in
      rw (a, b, c) (drop-cons t (2 * i) 0 (omega arith) ∙ ap (λ (x : List ℕ). get_or t (2 * i) 0 ∷ x) (drop-cons t (suc (2 * i)) 0 (omega arith)))

  open_step : (m : List ℕ) (i : ℕ) → i < 4096 → length m ≡ 4160 → covered m (transitions (drop i m) (drop (2 * i) t)) ≡ covered (cover_from t m i) (transitions (drop (i + 1) m) (drop (2 * (i + 1)) t))
  unfolding transitions covered
  open_step m i l z =
      rw (drop-cons m i 0 (omega arith), heads i l, add-one i)
      (dite (ℕ_discrete (get_or m i 0) 1) (λ e. rw (e, transitions) (rw (from_is t m i e))) (λ e. rw (ne_eqb (get_or m i 0) 1 e, transitions) (rw (← from_not t m i e))))

  cover-more : {v m₀ m m' : List ℕ} {i : ℕ} → Covering t v m₀ m i → i < 4096 → m' ≡ cover_from t m i → Covering t v m₀ m' (i + 1)
  cover-more {m = m} {m' = m'} {i = i} C l e =
      rw e
      (record {
        long = length_from t m i ∙ C.long;
        held = holds-from t m i C.held refl;
        most = omega arith;
        ones = λ k. from_ones t m i k ∙ C.ones k;
        same =
            C.same ∙ open_step m i l C.long
            ∙ ap (covered (cover_from t m i))
            (sym (same-transitions (drop (i + 1) (cover_from t m i)) (drop (i + 1) m) (drop (2 * (i + 1)) t) (simp (length-drop, length_from) refl)
            (λ k. rw (get_or-drop, get_or-drop) (from_ones t m i (i + 1 + k)))));
      })

  cover_span : {v m₀ m : List ℕ} {i : ℕ} (n : ℕ) → Covering t v m₀ m i → i + n ≤ 4096 → Covering t v m₀ (each (cover_from t) i n m) (i + n)
  unfolding each
  cover_span {i = i} zero C l = let e : i + 0 ≡ i = omega arith in rw e C
  cover_span {v} {m₀} {m} {i} (suc n) C l =
      let e : i + n + 1 ≡ i + suc n = omega arith in
      rw e at (cover-more (cover_span n C (omega arith)) (omega arith) refl)

  -- the next word
  cover-next : {v m₀ m m' : List ℕ} {p : ℕ} → Covering t v m₀ m (64 * p) → p < 64 → m' ≡ each (cover_from t) (64 * p) 64 m → Covering t v m₀ m' (64 * (p + 1))
  cover-next {p = p} C l e = let z : 64 * (p + 1) ≡ 64 * p + 64 = omega arith in rw (e, z) (cover_span 64 C (omega arith))

  -- pairs that are not open cover nothing
  cover_past : {v m₀ m : List ℕ} {i : ℕ} (j : ℕ) → Covering t v m₀ m i → i ≤ j → j ≤ 4096 → ((k : ℕ) → i ≤ k → k < j → get_or m k 0 ≡ 1 → ⊥)
      → Covering t v m₀ m j
  cover_past {v} {m₀} {m} j C l b h = up_to (Covering t v m₀ m) j l C (λ k p q D. cover-more D (omega arith) (from_not t m k (h k p q)))

  cover_end : {v m₀ m : List ℕ} → Covering t v m₀ m 4096 → m ≡ all_covered t m₀
  unfolding covered transitions
  cover_end {m = m} C =
      let e : drop (2 * 4096) t ≡ [] = drop_of_length-le t {i = 2 * 4096} (omega arith) in
      sym (C.same ∙ rw e (none_left (drop 4096 m)))
    where
      none_left : (x : List ℕ) → covered m (transitions x []) ≡ m
      none_left [] = refl
      none_left (a ∷ x) = refl

-- the words before p, with their counts
pub record CoveringAll (t w m₀ m : List ℕ) (p : ℕ) (c : Counts) : Type 0 where
  pub long : length m₀ ≡ 4160
  pub covering : Covering t w m₀ m (64 * p)
  pub counted : Counted m₀ m 0 (64 * p) (record { opened = 0; covered = 0 }) c

pub all_start : (t : List ℕ) {w m : List ℕ} → length m ≡ 4160 → Holds w m → CoveringAll t w m m 0 (record { opened = 0; covered = 0 })
all_start t {m = m} l H = record { long = l; covering = cover-start t l H; counted = counted_none m 0 _ }

module _ {t w m₀ m : List ℕ} {p : ℕ} {c : Counts} (A : CoveringAll t w m₀ m p c) where
  pub all_few : (c.opened ≤ 4160) × (c.covered ≤ 4160)
  all_few = let f = counted_few A.counted A.long A.covering.long in (omega (arith, f.0), omega (arith, f.1))

  pub all_more : {m' : List ℕ} {c' : Counts} → length t ≡ 8192 → p < length w
      → (m' ≡ each (cover_from t) (64 * p) 64 m) × Counted m m' (64 * p) (64 * p + 64) c c' → CoveringAll t w m₀ m' (p + 1) c'
  all_more lt l e =
      let z : 64 * (p + 1) ≡ 64 * p + 64 = omega arith in
      record {
        long = A.long;
        covering = cover-next t lt A.covering (omega (arith, A.covering.held.most)) e.0;
        counted = rw z (counted_then A.counted A.covering.ones (A.covering.long ∙ sym A.long) e.1);
      }

  -- whoever has no word is not open
  shut : length w ≤ p → (k : ℕ) → 64 * p ≤ k → k < 4096 → get_or m k 0 ≡ 1 → ⊥
  shut l k a b e = omega (arith, unmarked_past A.covering.held k (omega arith) b)

  pub all_end : length t ≡ 8192 → length w ≤ p
      → (m ≡ all_covered t m₀) × (count 1 m ≡ c.opened + count 1 (drop 4096 m)) × (count 3 m ≡ c.covered + count 3 m₀)
  all_end lt l =
      let C =
      counted_past A.counted 4096 A.covering.most (omega (arith, A.long))
      (λ k a b e. shut l k a b (ones_at m m₀ A.covering.ones k e)) in
      let same = ones_drop m m₀ A.covering.ones (A.covering.long ∙ sym A.long) in (
        cover_end t lt (cover_past t lt 4096 A.covering A.covering.most (omega arith) (shut l)),
        omega (arith, C.opened, same 0, same 4096),
        omega (arith, C.covered),
      )

-- ---- the pairs of one word: only open ones cover, which are members
pub record CoveringWord (t w : List ℕ) (p : ℕ) (m₀ m : List ℕ) (word : ℕ) (so to : Counts) : Type 0 where
  pub long : length m ≡ 4160
  pub same : length m₀ ≡ 4160
  pub held : Holds w m
  pub ones : Ones m m₀
  pub at : ℕ
  pub going : Going (cover_from t) w p m₀ m word at
  pub counted : Counted m₀ m (64 * p) (64 * p + at) so to

module _ (t w : List ℕ) (p : ℕ) where
  pub word_start : {m : List ℕ} (so : Counts) → length m ≡ 4160 → Holds w m → CoveringWord t w p m m (get_or w p 0) so so
  word_start {m} so l H =
      let z : 64 * p + 0 ≡ 64 * p = omega arith in
      record { long = l; same = l; held = H; ones = λ k. refl; at = 0; going = going_start (cover_from t) w p m; counted = rw z (counted_none m (64 * p) so) }

  module _ {m₀ m : List ℕ} {word : ℕ} {so to : Counts} (C : CoveringWord t w p m₀ m word so to) where
    pub word_few : (to.opened ≤ so.opened + 4160) × (to.covered ≤ so.covered + 4160)
    word_few = counted_few C.counted C.same C.long

    module _ (b : p < length w) where
      idle : (i : ℕ) → i < 64 → (Member w (64 * p + i) → ⊥) → m ≡ cover_from t m (64 * p + i)
      idle i c f = from_not t m (64 * p + i) (λ e. f (C.held.has (64 * p + i) (omega (arith, C.held.most)) (omega arith)))

      -- up to the next bit none is open
      passed : {q : ℕ} → LowestFrom (get_or w p 0) C.at q → Counted m₀ m (64 * p) (64 * p + q) so to
      passed {q} N =
          counted_past C.counted (64 * p + q) (omega (arith, N.least)) (omega (arith, N.most, C.same, C.held.most))
          (λ k c d e. let i : k ≡ 64 * p + (k - 64 * p) = omega arith in
          none_up w p N (k - 64 * p) (omega arith) (omega arith)
          (rw i at (C.held.has k (omega (arith, N.most, C.held.most)) (omega (arith, ones_at m m₀ C.ones k e)))))

      module _ {q rest : ℕ} (L : LowestFrom word 0 q) (c : q < 64) (e : rest ≡ without word q) where
        next : 64 * p + q + 1 ≡ 64 * p + (q + 1)
        next = omega arith

        reached : Counted m₀ m (64 * p) (64 * p + q) so to
        reached = passed (coming_next C.going.coming L c)

        pub word_open : {m' : List ℕ} (n : ℕ) → get_or m (64 * p + q) 0 ≡ 1 → (m' ≡ cover_from t m (64 * p + q)) × (count 3 m' ≡ n + count 3 m) × (n ≤ 2)
            → CoveringWord t w p m₀ m' rest so (record { opened = to.opened + 1; covered = to.covered + n })
        word_open n o d =
            record {
              long = ap length d.0 ∙ length_from t m (64 * p + q) ∙ C.long;
              same = C.same;
              held = holds-from t m (64 * p + q) C.held d.0;
              ones = λ k. rw d.0 (from_ones t m (64 * p + q) k) ∙ C.ones k;
              at = q + 1;
              going = going_more (cover_from t) w p C.going idle L c e d.0;
              counted = rw next at (counted_open reached n (omega (arith, C.same, C.held.most))
                  (ones_at m₀ m (λ k. sym (C.ones k)) (64 * p + q) o) d.1);
            }

        pub word_shut : (get_or m (64 * p + q) 0 ≡ 1 → ⊥) → CoveringWord t w p m₀ m rest so to
        word_shut o =
            record {
              long = C.long;
              same = C.same;
              held = C.held;
              ones = C.ones;
              at = q + 1;
              going = going_more (cover_from t) w p C.going idle L c e (from_not t m (64 * p + q) o);
              counted = rw next at (counted_past reached (64 * p + q + 1) (omega arith) (omega (arith, C.same, C.held.most)) shut);
            }
          where
            shut : (k : ℕ) → 64 * p + q ≤ k → k < 64 * p + q + 1 → get_or m₀ k 0 ≡ 1 → ⊥
            shut k x y z = let i : k ≡ 64 * p + q = omega arith in o (ones_at m m₀ C.ones (64 * p + q) (rw i at z))

      pub word_end : word ≡ 0 → (m ≡ each (cover_from t) (64 * p) 64 m₀) × Counted m₀ m (64 * p) (64 * p + 64) so to
      word_end e = (going_end (cover_from t) w p C.going idle e, passed (coming_end C.going.coming e))
