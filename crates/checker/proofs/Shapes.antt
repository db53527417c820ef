-- The shape of a record, test by test, as the code comes upon it. Assumes nothing.
use Rattle.std.proofs.Common.{◌≡◌, ℕ, zero, suc, ◌+◌, ◌-◌, ◌*◌, ◌/◌, ◌%◌, ◌<◌, ◌≤◌, max, Bool, true, false, not, ◌&&◌, ◌||◌, eqb, ltb, leb, List, get_or, sym, refl, ap, ◌∙◌, add-zero, add_assoc, add-suc, arith, eqb→eq, le-ltb, lt-ltb, eq-eqb, ne_eqb, le-leb}
use mathlib.Core.Bool.{and-true, and_assoc}
use native.Mathlib.Decide.{ℕ_discrete, dec_le}
use borrow.Author.Tests.{lt-leb}
use lib.Dec.{leb-zero}
use Rattle.base.specs.Says.{every, bool, Says}
use Rattle.base.proofs.Says.{says, every_at}
use Rattle.base.proofs.Tests.{and_false, or_none, T_true}
use Rattle.chart.specs.declared.charts.Heads.{Heads}
use Rattle.chart.specs.declared.places.OldPlace.{OldPlace}
use Rattle.chart.specs.declared.places.NewPlace.{NewPlace}
use Rattle.chart.specs.Places.{old_of, new_of, start_pair, start_kept}
use Rattle.align.specs.Steps.{fair}
use Rattle.checker.specs.Rules.{mark_fits, target_fits, targets_fit, start_fits}

-- ---- the largest of several numbers
-- the larger of two is at most k exactly where both are
pub larger : (a b k : ℕ) → leb (max a b) k ≡ leb a k && leb b k
larger a b k = go (dec_le a k) (dec_le b k)
  where
    go : Dec (a ≤ k) → Dec (b ≤ k) → leb (max a b) k ≡ leb a k && leb b k
    go (yes u) (yes v) = rw (le-leb a k u, le-leb b k v, le-leb (max a b) k (omega arith))
    go (yes u) (no n) = rw (le-leb a k u, lt-leb b k (omega arith), lt-leb (max a b) k (omega arith))
    go (no n) d = rw (lt-leb a k (omega arith), lt-leb (max a b) k (omega arith))

-- ---- a test of each number, part by part
module _ (f : ℕ → Bool) where
  all_parts : (m n : ℕ) → every (m + n) f ≡ every m f && every n (λ j. f (m + j))
  unfolding every
  all_parts m zero = rw add-zero (sym (and-true (every m f)))
  all_parts m (suc n) = rw (add-suc, all_parts m n) (and_assoc (every m f) (every n (λ j. f (m + j))) (f (m + n)))

  all_same : (g : ℕ → Bool) (n : ℕ) → ((j : ℕ) → j < n → f j ≡ g j) → every n f ≡ every n g
  unfolding every
  all_same g zero h = refl
  all_same g (suc n) h = rw (all_same g n (λ j l. h j (omega arith)), h n (omega arith))

  -- the loop that asks 64 at a time
  pub part_more : (p : ℕ) {b : Bool} → every (64 * p) f ≡ true → b ≡ every 64 (λ j. f (64 * p + j)) → b ≡ true → every (64 * (p + 1)) f ≡ true
  part_more p e h t = let q : 64 * (p + 1) ≡ 64 * p + 64 = omega arith in rw (q, all_parts (64 * p) 64, e) (sym h ∙ t)

  pub part_fails : (n p : ℕ) {b : Bool} → 64 * p + 64 ≤ n → every (64 * p) f ≡ true → b ≡ every 64 (λ j. f (64 * p + j)) → b ≡ false → false ≡ every n f
  part_fails n p l e h t =
      let q : 64 * p + 64 + (n - (64 * p + 64)) ≡ n = omega arith in
      sym (rw (← q) (all_parts (64 * p + 64) (n - (64 * p + 64)) ∙ rw (all_parts (64 * p) 64, e, sym h ∙ t)))

-- ---- marks
module _ (marks : List ℕ) (from : ℕ) where
  -- 64 marks: the first n, and the others
  module _ (n most never : ℕ) (l : n ≤ 64) (z : 0 < never) where
    abbrev in_front : ℕ → Bool
    in_front j = not (eqb (get_or marks (from + j) 0) never) && leb (get_or marks (from + j) 0) most

    abbrev in_line : ℕ → Bool
    in_line j = eqb (get_or marks (from + j) 0) 0 || (ltb j n && in_front j)

    front : (j : ℕ) → j < n → in_line j ≡ in_front j
    front j u = rw (lt-ltb j n u) (go (ℕ_discrete (get_or marks (from + j) 0) 0))
      where
        go : Dec (get_or marks (from + j) 0 ≡ 0) → eqb (get_or marks (from + j) 0) 0 || in_front j ≡ in_front j
        go (yes e) = rw (e, ne_eqb 0 never (omega arith), leb-zero most)
        go (no m) = rw (ne_eqb (get_or marks (from + j) 0) 0 m)

    back : (j : ℕ) → in_line (n + j) ≡ eqb (get_or marks (from + n + j) 0) 0
    back j = rw (le-ltb (n + j) n (omega arith), ← add_assoc from n j) (or_none (eqb (get_or marks (from + n + j) 0) 0))

    in_parts : every 64 in_line ≡ every n in_front && every (64 - n) (λ j. eqb (get_or marks (from + n + j) 0) 0)
    in_parts =
        let q : n + (64 - n) ≡ 64 = omega arith in
        (rw q at (all_parts in_line n (64 - n)))
        ∙ rw (all_same in_line in_front n front, all_same (λ j. in_line (n + j)) (λ j. eqb (get_or marks (from + n + j) 0) 0) (64 - n) (λ j u. back j))

    pub line_over : {r : ℕ} → leb r most ≡ every n in_front → most < r → false ≡ every 64 in_line
    line_over {r} e u = sym (in_parts ∙ rw (sym e ∙ lt-leb r most u))

    pub line-within : {r : ℕ} {b : Bool} → leb r most ≡ every n in_front → r ≤ most
        → b ≡ every (64 - n) (λ j. eqb (get_or marks (from + n + j) 0) 0) → b ≡ every 64 in_line
    line-within {r} e u h = h ∙ sym (in_parts ∙ rw (sym e ∙ le-leb r most u))

-- absent pairs: k marks that are all 0
module _ (marks : List ℕ) (n : ℕ) where
  pub absent_all : (k : ℕ) {b : Bool} → b ≡ every k (λ j. eqb (get_or marks (n + j) 0) 0) → b ≡ true → (i : ℕ) → n ≤ i → i < n + k → get_or marks i 0 ≡ 0
  absent_all k e t i u v =
      let q : n + (i - n) ≡ i = omega arith in
      eqb→eq (get_or marks i 0) 0 (rw q at (every_at (λ j. eqb (get_or marks (n + j) 0) 0) k (i - n) (T_true (sym e ∙ t)) (omega arith)))

-- what a mark other than 0 is, on a pair and on a kept node
pair-mark : (x : ℕ) → (x ≡ 0 → ⊥) → not (eqb x 2) && leb x 4 ≡ eqb x 1 || (eqb x 3 || eqb x 4)
pair-mark x z = go (ℕ_discrete x 1) (ℕ_discrete x 2) (ℕ_discrete x 3) (ℕ_discrete x 4)
  where
    go : Dec (x ≡ 1) → Dec (x ≡ 2) → Dec (x ≡ 3) → Dec (x ≡ 4) → not (eqb x 2) && leb x 4 ≡ eqb x 1 || (eqb x 3 || eqb x 4)
    go (yes a) q r s = rw a
    go (no a) (yes b) r s = rw b
    go (no a) (no b) (yes c) s = rw c
    go (no a) (no b) (no c) (yes d) = rw d
    go (no a) (no b) (no c) (no d) =
        rw (ne_eqb x 1 a, ne_eqb x 3 c, ne_eqb x 4 d, lt-leb x 4 (omega arith)) (and_false (not (eqb x 2)))

kept-mark : (x : ℕ) → (x ≡ 0 → ⊥) → not (eqb x 1) && leb x 2 ≡ eqb x 2
kept-mark x z = go (ℕ_discrete x 1) (ℕ_discrete x 2)
  where
    go : Dec (x ≡ 1) → Dec (x ≡ 2) → not (eqb x 1) && leb x 2 ≡ eqb x 2
    go (yes a) s = rw a
    go (no a) (yes b) = rw b
    go (no a) (no b) = rw (ne_eqb x 2 b, lt-leb x 2 (omega arith)) (and_false (not (eqb x 1)))

unless_0 : (x : ℕ) (b : Bool) {s t : Bool} → ((x ≡ 0 → ⊥) → s ≡ t) → eqb x 0 || (b && s) ≡ eqb x 0 || (b && t)
unless_0 x b {s} {t} h = go (ℕ_discrete x 0)
  where
    go : Dec (x ≡ 0) → eqb x 0 || (b && s) ≡ eqb x 0 || (b && t)
    go (yes e) = rw (eq-eqb x 0 e)
    go (no n) = rw (h n)

-- a mark at old place p and new place j
module _ (heads : Heads) (p j x : ℕ) (l : j < 64) where
  new-place : (64 * p + j) % 64 ≡ j
  new-place = omega arith

  old-place : (64 * p + j) / 64 ≡ p
  old-place = omega arith

  kept-fits : (n : ℕ) → p ≡ 64 → ltb j n ≡ ltb j heads.new.places
      → eqb x 0 || (ltb j n && (not (eqb x 1) && leb x 2)) ≡ bool (mark_fits heads (64 * p + j) x)
  kept-fits n e t =
      rw (t, new-place, le-ltb (64 * p + j) 4096 (omega arith), le-leb 4096 (64 * p + j) (omega arith))
      (unless_0 x (ltb j heads.new.places) (kept-mark x))

  pair_fits : (n : ℕ) → p < 64 → ltb p heads.old.places ≡ true → ltb j n ≡ ltb j heads.new.places
      → eqb x 0 || (ltb j n && (not (eqb x 2) && leb x 4)) ≡ bool (mark_fits heads (64 * p + j) x)
  pair_fits n u o t =
      rw (t, new-place, lt-ltb (64 * p + j) 4096 (omega arith), lt-leb 4096 (64 * p + j) (omega arith), old-place, o)
      (unless_0 x (ltb j heads.new.places) (λ z. pair-mark x z ∙ sym (or_none (eqb x 1 || (eqb x 3 || eqb x 4)))))

  none-fits : p < 64 → ltb p heads.old.places ≡ false → eqb x 0 ≡ bool (mark_fits heads (64 * p + j) x)
  none-fits u o =
      rw (new-place, lt-ltb (64 * p + j) 4096 (omega arith), lt-leb 4096 (64 * p + j) (omega arith), old-place, o)
      (sym (rw (and_false (ltb j heads.new.places)) (or_none (eqb x 0))))

-- the 64 marks at old place p, where n of them are of places that exist
module _ (heads : Heads) (marks : List ℕ) (p n : ℕ) (there : (j : ℕ) → j < 64 → ltb j n ≡ ltb j heads.new.places) where
  abbrev x : ℕ → ℕ
  x j = get_or marks (64 * p + j) 0

  abbrev fits : ℕ → Bool
  fits j = bool (mark_fits heads (64 * p + j) (x j))

  pub place_kept : {b : Bool} → p ≡ 64 → b ≡ every 64 (λ j. eqb (x j) 0 || (ltb j n && (not (eqb (x j) 1) && leb (x j) 2))) → b ≡ every 64 fits
  place_kept e h =
      h ∙ all_same (λ j. eqb (x j) 0 || (ltb j n && (not (eqb (x j) 1) && leb (x j) 2))) fits 64 (λ j l. kept-fits heads p j (x j) l n e (there j l))

  module _ (k : ℕ) (l : p < 65) (m : p ≡ 64 → ⊥) (there-old : (j : ℕ) → j < 64 → ltb j k ≡ ltb j heads.old.places) where
    pair : p < 64
    pair = omega arith

    pub place_pairs : {b : Bool} → p < k → b ≡ every 64 (λ j. eqb (x j) 0 || (ltb j n && (not (eqb (x j) 2) && leb (x j) 4))) → b ≡ every 64 fits
    place_pairs u h =
        h
        ∙ all_same (λ j. eqb (x j) 0 || (ltb j n && (not (eqb (x j) 2) && leb (x j) 4))) fits 64
        (λ j l. pair_fits heads p j (x j) l n pair (sym (there-old p pair) ∙ lt-ltb p k u) (there j l))

    pub place_none : {b : Bool} → k ≤ p → b ≡ every 64 (λ j. eqb (x j) 0) → b ≡ every 64 fits
    place_none u h = h ∙ all_same (λ j. eqb (x j) 0) fits 64 (λ j l. none-fits heads p j (x j) l pair (sym (there-old p pair) ∙ le-ltb p k u))

-- ---- targets
pub fits_at : (targets : List ℕ) (i : ℕ) → bool (targets_fit targets) ≡ true → i < 8192
    → Says (target_fits (get_or targets i 0))
unfolding targets_fit
fits_at targets i h l = says (targets_fit targets) (T_true h) i l

-- ---- the start: n is the pair of both starts, k the kept new start
module _ (heads : Heads) (marks : List ℕ) where
  pub start_unmarked : (s : ℕ) {n : ℕ} → n ≡ start_pair heads → s ≡ n → (get_or marks n 0 ≡ 1 → ⊥) → false ≡ bool (start_fits heads s marks)
  unfolding start_fits
  start_unmarked s z e m = rw (e ∙ z, ne_eqb (get_or marks 0 0) 1 (λ y. m (rw z y)))

  pub start-pair : (s : ℕ) {n : ℕ} {r : Bool} {p : OldPlace} {q : NewPlace} → n ≡ start_pair heads → s ≡ n → get_or marks n 0 ≡ 1 → p ≡ old_of n → q ≡ new_of n
      → r ≡ bool (fair heads p q) → r ≡ bool (start_fits heads s marks)
  unfolding start_fits
  start-pair s {q = q} z e m a b h =
      h ∙ ap (λ (p : OldPlace). bool (fair heads p q)) (rw z at a) ∙ ap (λ (q : NewPlace). bool (fair heads (old_of 0) q)) (rw z at b)
      ∙ sym (rw (e ∙ z, eq-eqb (get_or marks 0 0) 1 (rw z at m)) (or_none (bool (fair heads (old_of 0) (new_of 0)))))

  pub start-kept : (s : ℕ) {k : ℕ} {r : Bool} → k ≡ start_kept heads → s ≡ k → r ≡ eqb (get_or marks k 0) 2 → r ≡ bool (start_fits heads s marks)
  unfolding start_fits
  start-kept s z e h = rw (e ∙ z) (rw z at h)

  pub start_none : (s : ℕ) {n k : ℕ} → n ≡ start_pair heads → k ≡ start_kept heads → (s ≡ n → ⊥) → (s ≡ k → ⊥) → false ≡ bool (start_fits heads s marks)
  unfolding start_fits
  start_none s y z m n = rw (ne_eqb s 0 (λ e. m (e ∙ sym y)), ne_eqb s 4096 (λ e. n (e ∙ sym z)))
