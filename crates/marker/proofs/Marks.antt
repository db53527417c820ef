-- The marks of Algorithm 1: which a node can have, and that they are closed as the condition needs. Assumes nothing.
use mathlib.Core.Path.{◌≡◌, refl, sym, ap, ◌∙◌}
use mathlib.Core.Bool.{Bool, true, false}
use mathlib.Core.Logic.{◌⊎◌, inl, inr, ⊎_elim, dite}
use mathlib.Core.List.{List, [], ◌∷◌}
use Rattle.std.specs.Prelude.{None, Some}
use Prim.Native.Nat.{ℕ, zero, suc, ◌≤◌, ◌<◌}
use native.Mathlib.Omega.{arith}
use native.Mathlib.Decide.{ℕ_discrete, dec_lt}
use borrow.Author.Tests.{ne_eqb, eqb-true, eqb-false, lt-ltb, le-ltb}
use lib.Dec.{T, eqb, eqb→eq, eqb_refl}
use lib.ListN.{length, get_or, set, take, length-set, get_or-eq_default}
use lib.Seq.{get_or-set_same, get_or-set_other, get_or-take, length-take-le, ext_get_or}
use Rattle.base.proofs.Lists.{has}
use Rattle.base.proofs.Tests.{T_or, T_or_l, T_or_r, and_true, or_false}
use Rattle.base.proofs.Repeat.{Falls, rests, repeated-keeps}
use Rattle.base.proofs.Sums.{sum, sum_lt, sum-most}
use Rattle.base.proofs.Walks.{length-pass, pass_at, first-is, none_passes}
use Rattle.records.specs.Records.{index}
use Rattle.marker.specs.Marks.{plain_mark, plain_marks, in_q, opening, next_opening, opened, all_opened, transitions, cover, covered, all_covered, final_marks}

-- the marks x of nodes whose marks between turns are m: a pair of the graph is open, covered or beyond, a kept place is kept
pub record Ranks (m x : List ℕ) : Type 0 where
  pub long : length x ≡ 4160
  pub absent : (n : ℕ) → get_or m n 0 ≡ 0 → get_or x n 0 ≡ 0
  pub pair : (n : ℕ) → n < 4096 → 0 < get_or m n 0 → (get_or x n 0 ≡ 1) ⊎ ((get_or x n 0 ≡ 3) ⊎ (get_or x n 0 ≡ 4))
  pub node : (n : ℕ) → 4096 ≤ n → n < 4160 → 0 < get_or m n 0 → get_or x n 0 ≡ 2

module _ (m x : List ℕ) (R : Ranks m x) (n : ℕ) where
  -- what is marked at all is a node that is there
  pub rank-there : 0 < get_or x n 0 → (n < 4160) × (0 < get_or m n 0)
  rank-there p = (
    dite (dec_lt n 4160) (λ h. h) (λ h. absurd (omega (arith, get_or-eq_default x 0 {n = n} (omega (arith, R.long))))),
    dite (ℕ_discrete (get_or m n 0) 0) (λ e. absurd (omega (arith, R.absent n e))) (λ e. omega arith),
  )

  -- 1, 3 and 4 are marks of pairs
  pub rank-pair : 0 < get_or x n 0 → (get_or x n 0 ≡ 2 → ⊥) → n < 4096
  rank-pair p e = let t = rank-there p in dite (dec_lt n 4096) (λ h. h) (λ h. absurd (e (R.node n (omega arith) t.0 t.1)))

  -- and 2 is one of kept nodes
  pub rank-node : get_or x n 0 ≡ 2 → 4096 ≤ n
  rank-node e =
      let t = rank-there (omega arith) in
      dite (dec_lt n 4096) (λ l. absurd (⊎_elim (λ y. omega arith) (λ y. ⊎_elim (λ u. omega arith) (λ u. omega arith) y) (R.pair n l t.1))) (λ l. omega arith)

-- a pair that is beyond is opened, or covered
pub rank-set : (m x : List ℕ) (n v : ℕ) → Ranks m x → get_or x n 0 ≡ 4 → (v ≡ 1) ⊎ ((v ≡ 3) ⊎ (v ≡ 4)) → Ranks m (set x n v)
rank-set m x n v R f w =
    record {
      long = length-set x n v ∙ R.long;
      absent = λ k e. other k (λ q. omega (arith, rw q at e, (rank-there m x R n (omega arith)).1)) ∙ R.absent k e;
      pair = λ k b p. dite (ℕ_discrete k n) (λ q. rw (q, here) w) (λ q. rw (other k q) (R.pair k b p));
      node = λ k a b p. other k (λ q. absurd (omega (arith, rank-pair m x R n (omega arith) (λ z. omega arith)))) ∙ R.node k a b p;
    }
  where
    other : (k : ℕ) → (k ≡ n → ⊥) → get_or (set x n v) k 0 ≡ get_or x k 0
    other k q = get_or-set_other x n k v 0 q

    here : get_or (set x n v) n 0 ≡ v
    here = get_or-set_same x n v 0 (omega (arith, R.long, (rank-there m x R n (omega arith)).0))

-- ---- the plain marks
module _ (m : List ℕ) (l : length m ≡ 4160) (n : ℕ) (b : n < 4160) where
  plain_at : get_or (plain_marks m) n 0 ≡ plain_mark n (get_or m n 0)
  unfolding plain_marks
  plain_at = pass_at plain_mark m n (omega arith)

  pub plain-none : get_or m n 0 ≡ 0 → get_or (plain_marks m) n 0 ≡ 0
  unfolding plain_mark
  plain-none e = plain_at ∙ rw (e, plain_mark)

  pub plain-pair : n < 4096 → 0 < get_or m n 0 → get_or (plain_marks m) n 0 ≡ 4
  unfolding plain_mark
  plain-pair a p = plain_at ∙ rw (ne_eqb (get_or m n 0) 0 (λ e. omega arith), plain_mark) (rw (lt-ltb n 4096 a, plain_mark))

  pub plain-node : 4096 ≤ n → 0 < get_or m n 0 → get_or (plain_marks m) n 0 ≡ 2
  unfolding plain_mark
  plain-node a p = plain_at ∙ rw (ne_eqb (get_or m n 0) 0 (λ e. omega arith), plain_mark) (rw (le-ltb n 4096 a, plain_mark))

pub length-plain : (m : List ℕ) → length (plain_marks m) ≡ length m
unfolding plain_marks
length-plain m = length-pass plain_mark 0 m

pub plain_ranks : (m : List ℕ) → length m ≡ 4160 → Ranks m (plain_marks m)
plain_ranks m l =
    record {
      long = length-plain m ∙ l;
      absent = λ n e. dite (dec_lt n 4160) (λ b. plain-none m l n b e) (λ b. get_or-eq_default (plain_marks m) 0 {n = n} (omega (arith, length-plain m)));
      pair = λ n b p. inr (inr (plain-pair m l n (omega arith) b p));
      node = λ n a b p. plain-node m l n b a p;
    }

-- none is covered yet
plain_uncovered : (m : List ℕ) → length m ≡ 4160 → (n : ℕ) → get_or (plain_marks m) n 0 ≡ 3 → ⊥
plain_uncovered m l n e =
    let R = plain_ranks m l in
    let t = rank-there m (plain_marks m) R n (omega arith) in
    dite (dec_lt n 4096) (λ b. omega (arith, plain-pair m l n t.0 b t.1)) (λ b. omega (arith, plain-node m l n t.0 (omega arith) t.1))

-- the start becomes open, whether it had a mark or not
start-any : (m : List ℕ) (s : ℕ) → length m ≡ 4160 → s < 4096 → set (plain_marks m) s 1 ≡ set (plain_marks (set m s 1)) s 1
start-any m s l b = ext_get_or 0 (set (plain_marks m) s 1) (set (plain_marks m') s 1) (simp (length-set, length-plain) refl) (λ k c. go k (below k c) (ℕ_discrete k s))
  where
    m' : List ℕ
    m' = set m s 1

    l' : length m' ≡ 4160
    l' = length-set m s 1 ∙ l

    below : (k : ℕ) → k < length (set (plain_marks m) s 1) → k < 4160
    below k c = omega (arith, length-set (plain_marks m) s 1, length-plain m)

    go : (k : ℕ) → k < 4160 → Dec (k ≡ s) → get_or (set (plain_marks m) s 1) k 0 ≡ get_or (set (plain_marks m') s 1) k 0
    go k c (yes e) =
        rw e (get_or-set_same (plain_marks m) s 1 0 (omega (arith, length-plain m)) ∙ sym (get_or-set_same (plain_marks m') s 1 0 (omega (arith, length-plain m', l'))))
    go k c (no e) =
        get_or-set_other (plain_marks m) s k 1 0 e ∙ plain_at m l k c ∙ ap (plain_mark k) (sym (get_or-set_other m s k 1 0 e)) ∙ sym (plain_at m' l' k c)
        ∙ sym (get_or-set_other (plain_marks m') s k 1 0 e)

-- ---- lines 1 to 5 of Algorithm 1
-- what holds as pairs are opened: start n is open, none is covered
pub record Opens (m : List ℕ) (n : ℕ) (x : List ℕ) : Type 0 where
  pub ranks : Ranks m x
  pub start : get_or x n 0 ≡ 1
  pub uncovered : (k : ℕ) → get_or x k 0 ≡ 3 → ⊥

module _ (t : List ℕ) where
  -- what is opened was beyond, and has an open or kept target
  pub opening_why : (x : List ℕ) (n : ℕ) → length x ≡ 4160 → next_opening t x ≡ Some n → (n < 4096) × (get_or x n 0 ≡ 4) × (opening t x n 4 ≡ true)
  unfolding next_opening opening
  opening_why x n l e =
      let f = first-is (opening t x) (take 4096 x) n e in
      let b : n < 4096 = omega (arith, f.below, length-take-le 4096 x (omega arith)) in
      let p = rw (get_or-take 4096 x n 0 b) at f.passes in
      let q : get_or x n 0 ≡ 4 = eqb-true (get_or x n 0) 4 (and_true (eqb (get_or x n 0) 4) _ p).0 in
      (b, q, rw q at p)

  opens_more : (m : List ℕ) (s : ℕ) (x : List ℕ) (n : ℕ) → Opens m s x → next_opening t x ≡ Some n → Opens m s (opened x n)
  opens_more m s x n O e =
      let w = opening_why x n O.ranks.long e in
      let b : n < length x = omega (arith, O.ranks.long, w.0) in
      record {
        ranks = rank-set m x n 1 O.ranks w.1 (inl refl);
        start = dite (ℕ_discrete s n) (λ q. rw q (get_or-set_same x n 1 0 b)) (λ q. get_or-set_other x n s 1 0 q ∙ O.start);
        uncovered = λ k z. dite (ℕ_discrete k n) (λ q. omega (arith, rw q at z, get_or-set_same x n 1 0 b)) (λ q. O.uncovered k (sym (get_or-set_other x n k 1 0 q) ∙ z));
      }

  four : ℕ → ℕ
  four v = elim (eqb v 4) [ true ↦ 1 | false ↦ 0 ]

  four_most : (v : ℕ) → four v ≤ 1
  unfolding four
  four_most v = go (eqb v 4)
    where
      go : (b : Bool) → (elim b as (λ _. ℕ) [ true ↦ 1 | false ↦ 0 ]) ≤ 1
      go true = omega arith
      go false = omega arith

  -- how many pairs are beyond
  pub fours : List ℕ → ℕ
  fours x = sum 4096 (λ i. four (get_or x i 0))

  pub fours_most : (x : List ℕ) → fours x ≤ 4096
  unfolding fours
  fours_most x = omega (arith, sum-most 4096 1 (λ i. four (get_or x i 0)) (λ i. four_most (get_or x i 0)))

  pub open_less : (x : List ℕ) (n : ℕ) → length x ≡ 4160 → n < 4096 → get_or x n 0 ≡ 4 → fours (opened x n) < fours x
  unfolding fours four
  open_less x n l b f =
      sum_lt 4096 n (λ i. four (get_or (opened x n) i 0)) (λ i. four (get_or x i 0)) b (rw (f, get_or-set_same x n 1 0 (omega arith)) (omega arith)) (λ i k. go i (ℕ_discrete i n))
    where
      go : (i : ℕ) → Dec (i ≡ n) → four (get_or (opened x n) i 0) ≤ four (get_or x i 0)
      go i (yes q) = rw (q, get_or-set_same x n 1 0 (omega arith)) (omega arith)
      go i (no q) = rw (get_or-set_other x n i 1 0 q) (omega arith)

  pub openings : Falls (next_opening t) opened fours (λ x. length x ≡ 4160)
  openings =
      record {
        keeps = λ x n l e. simp length-set l;
        less = λ x n l e. (let w = opening_why x n l e in open_less x n l w.0 w.1);
      }

  pub all_rest : (x : List ℕ) → length x ≡ 4160 → next_opening t (all_opened t x) ≡ None
  unfolding all_opened
  all_rest x l =
      rests (next_opening t) opened fours (λ x. length x ≡ 4160) openings 4096 x l (fours_most x)

  pub all_opens : (m : List ℕ) (s : ℕ) (x : List ℕ) → Opens m s x → Opens m s (all_opened t x)
  unfolding all_opened
  all_opens m s x O = repeated-keeps (next_opening t) opened (Opens m s) (λ y n p e. opens_more m s y n p e) 4096 x O

  -- a pair that is left beyond has no open or kept target
  pub left_beyond : (x : List ℕ) → length x ≡ 4160 → next_opening t x ≡ None → (i : ℕ) → i < 4096 → get_or x i 0 ≡ 4 → (r : ℕ) → r < 2
      → (get_or x (get_or t (index i r) 0) 0 ≡ 1 → ⊥) × (get_or x (get_or t (index i r) 0) 0 ≡ 2 → ⊥)
  unfolding next_opening opening in_q
  left_beyond x l e i b f r c =
      let z = rw (get_or-take 4096 x i 0 b, f) at (none_passes (opening t x) (take 4096 x) e i (omega (arith, length-take-le 4096 x (omega arith)))) in
      let h = or_false (in_q x (get_or t (index i 0) 0)) (in_q x (get_or t (index i 1) 0)) z in
      go r c h.0 h.1
    where
      neither : (k : ℕ) → in_q x k ≡ false → (get_or x k 0 ≡ 1 → ⊥) × (get_or x k 0 ≡ 2 → ⊥)
      neither k q = let w = or_false (eqb (get_or x k 0) 1) (eqb (get_or x k 0) 2) q in (eqb-false (get_or x k 0) 1 w.0, eqb-false (get_or x k 0) 2 w.1)

      go : (r : ℕ) → r < 2 → in_q x (get_or t (index i 0) 0) ≡ false → in_q x (get_or t (index i 1) 0) ≡ false
          → (get_or x (get_or t (index i r) 0) 0 ≡ 1 → ⊥) × (get_or x (get_or t (index i r) 0) 0 ≡ 2 → ⊥)
      go zero c p q = neither (get_or t (index i 0) 0) p
      go (suc zero) c p q = neither (get_or t (index i 1) 0) q
      go (suc (suc r)) c p q = absurd (omega arith)

-- ---- line 6 of Algorithm 1
-- each target of an open pair is one of the transitions
pub transition-has : (x t : List ℕ) (i r : ℕ) → i < length x → index i 1 < length t → get_or x i 0 ≡ 1 → r < 2 → T (has (transitions x t) (get_or t (index i r) 0))
unfolding transitions
transition-has [] t i r b l e c = absurd (omega arith)
transition-has (y ∷ x) [] i r b l e c = absurd (omega arith)
transition-has (y ∷ x) (u ∷ []) i r b l e c = absurd (omega arith)
transition-has (y ∷ x) (u ∷ (v ∷ t)) zero r b l e c = rw (e, transitions) (go r c)
  where
    go : (r : ℕ) → r < 2 → T (has (u ∷ (v ∷ transitions x t)) (get_or (u ∷ (v ∷ t)) (index 0 r) 0))
    go zero c = T_or_l (eqb u u) (has (v ∷ transitions x t) u) (eqb_refl u)
    go (suc zero) c = T_or_r (eqb v u) (has (v ∷ transitions x t) v) (T_or_l (eqb v v) (has (transitions x t) v) (eqb_refl v))
    go (suc (suc r)) c = absurd (omega arith)
transition-has (y ∷ x) (u ∷ (v ∷ t)) (suc i) r b l e c =
    let h : index (suc i) r ≡ suc (suc (index i r)) = omega arith in
    rw h (go (eqb y 1) (transition-has x t i r (omega arith) (omega arith) e c))
  where
    w : ℕ
    w = get_or t (index i r) 0

    go : (k : Bool) → T (has (transitions x t) w) → T (has (elim k [ true ↦ u ∷ (v ∷ transitions x t) | false ↦ transitions x t ]) w)
    go true h = T_or_r (eqb w u) (has (v ∷ transitions x t) w) (T_or_r (eqb w v) (has (transitions x t) w) h)
    go false h = h

module _ (x : List ℕ) (n : ℕ) where
  pub cover-here : get_or x n 0 ≡ 4 → cover x n ≡ set x n 3
  unfolding cover
  cover-here e = rw (e, cover)

  pub cover_not : (get_or x n 0 ≡ 4 → ⊥) → cover x n ≡ x
  unfolding cover
  cover_not e = rw (ne_eqb (get_or x n 0) 4 e, cover)

  cover_ranks : (m : List ℕ) → Ranks m x → Ranks m (cover x n)
  cover_ranks m R = dite (ℕ_discrete (get_or x n 0) 4) (λ e. rw (cover-here e) (rank-set m x n 3 R e (inr (inl refl)))) (λ e. rw (cover_not e) R)

  -- only what is beyond changes, and to 3
  pub cover-same : (k : ℕ) → (get_or x k 0 ≡ 4 → ⊥) → get_or (cover x n) k 0 ≡ get_or x k 0
  cover-same k q =
      dite (ℕ_discrete (get_or x n 0) 4) (λ e. rw (cover-here e) (get_or-set_other x n k 3 0 (λ z. q (rw z e)))) (λ e. rw (cover_not e))

  cover_hit : get_or (cover x n) n 0 ≡ 4 → ⊥
  cover_hit z =
      dite (ℕ_discrete (get_or x n 0) 4)
      (λ e. dite (dec_lt n (length x)) (λ b. omega (arith, rw (cover-here e) at z, get_or-set_same x n 3 0 b)) (λ b. omega (arith, get_or-eq_default x 0 {n = n} (omega arith))))
      (λ e. e (rw (cover_not e) at z))

pub covered_ranks : (m l x : List ℕ) → Ranks m x → Ranks m (covered x l)
unfolding covered
covered_ranks m [] x R = R
covered_ranks m (n ∷ l) x R = covered_ranks m l (cover x n) (cover_ranks x n m R)

pub covered_same : (l x : List ℕ) (k : ℕ) → (get_or x k 0 ≡ 4 → ⊥) → get_or (covered x l) k 0 ≡ get_or x k 0
unfolding covered
covered_same [] x k q = refl
covered_same (n ∷ l) x k q = let e = cover-same x n k q in covered_same l (cover x n) k (λ z. q (sym e ∙ z)) ∙ e

-- no transition leads to a pair beyond
pub covered_hit : (l x : List ℕ) (k : ℕ) → T (has l k) → get_or (covered x l) k 0 ≡ 4 → ⊥
unfolding covered
covered_hit [] x k h z = absurd h
covered_hit (n ∷ l) x k h z = elim (T_or (eqb k n) (has l k) h) [ inl e ↦ first (eqb→eq k n e) | inr e ↦ covered_hit l (cover x n) k e z ]
  where
    first : k ≡ n → ⊥
    first e =
        let c : get_or (cover x n) k 0 ≡ 4 → ⊥ = rw e (cover_hit x n) in
        c (sym (covered_same l (cover x n) k c) ∙ z)

-- what is neither 1 nor 2 is neither after
pub covered_not : (l x : List ℕ) (k v : ℕ) → (v ≡ 3 → ⊥) → (v ≡ 4 → ⊥) → (get_or x k 0 ≡ v → ⊥) → get_or (covered x l) k 0 ≡ v → ⊥
unfolding covered
covered_not [] x k v a b q z = q z
covered_not (n ∷ l) x k v a b q z =
    covered_not l (cover x n) k v a b (λ w. dite (ℕ_discrete (get_or x k 0) 4) (λ e. here e w) (λ e. q (sym (cover-same x n k e) ∙ w))) z
  where
    here : get_or x k 0 ≡ 4 → get_or (cover x n) k 0 ≡ v → ⊥
    here e w =
        dite (ℕ_discrete k n)
        (λ p. let f : get_or x n 0 ≡ 4 = rw p at e in dite (dec_lt n (length x)) (λ c. a (sym w ∙ rw (p, cover-here x n f) (get_or-set_same x n 3 0 c))) (λ c. absurd (omega (arith, get_or-eq_default x 0 {n = n} (omega arith)))))
        (λ p. dite (ℕ_discrete (get_or x n 0) 4) (λ f. b (sym w ∙ rw (cover-here x n f) (get_or-set_other x n k 3 0 p) ∙ e)) (λ f. b (sym w ∙ rw (cover_not x n f) e)))

-- ---- the final marks, with the start pair s in the graph and the targets t
pub record Final (m t : List ℕ) (s : ℕ) (x : List ℕ) : Type 0 where
  pub ranks : Ranks m x
  pub start : get_or x s 0 ≡ 1
  -- "those from mark 1 have mark 1, 2 or 3; those from 3 or 4 have 3 or 4"
  pub from_open : (i r : ℕ) → i < 4096 → get_or x i 0 ≡ 1 → r < 2 → get_or x (get_or t (index i r) 0) 0 ≡ 4 → ⊥
  pub from_beyond : (i r : ℕ) → i < 4096 → (get_or x i 0 ≡ 3) ⊎ (get_or x i 0 ≡ 4) → r < 2
      → (get_or x (get_or t (index i r) 0) 0 ≡ 1 → ⊥) × (get_or x (get_or t (index i r) 0) 0 ≡ 2 → ⊥)

module _ (m t : List ℕ) (s : ℕ) (lm : length m ≡ 4160) (lt : length t ≡ 8192) (b : s < 4096) (p : 0 < get_or m s 0) where
  pub first_opens : Opens m s (set (plain_marks m) s 1)
  first_opens =
      record {
        ranks = rank-set m (plain_marks m) s 1 (plain_ranks m lm) (plain-pair m lm s (omega arith) b p) (inl refl);
        start = get_or-set_same (plain_marks m) s 1 0 (omega (arith, length-plain m));
        uncovered = λ k z. dite (ℕ_discrete k s) (λ q. omega (arith, rw q at z, get_or-set_same (plain_marks m) s 1 0 (omega (arith, length-plain m)))) (λ q. plain_uncovered m lm k (sym (get_or-set_other (plain_marks m) s k 1 0 q) ∙ z));
      }

  pub final_marks_lem : Final m t s (final_marks s t m)
  unfolding final_marks all_covered
  final_marks_lem =
      let O = all_opens t m s (set (plain_marks m) s 1) first_opens in
      let rest = all_rest t (set (plain_marks m) s 1) first_opens.ranks.long in
      close (all_opened t (set (plain_marks m) s 1)) O rest
    where
      close : (y : List ℕ) → Opens m s y → next_opening t y ≡ None → Final m t s (covered y (transitions y t))
      close y O rest =
          record {
            ranks = covered_ranks m (transitions y t) y O.ranks;
            start = covered_same (transitions y t) y s (λ z. omega (arith, O.start)) ∙ O.start;
            from_open = λ i r c e d. covered_hit (transitions y t) y (get_or t (index i r) 0)
                (transition-has y t i r (omega (arith, O.ranks.long)) (omega arith) (was_open i e) d);
            from_beyond = λ i r c e d.
                (let n = left_beyond t y O.ranks.long rest i c (was_beyond i c e) r d in (
                  covered_not (transitions y t) y (get_or t (index i r) 0) 1 (λ z. omega arith) (λ z. omega arith) n.0,
                  covered_not (transitions y t) y (get_or t (index i r) 0) 2 (λ z. omega arith) (λ z. omega arith) n.1,
                ));
          }
        where
          x : List ℕ
          x = covered y (transitions y t)

          was_open : (i : ℕ) → get_or x i 0 ≡ 1 → get_or y i 0 ≡ 1
          was_open i e = dite (ℕ_discrete (get_or y i 0) 1) (λ z. z) (λ z. absurd (covered_not (transitions y t) y i 1 (λ w. omega arith) (λ w. omega arith) z e))

          was_beyond : (i : ℕ) → i < 4096 → (get_or x i 0 ≡ 3) ⊎ (get_or x i 0 ≡ 4) → get_or y i 0 ≡ 4
          was_beyond i c e =
              dite (ℕ_discrete (get_or y i 0) 4) (λ z. z)
              (λ z. let w = covered_same (transitions y t) y i z in absurd (⊎_elim (λ q. O.uncovered i (sym w ∙ q)) (λ q. z (sym w ∙ q)) e))

-- the same of a start with or without a mark: which marks nodes have before covering, and at the end
module _ (m t : List ℕ) (s : ℕ) (lm : length m ≡ 4160) (lt : length t ≡ 8192) (b : s < 4096) where
  opens_any : Opens (set m s 1) s (all_opened t (set (plain_marks m) s 1))
  opens_any =
      rw (start-any m s lm b)
      (all_opens t (set m s 1) s (set (plain_marks (set m s 1)) s 1)
      (first_opens (set m s 1) t s (length-set m s 1 ∙ lm) lt b (omega (arith, get_or-set_same m s 1 0 (omega arith)))))

  pub none-covered : (k : ℕ) → get_or (all_opened t (set (plain_marks m) s 1)) k 0 ≡ 3 → ⊥
  none-covered = opens_any.uncovered

  pub final_ranks : Ranks (set m s 1) (final_marks s t m)
  unfolding final_marks all_covered
  final_ranks = let y = all_opened t (set (plain_marks m) s 1) in covered_ranks (set m s 1) (transitions y t) y opens_any.ranks
