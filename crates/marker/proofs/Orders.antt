-- In whatever order pairs are opened, where none is left to open the marks are the same. Assumes nothing.
use mathlib.Core.Path.{◌≡◌, refl, sym, subst, ◌∙◌}
use mathlib.Core.Bool.{Bool, true, false}
use mathlib.Core.Logic.{◌⊎◌, inl, inr, ⊎_elim, dite}
use mathlib.Core.List.{List, [], ◌∷◌}
use Rattle.std.specs.Prelude.{None, Some}
use Prim.Native.Nat.{ℕ, suc, ◌+◌, ◌-◌, ◌≤◌, ◌<◌}
use native.Mathlib.Nat.{add-suc}
use native.Mathlib.Omega.{arith}
use native.Mathlib.Decide.{ℕ_discrete, dec_lt}
use borrow.Author.Tests.{eqb-true, ne_eqb}
use lib.Dec.{T, eqb, eqb→eq}
use lib.ListN.{length, get_or, set, take, length-set}
use lib.Seq.{get_or-set_same, get_or-set_other, get_or-take, length-take-le, ext_get_or}
use Rattle.base.specs.Walks.{first_from}
use Rattle.base.proofs.Repeat.{repeated-keeps}
use Rattle.base.proofs.Tests.{T_or, T_true, and_true}
use Rattle.records.specs.Records.{index}
use Rattle.marker.specs.Marks.{in_q, opening, next_opening, opened, all_opened}
use Rattle.marker.specs.inner.Openings.{Opened, none_yet, one_more, Tried, Swept}
use Rattle.marker.proofs.Marks.{opening_why, fours, open_less, left_beyond, all_rest}

-- none is found where none passes
first-from : (p : ℕ → ℕ → Bool) (i : ℕ) (l : List ℕ) → ((j : ℕ) → j < length l → p (i + j) (get_or l j 0) ≡ false) → first_from p i l ≡ None
unfolding first_from
first-from p i [] h = refl
first-from p i (x ∷ l) h =
    let z : i + 0 ≡ i = omega arith in
    let f : p i x ≡ false = rw z at (h 0 (omega arith)) in
    rw (f, first_from) (first-from p (i + 1) l (λ j b. let w : i + 1 + j ≡ i + suc j = omega arith in rw w (h (suc j) (omega arith))))

first-none : (p : ℕ → ℕ → Bool) (l : List ℕ) → ((j : ℕ) → j < length l → p j (get_or l j 0) ≡ false) → first_from p 0 l ≡ None
first-none p l h = first-from p 0 l (λ j b. let z : 0 + j ≡ j = omega arith in rw z (h j b))

module _ (t : List ℕ) where
  -- what is opened was beyond, and has an open or kept target
  opening_four : (y : List ℕ) (i x : ℕ) → opening t y i x ≡ true → x ≡ 4
  unfolding opening
  opening_four y i x e = eqb-true x 4 (and_true (eqb x 4) _ e).0

  opening-target : (y : List ℕ) (i x : ℕ) → opening t y i x ≡ true → (r : ℕ) × (r < 2) × ((get_or y (get_or t (index i r) 0) 0 ≡ 1) ⊎ (get_or y (get_or t (index i r) 0) 0 ≡ 2))
  unfolding opening in_q
  opening-target y i x e =
      elim (T_or (in_q y (get_or t (index i 0) 0)) (in_q y (get_or t (index i 1) 0)) (T_true (and_true (eqb x 4) _ e).1)) [
        | inl a ↦ (0, omega arith, told (get_or t (index i 0) 0) a)
        | inr a ↦ (1, omega arith, told (get_or t (index i 1) 0) a)
      ]
    where
      told : (k : ℕ) → T (in_q y k) → (get_or y k 0 ≡ 1) ⊎ (get_or y k 0 ≡ 2)
      told k a = elim (T_or (eqb (get_or y k 0) 1) (eqb (get_or y k 0) 2) a) [ inl b ↦ inl (eqb→eq (get_or y k 0) 1 b) | inr b ↦ inr (eqb→eq (get_or y k 0) 2 b) ]

  pub opened-long : {x y : List ℕ} {n : ℕ} → Opened t x n y → length y ≡ length x
  opened-long none_yet = refl
  opened-long (one_more {y = y} i o b e) = length-set y i 1 ∙ opened-long o

  -- each opening leaves one pair less beyond
  pub opened_fours : {x y : List ℕ} {n : ℕ} → length x ≡ 4160 → Opened t x n y → fours t y + n ≤ fours t x
  opened_fours l none_yet = omega arith
  opened_fours l (one_more {y = y} i o b e) =
      omega (arith, opened_fours l o, open_less t y i (opened-long o ∙ l) b (opening_four y i (get_or y i 0) e))

  pub opened_then : {x y z : List ℕ} {m n : ℕ} → Opened t x m y → Opened t y n z → Opened t x (m + n) z
  opened_then {x} {y} {m = m} o none_yet = let e : m ≡ m + 0 = omega arith in subst (λ (k : ℕ). Opened t x k y) e o
  opened_then {x} {m = m} o (one_more {n = n} {y = y} i p b e) = subst (λ (k : ℕ). Opened t x k (set y i 1)) (sym (add-suc m n)) (one_more i (opened_then o p) b e)

  module _ {x : List ℕ} (l : length x ≡ 4160) where
    -- a mark is as it was, or was 4 and is 1
    pub opened_at : {y : List ℕ} {n : ℕ} → Opened t x n y → (k : ℕ) → (get_or y k 0 ≡ get_or x k 0) ⊎ ((get_or x k 0 ≡ 4) × (get_or y k 0 ≡ 1))
    opened_at none_yet k = inl refl
    opened_at (one_more {y = y} i o b e) k =
        dite (ℕ_discrete k i)
        (λ z. let f : get_or y k 0 ≡ 4 = rw z (opening_four y i (get_or y i 0) e) in
        inr (⊎_elim (λ s. sym s ∙ f) (λ s. s.0) (opened_at o k), rw z (get_or-set_same y i 1 0 (omega (arith, opened-long o)))))
        (λ z. rw (get_or-set_other y i k 1 0 z) (opened_at o k))

    module _ {z : List ℕ} {m : ℕ} (p : Opened t x m z) (rest : next_opening t z ≡ None) where
      -- what one order opens, an order that leaves nothing to open has opened
      under : {y : List ℕ} {n : ℕ} → Opened t x n y → (k : ℕ) → get_or y k 0 ≡ 1 → get_or z k 0 ≡ 1
      under none_yet k e = ⊎_elim (λ s. s ∙ e) (λ s. s.1) (opened_at p k)
      under (one_more {y = y} i o b e) k f = dite (ℕ_discrete k i) (λ q. rw q (here (λ j g. under o j g))) (λ q. under o k (sym (get_or-set_other y i k 1 0 q) ∙ f))
        where
          four : get_or x i 0 ≡ 4
          four = ⊎_elim (λ s. sym s ∙ opening_four y i (get_or y i 0) e) (λ s. s.0) (opened_at o i)

          kept : (j : ℕ) → get_or y j 0 ≡ 2 → get_or z j 0 ≡ 2
          kept j g =
              let w : get_or x j 0 ≡ 2 = ⊎_elim (λ s. sym s ∙ g) (λ s. absurd (omega (arith, s.1))) (opened_at o j) in
              ⊎_elim (λ s. s ∙ w) (λ s. absurd (omega (arith, s.0))) (opened_at p j)

          here : ((k : ℕ) → get_or y k 0 ≡ 1 → get_or z k 0 ≡ 1) → get_or z i 0 ≡ 1
          here ih = ⊎_elim (λ s. absurd (no (s ∙ four))) (λ s. s.1) (opened_at p i)
            where
              no : get_or z i 0 ≡ 4 → ⊥
              no g =
                  let (r, c, d) = opening-target y i (get_or y i 0) e in
                  let n = left_beyond t z (opened-long p ∙ l) rest i b g r c in
                  ⊎_elim (λ q. n.0 (ih (get_or t (index i r) 0) q)) (λ q. n.1 (kept (get_or t (index i r) 0) q)) d

    -- two orders that both leave nothing to open
    pub same_end : {y z : List ℕ} {n m : ℕ} → Opened t x n y → next_opening t y ≡ None → Opened t x m z → next_opening t z ≡ None → y ≡ z
    same_end {y} {z} o f p g = ext_get_or 0 y z (opened-long o ∙ sym (opened-long p)) (λ k b. go k (opened_at o k) (opened_at p k))
      where
        go : (k : ℕ) → (get_or y k 0 ≡ get_or x k 0) ⊎ ((get_or x k 0 ≡ 4) × (get_or y k 0 ≡ 1)) → (get_or z k 0 ≡ get_or x k 0) ⊎ ((get_or x k 0 ≡ 4) × (get_or z k 0 ≡ 1)) → get_or y k 0 ≡ get_or z k 0
        go k (inl a) (inl b) = a ∙ sym b
        go k (inl a) (inr b) = under o f p k b.1 ∙ sym b.1
        go k (inr a) (inl b) = a.1 ∙ sym (under p g o k a.1)
        go k (inr a) (inr b) = a.1 ∙ sym b.1

    pub some-opened : (n : ℕ) × Opened t x n (all_opened t x)
    unfolding all_opened
    some-opened =
        repeated-keeps (next_opening t) opened (λ y. (n : ℕ) × Opened t x n y) (λ y i s e. next y i s e) 4096 x (0, none_yet)
      where
        next : (y : List ℕ) (i : ℕ) → (n : ℕ) × Opened t x n y → next_opening t y ≡ Some i → (n : ℕ) × Opened t x n (set y i 1)
        next y i (n, o) e =
            let w = opening_why t y i (opened-long o ∙ l) e in
            (suc n, one_more i o w.0 (rw w.1 w.2))

    -- any order comes to what the definition says
    pub any_order : {y : List ℕ} {n : ℕ} → Opened t x n y → next_opening t y ≡ None → y ≡ all_opened t x
    any_order o f = same_end o f some-opened.1 (all_rest t x l)

-- ---- one pass, in the form in which the code meets it
module _ (t : List ℕ) where
  module _ {x : List ℕ} (i : ℕ) {b : Bool} (e : b ≡ opening t x i (get_or x i 0)) where
    pub tried_yes : {y : List ℕ} → i < 4096 → b ≡ true → y ≡ set x i 1 → Tried t x i 1 y
    tried_yes l h q = rw q (record { did = one_more i none_yet l (sym e ∙ h); most = omega arith; here = λ z. refl; else_not = λ z. absurd (omega arith) })

    pub tried_no : b ≡ false → Tried t x i 0 x
    tried_no h = record { did = none_yet; most = omega arith; here = λ z. absurd (z refl); else_not = λ z. (refl, sym e ∙ h) }

  -- ---- spans of pairs that had their turn
  -- none of them is beyond
  pub swept_none : (x : List ℕ) {i e : ℕ} → i ≤ e → ((k : ℕ) → i ≤ k → k < e → get_or x k 0 ≡ 4 → ⊥) → Swept t x i e 0 x
  unfolding opening
  swept_none x l h =
      record { did = none_yet; long = refl; near = l; most = omega arith; else_not = λ z. (refl, λ k a b. rw (ne_eqb (get_or x k 0) 4 (h k a b))) }

  -- no pair at all
  pub swept_start : (x : List ℕ) (e : ℕ) → Swept t x e e 0 x
  swept_start x e = swept_none x (omega arith) (λ k a b. absurd (omega arith))

  -- two spans, whichever is the higher
  swept_both : {x y z : List ℕ} {a b c d n r : ℕ} (i e : ℕ) → Swept t x a b n y → Swept t y c d r z → i ≤ e → b - a + (d - c) ≤ e - i
      → ((k : ℕ) → i ≤ k → k < e → ((a ≤ k) × (k < b)) ⊎ ((c ≤ k) × (k < d))) → Swept t x i e (n + r) z
  swept_both {x} i e S R l m cases =
      record {
        did = opened_then t S.did R.did;
        long = R.long ∙ S.long;
        near = l;
        most = omega (arith, S.most, R.most);
        else_not = λ h. (
          (R.else_not (omega arith)).0 ∙ (S.else_not (omega arith)).0,
          λ k p q. ⊎_elim (λ u. (S.else_not (omega arith)).1 k u.0 u.1)
              (λ u. subst (λ (w : List ℕ). opening t w k (get_or w k 0) ≡ false) (S.else_not (omega arith)).0 ((R.else_not (omega arith)).1 k u.0 u.1)) (cases k p q),
        );
      }

  module _ {x y z : List ℕ} {a b c n r : ℕ} where
    pub swept_up : Swept t x a b n y → Swept t y b c r z → Swept t x a c (n + r) z
    swept_up S R =
        swept_both a c S R (omega (arith, S.near, R.near)) (omega (arith, S.near, R.near)) (λ k p q. dite (dec_lt k b) (λ h. inl (p, h)) (λ h. inr (omega arith, q)))

    pub swept_down : Swept t x b c n y → Swept t y a b r z → Swept t x a c (n + r) z
    swept_down S R =
        swept_both a c S R (omega (arith, S.near, R.near)) (omega (arith, S.near, R.near)) (λ k p q. dite (dec_lt k b) (λ h. inr (p, h)) (λ h. inl (omega arith, q)))

  -- a pass that opened none leaves none to open
  pub swept_rests : {x y : List ℕ} → length x ≡ 4160 → Swept t x 0 4096 0 y → next_opening t y ≡ None
  unfolding next_opening
  swept_rests {x} {y} l S =
      let q = S.else_not refl in
      rw q.0 (first-none (opening t x) (take 4096 x) (λ j b. rw (get_or-take 4096 x j 0 (below j b)) (q.1 j (omega arith) (below j b))))
    where
      below : (j : ℕ) → j < length (take 4096 x) → j < 4096
      below j b = omega (arith, length-take-le 4096 x (omega arith))

-- the loop of passes
pub record Sweeping (t x y : List ℕ) : Type 0 where
  pub long : length x ≡ 4160
  pub same : length y ≡ length x
  pub count : ℕ
  pub did : Opened t x count y

module _ (t : List ℕ) where
  pub sweeping_start : (x : List ℕ) → length x ≡ 4160 → Sweeping t x x
  sweeping_start x l = record { long = l; same = refl; count = 0; did = none_yet }
