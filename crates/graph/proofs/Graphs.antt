-- What each part of a turn leaves at each node. Assumes nothing.
use mathlib.Core.Path.{◌≡◌, refl, sym, ap, ◌∙◌}
use mathlib.Core.Bool.{Bool, true, false, ◌&&◌, ◌||◌, not}
use mathlib.Core.List.{List}
use mathlib.Core.Logic.{◌⊎◌, inl, inr, dite}
use Prim.Native.Nat.{ℕ, ◌/◌, ◌%◌, ◌^◌, ◌≤◌, ◌<◌}
use native.Mathlib.Omega.{arith}
use native.Mathlib.Decide.{ℕ_discrete}
use borrow.Author.Tests.{eq-eqb, ne_eqb, eqb-true, eqb-false, lt-ltb, le-ltb, not-true, not-false}
use lib.Dec.{eqb, ltb}
use lib.ListN.{length, get_or, set, length-set}
use lib.Seq.{get_or-set_same, get_or-set_other}
use lib.Bits.{bit_or, or_lt, or_add_and, and_le_r}
use Rattle.base.proofs.Walks.{length-pass, pass_at, small-pass, small-set}
use Rattle.base.proofs.Tests.{T_true, and_true}
use Rattle.chart.specs.declared.places.NewPlace.{NewPlace}
use Rattle.chart.specs.Places.{kept_number, old_of}
use Rattle.records.specs.Records.{index}
use Rattle.sets.specs.Sets.{joined, holds_all}
use Rattle.graph.specs.Buffers.{Buffers, buffers, marked, gone, cleared, untargeted, keep, aim, due, waits, join, unwait}
use Rattle.graph.specs.inner.Sized.{Sized}

-- ---- a mark is there or not
abbrev pub mark_at : Buffers → ℕ → ℕ
mark_at g n = get_or g.marks n 0

abbrev pub set_at : Buffers → ℕ → ℕ
set_at g n = get_or g.sets n 0

abbrev pub wait_at : Buffers → ℕ → ℕ
wait_at g n = get_or g.waiting n 0

abbrev pub target_at : Buffers → ℕ → ℕ → ℕ
target_at g n r = get_or g.targets (index n r) 0

module _ (m : List ℕ) (n : ℕ) where
  pub marked_yes : 0 < get_or m n 0 → marked m n ≡ true
  unfolding marked
  marked_yes l = rw (ne_eqb (get_or m n 0) 0 (λ e. omega arith))

  pub marked_no : get_or m n 0 ≡ 0 → marked m n ≡ false
  unfolding marked
  marked_no e = rw (eq-eqb (get_or m n 0) 0 e)

  pub is-marked : marked m n ≡ true → 0 < get_or m n 0
  unfolding marked
  is-marked e = let h = eqb-false (get_or m n 0) 0 (not-true _ e) in omega arith

  pub not_marked : marked m n ≡ false → get_or m n 0 ≡ 0
  unfolding marked
  not_marked e = eqb-true (get_or m n 0) 0 (not-false _ e)

-- ---- the pairs with a new place that is kept
module _ (q : NewPlace) (v i x : ℕ) where
  pub gone-here : i < 4096 → i % 64 ≡ q.0 → gone q v i x ≡ v
  unfolding gone
  gone-here a b = rw (lt-ltb i 4096 a, eq-eqb (i % 64) q.0 b, gone)

  pub gone_other : (i % 64 ≡ q.0 → ⊥) → gone q v i x ≡ x
  unfolding gone
  gone_other a = rw (ne_eqb (i % 64) q.0 a, gone) (go (ltb i 4096))
    where
      go : (b : Bool) → (elim (b && false) as (λ _. ℕ) [ true ↦ v | false ↦ x ]) ≡ x
      go true = refl
      go false = refl

  pub gone_past : 4096 ≤ i → gone q v i x ≡ x
  unfolding gone
  gone_past a = rw (le-ltb i 4096 a, gone)

pub length-cleared : (q : NewPlace) (l : List ℕ) → length (cleared q l) ≡ length l
unfolding cleared
length-cleared q l = length-pass (gone q 0) 0 l

pub length-untargeted : (q : NewPlace) (l : List ℕ) → length (untargeted q l) ≡ length l
unfolding untargeted
length-untargeted q l = length-pass (λ j x. gone q 65535 (j / 2) x) 0 l

module _ (q : NewPlace) (l : List ℕ) (i : ℕ) (b : i < length l) where
  pub cleared-here : i < 4096 → i % 64 ≡ q.0 → get_or (cleared q l) i 0 ≡ 0
  unfolding cleared
  cleared-here a e = pass_at (gone q 0) l i b ∙ gone-here q 0 i (get_or l i 0) a e

  pub cleared_other : (i % 64 ≡ q.0 → ⊥) → get_or (cleared q l) i 0 ≡ get_or l i 0
  unfolding cleared
  cleared_other e = pass_at (gone q 0) l i b ∙ gone_other q 0 i (get_or l i 0) e

  pub cleared_past : 4096 ≤ i → get_or (cleared q l) i 0 ≡ get_or l i 0
  unfolding cleared
  cleared_past e = pass_at (gone q 0) l i b ∙ gone_past q 0 i (get_or l i 0) e

  pub untargeted-here : i / 2 < 4096 → i / 2 % 64 ≡ q.0 → get_or (untargeted q l) i 0 ≡ 65535
  unfolding untargeted
  untargeted-here a e = pass_at (λ j x. gone q 65535 (j / 2) x) l i b ∙ gone-here q 65535 (i / 2) (get_or l i 0) a e

  pub untargeted_other : (i / 2 % 64 ≡ q.0 → ⊥) → get_or (untargeted q l) i 0 ≡ get_or l i 0
  unfolding untargeted
  untargeted_other e = pass_at (λ j x. gone q 65535 (j / 2) x) l i b ∙ gone_other q 65535 (i / 2) (get_or l i 0) e

pub small-cleared : (k : ℕ) (q : NewPlace) (l : List ℕ) → 0 < k → ((i : ℕ) → get_or l i 0 < k) → (i : ℕ) → get_or (cleared q l) i 0 < k
unfolding cleared gone
small-cleared k q l b h = small-pass k (gone q 0) b (λ i x m. go (ltb i 4096 && eqb (i % 64) q.0) x m) 0 l h
  where
    go : (t : Bool) (x : ℕ) → x < k → (elim t as (λ _. ℕ) [ true ↦ 0 | false ↦ x ]) < k
    go true x m = b
    go false x m = m

-- ---- the stated lengths, as the types of the buffers tell them
pub sized-of : {m t s w : List ℕ} → length m ≡ 4160 → length t ≡ 8192 → length s ≡ 4096 → length w ≡ 4096 → Sized (buffers m t s w)
sized-of a b c d = record { marks = a; targets = b; sets = c; waiting = d }

-- the same, and sets of 64 variables
pub record Shaped (g : Buffers) : Type 0 where
  pub sized : Sized g
  pub small : (i : ℕ) → set_at g i < 2 ^ 64

-- ---- a new place becomes kept
module _ (g : Buffers) (q : NewPlace) (S : Sized g) (l : q.0 < 64) where
  pub keep-node : mark_at (keep g q) (kept_number q) ≡ 1
  unfolding keep
  keep-node = get_or-set_same (cleared q g.marks) (kept_number q) 1 0 (simp length-cleared (omega (arith, S.marks)))

  pub keep-nodes : (k : ℕ) → 4096 ≤ k → k < 4160 → (k ≡ kept_number q → ⊥) → mark_at (keep g q) k ≡ mark_at g k
  unfolding keep
  keep-nodes k a b n =
      get_or-set_other (cleared q g.marks) (kept_number q) k 1 0 n ∙ cleared_past q g.marks k (omega (arith, S.marks)) a

  -- a place that is kept stays so
  pub keep-kept : (k : ℕ) → 4096 ≤ k → k < 4160 → 0 < mark_at g k → 0 < mark_at (keep g q) k
  keep-kept k a b p = dite (ℕ_discrete k (kept_number q)) (λ e. rw e (omega (arith, keep-node))) (λ e. omega (arith, keep-nodes k a b e))

  module _ (i : ℕ) (b : i < 4096) where
    -- at a pair with this new place nothing is left
    module _ (e : i % 64 ≡ q.0) where
      pub keep-mark : mark_at (keep g q) i ≡ 0
      unfolding keep
      keep-mark = get_or-set_other (cleared q g.marks) (kept_number q) i 1 0 (λ h. omega arith) ∙ cleared-here q g.marks i (omega (arith, S.marks)) b e

      pub keep-set : set_at (keep g q) i ≡ 0
      unfolding keep
      keep-set = cleared-here q g.sets i (omega (arith, S.sets)) b e

      pub keep_wait : wait_at (keep g q) i ≡ 0
      unfolding keep
      keep_wait = cleared-here q g.waiting i (omega (arith, S.waiting)) b e

      pub keep-target : (r : ℕ) → r < 2 → target_at (keep g q) i r ≡ 65535
      unfolding keep
      keep-target r k =
          let h : index i r / 2 ≡ i = omega arith in
          untargeted-here q g.targets (index i r) (omega (arith, S.targets)) (omega arith) (rw h e)

    -- at another pair all stays
    module _ (e : i % 64 ≡ q.0 → ⊥) where
      pub keep-mark_other : mark_at (keep g q) i ≡ mark_at g i
      unfolding keep
      keep-mark_other = get_or-set_other (cleared q g.marks) (kept_number q) i 1 0 (λ h. omega arith) ∙ cleared_other q g.marks i (omega (arith, S.marks)) e

      pub keep-set_other : set_at (keep g q) i ≡ set_at g i
      unfolding keep
      keep-set_other = cleared_other q g.sets i (omega (arith, S.sets)) e

      pub keep_wait_other : wait_at (keep g q) i ≡ wait_at g i
      unfolding keep
      keep_wait_other = cleared_other q g.waiting i (omega (arith, S.waiting)) e

      pub keep-target_other : (r : ℕ) → r < 2 → target_at (keep g q) i r ≡ target_at g i r
      unfolding keep
      keep-target_other r k =
          let h : index i r / 2 ≡ i = omega arith in
          untargeted_other q g.targets (index i r) (omega (arith, S.targets)) (rw h e)

pub keep-shaped : (g : Buffers) (q : NewPlace) → Shaped g → Shaped (keep g q)
unfolding keep
keep-shaped g q h =
    record {
      sized =
          record {
            marks = simp (length-set, length-cleared) h.sized.marks;
            targets = simp length-untargeted h.sized.targets;
            sets = simp length-cleared h.sized.sets;
            waiting = simp length-cleared h.sized.waiting;
          };
      small = small-cleared (2 ^ 64) q g.sets (omega arith) h.small;
    }

-- ---- a target is stored
abbrev pub aimed : Buffers → ℕ → ℕ → ℕ → Buffers
aimed g n r to = buffers g.marks (set g.targets (index n r) to) g.sets g.waiting

module _ (g : Buffers) (n r to : ℕ) where
  pub aim-there : 0 < mark_at g n → aim g n r to ≡ aimed g n r to
  unfolding aim
  aim-there l = rw (marked_yes g.marks n l, aim)

  pub aim-gone : mark_at g n ≡ 0 → aim g n r to ≡ g
  unfolding aim
  aim-gone e = rw (marked_no g.marks n e, aim)

  -- it is stored, or nothing is
  pub by_aim : (P : Buffers → Type 0) → (0 < mark_at g n → P (aimed g n r to)) → (mark_at g n ≡ 0 → P g) → P (aim g n r to)
  by_aim P f h = go (ℕ_discrete (mark_at g n) 0)
    where
      go : Dec (mark_at g n ≡ 0) → P (aim g n r to)
      go (yes e) = rw (aim-gone e) (h e)
      go (no e) = rw (aim-there (omega arith)) (f (omega arith))

  pub aimed_shaped : Shaped g → Shaped (aimed g n r to)
  aimed_shaped h =
      record {
        sized = record { marks = h.sized.marks; targets = simp length-set h.sized.targets; sets = h.sized.sets; waiting = h.sized.waiting };
        small = h.small;
      }

-- ---- a pair joins
pub length-waits : (b : Bool) (w : List ℕ) (n : ℕ) → length (waits b w n) ≡ length w
unfolding waits
length-waits true w n = length-set w n 1
length-waits false w n = refl

pub waits_other : (b : Bool) (w : List ℕ) (n i : ℕ) → (i ≡ n → ⊥) → get_or (waits b w n) i 0 ≡ get_or w i 0
unfolding waits
waits_other true w n i e = get_or-set_other w n i 1 0 e
waits_other false w n i e = refl

pub waits_yes : (w : List ℕ) (n : ℕ) → n < length w → get_or (waits true w n) n 0 ≡ 1
unfolding waits
waits_yes w n l = get_or-set_same w n 1 0 l

pub waits_no : (w : List ℕ) (n : ℕ) → get_or (waits false w n) n 0 ≡ get_or w n 0
unfolding waits
waits_no w n = refl

module _ (alarm : ℕ) (g : Buffers) (n v : ℕ) (S : Sized g) (l : n < 4096) where
  pub join-mark : mark_at (join alarm g n v) n ≡ 1
  unfolding join
  join-mark = get_or-set_same g.marks n 1 0 (omega (arith, S.marks))

  pub join-set : set_at (join alarm g n v) n ≡ joined (set_at g n) v
  unfolding join
  join-set = get_or-set_same g.sets n (joined (set_at g n) v) 0 (omega (arith, S.sets))

  pub join-due : due alarm g.marks g.sets n v ≡ true → wait_at (join alarm g n v) n ≡ 1
  unfolding join
  join-due e = rw e (waits_yes g.waiting n (omega (arith, S.waiting)))

  pub join_not_due : due alarm g.marks g.sets n v ≡ false → wait_at (join alarm g n v) n ≡ wait_at g n
  unfolding join
  join_not_due e = rw e (waits_no g.waiting n)

  module _ (i : ℕ) (e : i ≡ n → ⊥) where
    pub join-mark_other : mark_at (join alarm g n v) i ≡ mark_at g i
    unfolding join
    join-mark_other = get_or-set_other g.marks n i 1 0 e

    pub join-set_other : set_at (join alarm g n v) i ≡ set_at g i
    unfolding join
    join-set_other = get_or-set_other g.sets n i (joined (set_at g n) v) 0 e

    pub join_wait_other : wait_at (join alarm g n v) i ≡ wait_at g i
    unfolding join
    join_wait_other = waits_other (due alarm g.marks g.sets n v) g.waiting n i e

  -- whoever is in the graph stays there
  pub join-there : (i : ℕ) → 0 < mark_at g i → 0 < mark_at (join alarm g n v) i
  join-there i p = dite (ℕ_discrete i n) (λ e. rw e (omega (arith, join-mark))) (λ e. omega (arith, join-mark_other i e))

pub join-target : (alarm : ℕ) (g : Buffers) (n v : ℕ) → (join alarm g n v).targets ≡ g.targets
unfolding join
join-target alarm g n v = refl

pub join-shaped : (alarm : ℕ) (g : Buffers) (n v : ℕ) → v < 2 ^ 64 → Shaped g → Shaped (join alarm g n v)
unfolding join joined
join-shaped alarm g n v b h =
    record {
      sized =
          record {
            marks = simp length-set h.sized.marks;
            targets = h.sized.targets;
            sets = simp length-set h.sized.sets;
            waiting = simp length-waits h.sized.waiting;
          };
      small = small-set (2 ^ 64) g.sets n (bit_or (set_at g n) v) (or_lt 64 (set_at g n) v (h.small n) b) h.small;
    }

-- ---- a pair waits no more
pub unwait-shaped : (g : Buffers) (n : ℕ) → Shaped g → Shaped (unwait g n)
unfolding unwait
unwait-shaped g n h =
    record {
      sized = record { marks = h.sized.marks; targets = h.sized.targets; sets = h.sized.sets; waiting = simp length-set h.sized.waiting };
      small = h.small;
    }

-- ---- a set that gains another
pub join_more : (s v : ℕ) → s ≤ joined s v
unfolding joined
join_more s v = omega (arith, or_add_and s v, and_le_r s v)

module _ (s v : ℕ) where
  pub held : holds_all s v ≡ true → joined s v ≡ s
  unfolding holds_all joined
  held e = eqb-true (bit_or s v) s e

  pub grown : holds_all s v ≡ false → joined s v ≡ s → ⊥
  unfolding holds_all joined
  grown e = eqb-false (bit_or s v) s e

-- ---- line 28
module _ (alarm : ℕ) (g : Buffers) (n v : ℕ) where
  pub due_why : due alarm g.marks g.sets n v ≡ true → (marked g.marks n ≡ false) ⊎ (holds_all (set_at g n) v ≡ false)
  unfolding due
  due_why e = go (marked g.marks n) (holds_all (set_at g n) v) (and_true (not (eqb (old_of n).0 alarm)) _ e).1
    where
      go : (p h : Bool) → not p || not h ≡ true → (p ≡ false) ⊎ (h ≡ false)
      go true true e = absurd (T_true e)
      go true false e = inr refl
      go false h e = inl refl

  -- a pair away from the old alarm that is not due was there, with a set that holds the step's
  pub not_due_why : due alarm g.marks g.sets n v ≡ false → ((old_of n).0 ≡ alarm → ⊥) → (0 < mark_at g n) × (holds_all (set_at g n) v ≡ true)
  unfolding due
  not_due_why e a =
      let z = go (marked g.marks n) (holds_all (set_at g n) v) (rw (ne_eqb (old_of n).0 alarm a) at e) in (is-marked g.marks n z.0, z.1)
    where
      go : (p h : Bool) → not p || not h ≡ false → (p ≡ true) × (h ≡ true)
      go true true e = (refl, refl)
      go true false e = absurd (T_true (sym e))
      go false h e = absurd (T_true (sym e))

pub marked-same : (m m' : List ℕ) (n : ℕ) → get_or m n 0 ≡ get_or m' n 0 → marked m n ≡ marked m' n
unfolding marked
marked-same m m' n e = ap (λ (x : ℕ). not (eqb x 0)) e
