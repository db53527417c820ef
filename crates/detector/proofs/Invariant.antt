-- What holds between the turns of a build: every pair of the graph that does not wait has, for each row that can be
-- taken, a target that the step under its present set gives, whose set holds the step's, or one that leads to a kept
-- place; the target of any other row is 65535. Assumes nothing.
use mathlib.Core.Path.{◌≡◌, refl, sym, ap, subst, ◌∙◌}
use mathlib.Core.Bool.{Bool, true, false}
use mathlib.Core.Logic.{◌⊎◌, inl, inr, ⊎_elim}
use mathlib.Core.List.{List}
use Rattle.std.specs.Prelude.{Some}
use Prim.Native.Nat.{ℕ, suc, ◌/◌, ◌%◌, ◌^◌, ◌≤◌, ◌<◌}
use native.Mathlib.Omega.{arith}
use native.Mathlib.Decide.{ℕ_discrete}
use lib.ListN.{get_or, set}
use lib.Seq.{get_or-set_same, get_or-set_other}
use Rattle.base.proofs.Ones.{one-there, one_other, one_only}
use Rattle.base.proofs.Repeat.{repeated-keeps}
use Rattle.base.proofs.Tests.{T_true}
use Rattle.base.proofs.Walks.{zeros_at, same_at}
use Rattle.chart.specs.declared.places.NewPlace.{NewPlace}
use Rattle.chart.specs.Charts.{can_be_taken}
use Rattle.chart.specs.Compared.{Compared, heads_of}
use Rattle.chart.specs.Faultless.{FaultlessChart}
use Rattle.chart.specs.Places.{pair_number, kept_number, old_of, new_of}
use Rattle.align.specs.declared.spots.Spot.{Spot}
use Rattle.sets.specs.Sets.{joined, holds_all}
use Rattle.sets.proofs.Sets.{holds_in, holds_all_lem, joined-left, joined-right, join-small}
use Rattle.records.specs.Records.{index}
use Rattle.graph.specs.Buffers.{Buffers, keep, aim, due, join, unwait}
use Rattle.graph.specs.inner.Sized.{Sized}
use Rattle.chart.proofs.Starts.{first_pair, first_kept}
use Rattle.detector.specs.Turns.{rows_of, leads_to, next, set_now, begun, step_of, row_done, second_done, taken, explored}
use Rattle.align.proofs.Steps.{Fits}
use Rattle.graph.proofs.Graphs.{mark_at, set_at, wait_at, target_at, Shaped, keep-node, keep-nodes, keep-kept, keep-mark, keep-set, keep_wait, keep-target, keep-mark_other, keep-set_other, keep_wait_other, keep-target_other, keep-shaped, aimed, by_aim, aimed_shaped, join-mark, join-set, join-due, join_not_due, join-mark_other, join-set_other, join_wait_other, join-there, join-target, join-shaped, held, not_due_why, unwait-shaped}
use Rattle.detector.proofs.Turns.{by_row, set_now_lem, set_now_small, leads-below, step_of_fits, next-waits}
use Rattle.detector.proofs.Measure.{begun-shaped}

-- ---- a set that has gained another holds what it held, and the other
module _ (s v : ℕ) (a : s < 2 ^ 64) (b : v < 2 ^ 64) where
  pub still_holds : (x : ℕ) → x < 2 ^ 64 → holds_all s x ≡ true → holds_all (joined s v) x ≡ true
  still_holds x c h = holds_all_lem (joined s v) x (join-small s v a b) c (λ i l p. joined-left i s v (holds_in s x i h p))

  pub holds_gained : holds_all (joined s v) v ≡ true
  holds_gained = holds_all_lem (joined s v) v (join-small s v a b) b (λ i l p. joined-right i s v p)

-- the target t is the kept node of a place, or a pair with it
abbrev pub Onto : ℕ → NewPlace → Type 0
Onto t q = (t ≡ kept_number q) ⊎ ((t < 4096) × (t % 64 ≡ q.0))

module _ (X : Compared) where
  -- t as the target of row r of pair n, among nodes with the marks m and the sets s: its place is kept;
  pub record ToKept (m : List ℕ) (n r t : ℕ) : Type 0 where
    pub kept : 0 < get_or m (kept_number (leads_to X.new n r)) 0
    pub leads : Onto t (leads_to X.new n r)

  -- or it is a pair of the graph;
  pub record ToPair (m : List ℕ) (n r t : ℕ) : Type 0 where
    pub below : t < 4096
    pub place : t % 64 ≡ (leads_to X.new n r).0
    pub there : 0 < get_or m t 0

  -- or the pair that the step under the present set gives, whose set holds the step's
  pub record ToStep (m s : List ℕ) (n r t : ℕ) : Type 0 where
    pub spot : Spot
    pub step : step_of X n (get_or s n 0) r ≡ Some spot
    pub is : t ≡ pair_number spot.place (leads_to X.new n r)
    pub pair : ToPair m n r t
    pub small : spot.set < 2 ^ 64
    pub holds : holds_all (get_or s t 0) spot.set ≡ true

  abbrev pub Led : List ℕ → ℕ → ℕ → ℕ → Type 0
  Led m n r t = (t ≡ 65535) ⊎ (ToKept m n r t ⊎ ToPair m n r t)

  abbrev pub Stepped : List ℕ → List ℕ → ℕ → ℕ → ℕ → Type 0
  Stepped m s n r t = ToKept m n r t ⊎ ToStep m s n r t

  -- D tells of which rows of which pairs the step is claimed
  pub record Inv (D : ℕ → ℕ → Type 0) (g : Buffers) : Type 0 where
    pub shaped : Shaped g
    pub real : (i : ℕ) → i < 4096 → 0 < mark_at g i → (i / 64 < X.old.head.places) × (i % 64 < X.new.head.places)
    pub real_kept : (k : ℕ) → 4096 ≤ k → k < 4160 → 0 < mark_at g k → k % 64 < X.new.head.places
    -- a kept place has no pair in the graph
    pub apart : (i : ℕ) → i < 4096 → 0 < mark_at g i → mark_at g (kept_number (new_of i)) ≡ 0
    pub waiters : (i : ℕ) → i < 4096 → 0 < wait_at g i → 0 < mark_at g i
    pub aims : (i r : ℕ) → i < 4096 → r < 2 → (target_at g i r < 4160) ⊎ (target_at g i r ≡ 65535)
    pub unused : (i r : ℕ) → i < 4096 → r < 2 → (mark_at g i ≡ 0) ⊎ (can_be_taken (rows_of X.new i) r ≡ false) → target_at g i r ≡ 65535
    pub bare : (i : ℕ) → i < 4096 → mark_at g i ≡ 0 → set_at g i ≡ 0
    pub led : (i r : ℕ) → i < 4096 → 0 < mark_at g i → r < 2 → can_be_taken (rows_of X.new i) r ≡ true → Led g.marks i r (target_at g i r)
    pub stepped : (i r : ℕ) → i < 4096 → 0 < mark_at g i → wait_at g i ≡ 0 → ((old_of i).0 ≡ X.old.head.alarm → ⊥) → r < 2 → can_be_taken (rows_of X.new i) r ≡ true → D i r
        → Stepped g.marks g.sets i r (target_at g i r)
    pub home : (0 < mark_at g (first_pair X)) ⊎ (0 < mark_at g (first_kept X))

-- of the pair in hand, the rows before row r
abbrev pub Hand : ℕ → ℕ → ℕ → ℕ → Type 0
Hand n r i k = i ≡ n → k < r

abbrev pub Every : ℕ → ℕ → Type 0
Every i k = Unit {0}

module _ (X : Compared) (F : FaultlessChart X.old) (G : FaultlessChart X.new) where
  leads_64 : (i r : ℕ) → can_be_taken (rows_of X.new i) r ≡ true → (leads_to X.new i r).0 < 64
  leads_64 i r a = omega (arith, leads-below X F G i 0 r a, G.few_places)

  -- ---- a new place becomes kept
  module _ (g : Buffers) (q : NewPlace) (S : Shaped g) (l : q.0 < 64) where
    keep-to-kept : (i r t : ℕ) → (leads_to X.new i r).0 < 64 → ToKept X g.marks i r t → ToKept X (keep g q).marks i r t
    keep-to-kept i r t b K = record { kept = keep-kept g q S.sized l (kept_number (leads_to X.new i r)) (omega arith) (omega arith) K.kept; leads = K.leads }

    keep-to-pair : (i r t : ℕ) → ToPair X g.marks i r t → ToKept X (keep g q).marks i r t ⊎ ToPair X (keep g q).marks i r t
    keep-to-pair i r t T = go (ℕ_discrete (leads_to X.new i r).0 q.0)
      where
        go : Dec ((leads_to X.new i r).0 ≡ q.0) → ToKept X (keep g q).marks i r t ⊎ ToPair X (keep g q).marks i r t
        go (yes e) = inl (record { kept = rw e (omega (arith, keep-node g q S.sized l)); leads = inr (T.below, T.place) })
        go (no e) =
            inr (record { below = T.below; place = T.place; there = omega (arith, T.there, keep-mark_other g q S.sized l t T.below (λ h. e (sym T.place ∙ h))) })

    keep-to-step : (i r t : ℕ) → i < 4096 → (i % 64 ≡ q.0 → ⊥) → ToStep X g.marks g.sets i r t → Stepped X (keep g q).marks (keep g q).sets i r t
    keep-to-step i r t b n T = go (ℕ_discrete (leads_to X.new i r).0 q.0) (keep-to-pair i r t T.pair)
      where
        go : Dec ((leads_to X.new i r).0 ≡ q.0) → ToKept X (keep g q).marks i r t ⊎ ToPair X (keep g q).marks i r t → Stepped X (keep g q).marks (keep g q).sets i r t
        go d (inl K) = inl K
        go (yes e) (inr P) = absurd (omega (arith, P.there, keep-mark g q S.sized l t T.pair.below (T.pair.place ∙ e)))
        go (no e) (inr P) =
            inr
            (record {
              spot = T.spot;
              step = rw (keep-set_other g q S.sized l i b n) T.step;
              is = T.is;
              pair = P;
              small = T.small;
              holds = rw (keep-set_other g q S.sized l t T.pair.below (λ h. e (sym T.pair.place ∙ h))) T.holds;
            })

    -- a pair that is still there had another place, and all that is its own stays
    keep-there : (i : ℕ) → i < 4096 → 0 < mark_at (keep g q) i → (i % 64 ≡ q.0 → ⊥) × (0 < mark_at g i)
    keep-there i b p =
        let n : i % 64 ≡ q.0 → ⊥ = λ e. omega (arith, keep-mark g q S.sized l i b e) in
        (n, omega (arith, keep-mark_other g q S.sized l i b n))

  keep_inv : (D : ℕ → ℕ → Type 0) (g : Buffers) (q : NewPlace) → q.0 < X.new.head.places → Inv X D g → Inv X D (keep g q)
  keep_inv D g q w I =
      record {
        shaped = keep-shaped g q I.shaped;
        real = λ i b p. I.real i b (there i b p).1;
        real_kept = λ k a b p. kept_real k a b p (ℕ_discrete k (kept_number q));
        apart = λ i b p. still_apart i b p;
        waiters = λ i b p. still_waits i b p (ℕ_discrete (i % 64) q.0);
        aims = λ i r b c. still_aims i r b c (ℕ_discrete (i % 64) q.0);
        unused = λ i r b c u. still_unused i r b c u (ℕ_discrete (i % 64) q.0);
        bare = λ i b e. still_bare i b e (ℕ_discrete (i % 64) q.0);
        led = λ i r b p c a.
            (let n = there i b p in
            rw (keep-target_other g q S l i b n.0 r c) (still_led i r (target_at g i r) a (I.led i r b n.1 c a)));
        stepped = λ i r b p v a c s d.
            (let n = there i b p in
            rw (keep-target_other g q S l i b n.0 r c)
            (⊎_elim (λ K. inl (keep-to-kept g q I.shaped l i r (target_at g i r) (leads_64 i r s) K)) (λ T. keep-to-step g q I.shaped l i r (target_at g i r) b n.0 T)
            (I.stepped i r b n.1 (sym (keep_wait_other g q S l i b n.0) ∙ v) a c s d)));
        home = ⊎_elim (λ p. at_home p (ℕ_discrete (first_pair X % 64) q.0)) (λ p. inr (keep-kept g q S l (first_kept X) (omega arith) (omega arith) p)) I.home;
      }
    where
      S : Sized g
      S = I.shaped.sized

      l : q.0 < 64
      l = omega (arith, G.few_places)

      there : (i : ℕ) → i < 4096 → 0 < mark_at (keep g q) i → (i % 64 ≡ q.0 → ⊥) × (0 < mark_at g i)
      there i b p = keep-there g q I.shaped l i b p

      kept_real : (k : ℕ) → 4096 ≤ k → k < 4160 → 0 < mark_at (keep g q) k → Dec (k ≡ kept_number q) → k % 64 < X.new.head.places
      kept_real k a b p (yes e) = omega arith
      kept_real k a b p (no e) = I.real_kept k a b (omega (arith, keep-nodes g q S l k a b e))

      still_apart : (i : ℕ) → i < 4096 → 0 < mark_at (keep g q) i → mark_at (keep g q) (kept_number (new_of i)) ≡ 0
      still_apart i b p =
          let n = there i b p in
          keep-nodes g q S l (kept_number (new_of i)) (omega arith) (omega arith) (λ h. n.0 (omega arith)) ∙ I.apart i b n.1

      still_waits : (i : ℕ) → i < 4096 → 0 < wait_at (keep g q) i → Dec (i % 64 ≡ q.0) → 0 < mark_at (keep g q) i
      still_waits i b p (yes e) = absurd (omega (arith, keep_wait g q S l i b e))
      still_waits i b p (no e) = omega (arith, keep-mark_other g q S l i b e, I.waiters i b (omega (arith, keep_wait_other g q S l i b e)))

      still_aims : (i r : ℕ) → i < 4096 → r < 2 → Dec (i % 64 ≡ q.0) → (target_at (keep g q) i r < 4160) ⊎ (target_at (keep g q) i r ≡ 65535)
      still_aims i r b c (yes e) = inr (keep-target g q S l i b e r c)
      still_aims i r b c (no e) = rw (keep-target_other g q S l i b e r c) (I.aims i r b c)

      still_unused : (i r : ℕ) → i < 4096 → r < 2 → (mark_at (keep g q) i ≡ 0) ⊎ (can_be_taken (rows_of X.new i) r ≡ false) → Dec (i % 64 ≡ q.0) → target_at (keep g q) i r ≡ 65535
      still_unused i r b c u (yes e) = keep-target g q S l i b e r c
      still_unused i r b c u (no e) =
          keep-target_other g q S l i b e r c ∙ I.unused i r b c (⊎_elim (λ z. inl (sym (keep-mark_other g q S l i b e) ∙ z)) (λ z. inr z) u)

      still_bare : (i : ℕ) → i < 4096 → mark_at (keep g q) i ≡ 0 → Dec (i % 64 ≡ q.0) → set_at (keep g q) i ≡ 0
      still_bare i b z (yes e) = keep-set g q S l i b e
      still_bare i b z (no e) = keep-set_other g q S l i b e ∙ I.bare i b (sym (keep-mark_other g q S l i b e) ∙ z)

      still_led : (i r t : ℕ) → can_be_taken (rows_of X.new i) r ≡ true → Led X g.marks i r t → Led X (keep g q).marks i r t
      still_led i r t a (inl e) = inl e
      still_led i r t a (inr (inl K)) = inr (inl (keep-to-kept g q I.shaped l i r t (leads_64 i r a) K))
      still_led i r t a (inr (inr P)) = inr (keep-to-pair g q I.shaped l i r t P)

      at_home : 0 < mark_at g (first_pair X) → Dec (first_pair X % 64 ≡ q.0) → (0 < mark_at (keep g q) (first_pair X)) ⊎ (0 < mark_at (keep g q) (first_kept X))
      at_home p (yes e) = inr (let z : first_kept X ≡ kept_number q = omega arith in rw z (omega (arith, keep-node g q S l)))
      at_home p (no e) = inl (omega (arith, keep-mark_other g q S l (first_pair X) (omega arith) e))

  -- ---- a pair joins, of places that exist and a new place that is not kept
  module _ (g : Buffers) (m v : ℕ) (S : Shaped g) (l : m < 4096) (w : v < 2 ^ 64) where
    join-to-kept : (i r t : ℕ) → ToKept X g.marks i r t → ToKept X (join X.old.head.alarm g m v).marks i r t
    join-to-kept i r t K = record { kept = join-there X.old.head.alarm g m v S.sized l (kept_number (leads_to X.new i r)) K.kept; leads = K.leads }

    join-to-pair : (i r t : ℕ) → ToPair X g.marks i r t → ToPair X (join X.old.head.alarm g m v).marks i r t
    join-to-pair i r t P = record { below = P.below; place = P.place; there = join-there X.old.head.alarm g m v S.sized l t P.there }

    join-holds : (t x : ℕ) → x < 2 ^ 64 → holds_all (set_at g t) x ≡ true → holds_all (set_at (join X.old.head.alarm g m v) t) x ≡ true
    join-holds t x b h = go (ℕ_discrete t m)
      where
        go : Dec (t ≡ m) → holds_all (set_at (join X.old.head.alarm g m v) t) x ≡ true
        go (yes e) = rw (e, join-set X.old.head.alarm g m v S.sized l) (still_holds (set_at g m) v (S.small m) w x b (rw e at h))
        go (no e) = rw (join-set_other X.old.head.alarm g m v S.sized l t e) h

    -- a pair whose set is as it was
    join_stepped : (i r t : ℕ) → set_at (join X.old.head.alarm g m v) i ≡ set_at g i → Stepped X g.marks g.sets i r t → Stepped X (join X.old.head.alarm g m v).marks (join X.old.head.alarm g m v).sets i r t
    join_stepped i r t e (inl K) = inl (join-to-kept i r t K)
    join_stepped i r t e (inr T) =
        inr (record { spot = T.spot; step = rw e T.step; is = T.is; pair = join-to-pair i r t T.pair; small = T.small; holds = join-holds t T.spot.set T.small T.holds })

    -- the pair that joined does not wait, away from the old alarm: it was there, and its set is as it was
    join-rests : wait_at (join X.old.head.alarm g m v) m ≡ 0 → ((old_of m).0 ≡ X.old.head.alarm → ⊥) → (0 < mark_at g m) × (wait_at g m ≡ 0) × (set_at (join X.old.head.alarm g m v) m ≡ set_at g m)
    join-rests z a = go (due X.old.head.alarm g.marks g.sets m v) refl
      where
        go : (b : Bool) → due X.old.head.alarm g.marks g.sets m v ≡ b → (0 < mark_at g m) × (wait_at g m ≡ 0) × (set_at (join X.old.head.alarm g m v) m ≡ set_at g m)
        go true e = absurd (omega (arith, join-due X.old.head.alarm g m v S.sized l e))
        go false e =
            let h = not_due_why X.old.head.alarm g m v e a in
            (h.0, sym (join_not_due X.old.head.alarm g m v S.sized l e) ∙ z, join-set X.old.head.alarm g m v S.sized l ∙ held (set_at g m) v h.1)

  join_inv : (D : ℕ → ℕ → Type 0) (g : Buffers) (m v : ℕ) → m < 4096 → m / 64 < X.old.head.places → m % 64 < X.new.head.places → mark_at g (kept_number (new_of m)) ≡ 0 → v < 2 ^ 64
      → Inv X D g → Inv X D (join X.old.head.alarm g m v)
  join_inv D g m v l ro rn free w I =
      record {
        shaped = join-shaped X.old.head.alarm g m v w I.shaped;
        real = λ i b p. by_pair i (λ e. rw e (ro, rn)) (λ e. I.real i b (was i e p));
        real_kept = λ k a b p. I.real_kept k a b (was k (λ e. omega arith) p);
        apart = λ i b p. join-mark_other X.old.head.alarm g m v S l (kept_number (new_of i)) (λ e. omega arith) ∙ by_pair i (λ e. rw e free) (λ e. I.apart i b (was i e p));
        waiters = λ i b p. by_pair i (λ e. rw e (omega (arith, join-mark X.old.head.alarm g m v S l)))
            (λ e. join-there X.old.head.alarm g m v S l i (I.waiters i b (omega (arith, join_wait_other X.old.head.alarm g m v S l i e))));
        aims = λ i r b c. rw (join-target X.old.head.alarm g m v) (I.aims i r b c);
        unused = λ i r b c u. rw (join-target X.old.head.alarm g m v) (I.unused i r b c (⊎_elim (λ z. inl (was_not i z)) (λ z. inr z) u));
        bare = λ i b z. by_pair i (λ e. absurd (omega (arith, rw e at z, join-mark X.old.head.alarm g m v S l))) (λ e. join-set_other X.old.head.alarm g m v S l i e ∙ I.bare i b (was_not i z));
        led = λ i r b p c a. rw (join-target X.old.head.alarm g m v) (now_led i r b p c a (ℕ_discrete (mark_at g i) 0));
        stepped = λ i r b p z a c s d. rw (join-target X.old.head.alarm g m v) (now_stepped i r b p z a c s d (ℕ_discrete i m));
        home = ⊎_elim (λ p. inl (join-there X.old.head.alarm g m v S l (first_pair X) p)) (λ p. inr (join-there X.old.head.alarm g m v S l (first_kept X) p)) I.home;
      }
    where
      S : Sized g
      S = I.shaped.sized

      by_pair : {A : Type 0} (i : ℕ) → (i ≡ m → A) → ((i ≡ m → ⊥) → A) → A
      by_pair {A = A} i f h = go (ℕ_discrete i m)
        where
          go : Dec (i ≡ m) → A
          go (yes e) = f e
          go (no e) = h e

      was : (i : ℕ) → (i ≡ m → ⊥) → 0 < mark_at (join X.old.head.alarm g m v) i → 0 < mark_at g i
      was i e p = omega (arith, join-mark_other X.old.head.alarm g m v S l i e)

      was_not : (i : ℕ) → mark_at (join X.old.head.alarm g m v) i ≡ 0 → mark_at g i ≡ 0
      was_not i z = by_pair i (λ e. absurd (omega (arith, rw e at z, join-mark X.old.head.alarm g m v S l))) (λ e. sym (join-mark_other X.old.head.alarm g m v S l i e) ∙ z)

      now_led : (i r : ℕ) → i < 4096 → 0 < mark_at (join X.old.head.alarm g m v) i → r < 2 → can_be_taken (rows_of X.new i) r ≡ true → Dec (mark_at g i ≡ 0) → Led X (join X.old.head.alarm g m v).marks i r (target_at g i r)
      now_led i r b p c a (yes z) = inl (I.unused i r b c (inl z))
      now_led i r b p c a (no n) = lift (I.led i r b (omega arith) c a)
        where
          lift : Led X g.marks i r (target_at g i r) → Led X (join X.old.head.alarm g m v).marks i r (target_at g i r)
          lift (inl e) = inl e
          lift (inr (inl K)) = inr (inl (join-to-kept g m v I.shaped l w i r (target_at g i r) K))
          lift (inr (inr P)) = inr (inr (join-to-pair g m v I.shaped l w i r (target_at g i r) P))

      now_stepped : (i r : ℕ) → i < 4096 → 0 < mark_at (join X.old.head.alarm g m v) i → wait_at (join X.old.head.alarm g m v) i ≡ 0 → ((old_of i).0 ≡ X.old.head.alarm → ⊥) → r < 2 → can_be_taken (rows_of X.new i) r ≡ true → D i r
          → Dec (i ≡ m) → Stepped X (join X.old.head.alarm g m v).marks (join X.old.head.alarm g m v).sets i r (target_at g i r)
      now_stepped i r b p z a c s d (yes e) =
          let h = join-rests g m v I.shaped l w (rw e at z) (λ f. a (ap (λ (x : ℕ). x / 64) e ∙ f)) in
          join_stepped g m v I.shaped l w i r (target_at g i r) (rw e h.2)
          (I.stepped i r b (rw e h.0) (rw e h.1) a c s d)
      now_stepped i r b p z a c s d (no e) =
          join_stepped g m v I.shaped l w i r (target_at g i r) (join-set_other X.old.head.alarm g m v S l i e)
          (I.stepped i r b (was i e p) (sym (join_wait_other X.old.head.alarm g m v S l i e) ∙ z) a c s d)

  -- ---- the target of row r of the pair in hand is stored
  module _ (g : Buffers) (n r to : ℕ) (S : Shaped g) (l : n < 4096) (c : r < 2) where
    aimed_here : target_at (aimed g n r to) n r ≡ to
    aimed_here = get_or-set_same g.targets (index n r) to 0 (omega (arith, S.sized.targets))

    aimed_other : (i k : ℕ) → k < 2 → ((i ≡ n) × (k ≡ r) → ⊥) → target_at (aimed g n r to) i k ≡ target_at g i k
    aimed_other i k b e = get_or-set_other g.targets (index n r) (index i k) to 0 (λ h. e (omega arith, omega arith))

    by_target : {A : Type 0} (i k : ℕ) → ((i ≡ n) × (k ≡ r) → A) → (((i ≡ n) × (k ≡ r) → ⊥) → A) → A
    by_target {A = A} i k f h = go (ℕ_discrete i n) (ℕ_discrete k r)
      where
        go : Dec (i ≡ n) → Dec (k ≡ r) → A
        go (yes d) (yes e) = f (d, e)
        go (yes d) (no e) = h (λ z. e z.1)
        go (no d) e = h (λ z. d z.0)

  aimed_inv : (g : Buffers) (n r to : ℕ) → n < 4096 → r < 2 → can_be_taken (rows_of X.new n) r ≡ true → 0 < mark_at g n → to < 4160
      → Led X g.marks n r to
      → (wait_at g n ≡ 0 → ((old_of n).0 ≡ X.old.head.alarm → ⊥) → Stepped X g.marks g.sets n r to)
      → Inv X (Hand n r) g → Inv X (Hand n (suc r)) (aimed g n r to)
  aimed_inv g n r to l c there p b L T I =
      record {
        shaped = aimed_shaped g n r to S;
        real = I.real;
        real_kept = I.real_kept;
        apart = I.apart;
        waiters = I.waiters;
        aims = λ i k d f. by_target g n r to S l c i k (λ e. rw (e.0, e.1, here) (inl b)) (λ e. rw (other i k f e) (I.aims i k d f));
        unused = λ i k d f u. by_target g n r to S l c i k
            (λ e. absurd (⊎_elim (λ z. omega (arith, rw e.0 at z)) (λ z. T_true (sym (rw (e.0, e.1) at z) ∙ there)) u))
            (λ e. other i k f e ∙ I.unused i k d f u);
        bare = I.bare;
        led = λ i k d q f s. by_target g n r to S l c i k (λ e. rw (e.0, e.1, here) L) (λ e. rw (other i k f e) (I.led i k d q f s));
        stepped = λ i k d q z a f s h. by_target g n r to S l c i k
            (λ e. rw (e.0, e.1, here) (T (rw e.0 at z) (λ x. a (ap (λ (y : ℕ). y / 64) e.0 ∙ x))))
            (λ e. rw (other i k f e) (I.stepped i k d q z a f s (λ x. before (h x) (λ w. e (x, w)))));
        home = I.home;
      }
    where
      S : Shaped g
      S = I.shaped

      here : target_at (aimed g n r to) n r ≡ to
      here = aimed_here g n r to S l c

      other : (i k : ℕ) → k < 2 → ((i ≡ n) × (k ≡ r) → ⊥) → target_at (aimed g n r to) i k ≡ target_at g i k
      other i k f e = aimed_other g n r to S l c i k f e

      before : {k : ℕ} → k < suc r → (k ≡ r → ⊥) → k < r
      before y u = omega arith

  -- a pair that has left the graph has no rows to tell of
  gone_inv : (g : Buffers) (n r : ℕ) → mark_at g n ≡ 0 → Inv X (Hand n r) g → Inv X (Hand n (suc r)) g
  gone_inv g n r z I =
      record {
        shaped = I.shaped;
        real = I.real;
        real_kept = I.real_kept;
        apart = I.apart;
        waiters = I.waiters;
        aims = I.aims;
        unused = I.unused;
        bare = I.bare;
        led = I.led;
        stepped = λ i k b p w a c s d. I.stepped i k b p w a c s (λ e. absurd (omega (arith, rw e at p)));
        home = I.home;
      }

  aim_inv : (g : Buffers) (n r to : ℕ) → n < 4096 → r < 2 → can_be_taken (rows_of X.new n) r ≡ true → to < 4160
      → Led X g.marks n r to
      → (0 < mark_at g n → wait_at g n ≡ 0 → ((old_of n).0 ≡ X.old.head.alarm → ⊥) → Stepped X g.marks g.sets n r to)
      → Inv X (Hand n r) g → Inv X (Hand n (suc r)) (aim g n r to)
  aim_inv g n r to l c there b L T I =
      by_aim g n r to (Inv X (Hand n (suc r))) (λ p. aimed_inv g n r to l c there p b L (T p) I) (λ z. gone_inv g n r z I)

  -- no such row that can be taken
  spare_inv : (g : Buffers) (n r : ℕ) → can_be_taken (rows_of X.new n) r ≡ false → Inv X (Hand n r) g → Inv X (Hand n (suc r)) g
  spare_inv g n r u I =
      record {
        shaped = I.shaped;
        real = I.real;
        real_kept = I.real_kept;
        apart = I.apart;
        waiters = I.waiters;
        aims = I.aims;
        unused = I.unused;
        bare = I.bare;
        led = I.led;
        stepped = λ i k b p w a c s d. I.stepped i k b p w a c s (λ e. let y = d e in let z : k ≡ r → ⊥ = λ f. T_true (sym u ∙ (rw (e, f) at s)) in omega arith);
        home = I.home;
      }

  -- ---- a row
  module _ (g : Buffers) (n v r : ℕ) (l : n < 4096) (lo : n / 64 < X.old.head.places) (c : r < 2) (w : v < 2 ^ 64) (own : 0 < mark_at g n → v ≡ set_at g n) where
    row_inv : Inv X (Hand n r) g → Inv X (Hand n (suc r)) (row_done X g n v r)
    row_inv I =
        by_row X g n v r (Inv X (Hand n (suc r)))
        (λ u. spare_inv g n r u I)
        (λ a e. let K : ToKept X (keep g (leads_to X.new n r)).marks n r (kept_number (leads_to X.new n r)) =
        record { kept = omega (arith, keep-node g (leads_to X.new n r) I.shaped.sized (leads_64 n r a)); leads = inl refl } in
        aim_inv (keep g (leads_to X.new n r)) n r (kept_number (leads_to X.new n r)) l c a (omega (arith, leads_64 n r a)) (inr (inl K)) (λ p z q. inl K)
        (keep_inv (Hand n r) g (leads_to X.new n r) (leads-below X F G n v r a) I))
        (λ a e. let K : ToKept X g.marks n r (kept_number (leads_to X.new n r)) = record { kept = e; leads = inl refl } in
        aim_inv g n r (kept_number (leads_to X.new n r)) l c a (omega (arith, leads_64 n r a)) (inr (inl K)) (λ p z q. inl K) I)
        (λ a h e f. arrives a h e f (step_of_fits X F G n v r a X.old.head.places (omega arith) lo w h e))
      where
        arrives : can_be_taken (rows_of X.new n) r ≡ true → (h : Spot) → step_of X n v r ≡ Some h → mark_at g (kept_number (leads_to X.new n r)) ≡ 0 → Fits X.old.head.places h
            → Inv X (Hand n (suc r)) (aim (join X.old.head.alarm g (pair_number h.place (leads_to X.new n r)) h.set) n r (pair_number h.place (leads_to X.new n r)))
        arrives a h e f T =
            aim_inv (join X.old.head.alarm g m h.set) n r m l c a (omega (arith, below)) (inr (inr pair)) (λ p z q. inr (stepped p z q (ℕ_discrete n m)))
            (join_inv (Hand n r) g m h.set below (omega (arith, T.place, q_below)) (omega (arith, leads-below X F G n v r a, q_below)) (rw same_kept f) T.set I)
          where
            m : ℕ
            m = pair_number h.place (leads_to X.new n r)

            q_below : (leads_to X.new n r).0 < 64
            q_below = leads_64 n r a

            below : m < 4096
            below = omega (arith, T.place, F.few_places, q_below)

            same_kept : kept_number (new_of m) ≡ kept_number (leads_to X.new n r)
            same_kept = omega (arith, q_below)

            g' : Buffers
            g' = join X.old.head.alarm g m h.set

            pair : ToPair X g'.marks n r m
            pair = record { below = below; place = omega (arith, q_below); there = omega (arith, join-mark X.old.head.alarm g m h.set I.shaped.sized below) }

            kept_set : 0 < mark_at g' n → wait_at g' n ≡ 0 → ((old_of n).0 ≡ X.old.head.alarm → ⊥) → Dec (n ≡ m) → set_at g' n ≡ v
            kept_set p z q (yes d) =
                let k = join-rests g m h.set I.shaped below T.set (ap (λ (y : ℕ). wait_at g' y) (sym d) ∙ z) (λ x. q (ap (λ (y : ℕ). y / 64) d ∙ x)) in
                ap (λ (y : ℕ). set_at g' y) d ∙ k.2 ∙ ap (λ (y : ℕ). set_at g y) (sym d) ∙ sym (own (subst (λ (y : ℕ). 0 < mark_at g y) (sym d) k.0))
            kept_set p z q (no d) =
                join-set_other X.old.head.alarm g m h.set I.shaped.sized below n d ∙ sym (own (omega (arith, join-mark_other X.old.head.alarm g m h.set I.shaped.sized below n d)))

            stepped : 0 < mark_at g' n → wait_at g' n ≡ 0 → ((old_of n).0 ≡ X.old.head.alarm → ⊥) → Dec (n ≡ m) → ToStep X g'.marks g'.sets n r m
            stepped p z q d =
                record {
                  spot = h;
                  step = rw (kept_set p z q d) e;
                  is = refl;
                  pair = pair;
                  small = T.set;
                  holds = rw (join-set X.old.head.alarm g m h.set I.shaped.sized below) (holds_gained (set_at g m) h.set (I.shaped.small m) T.set);
                }

  -- ---- a turn
  unwait_inv : (g : Buffers) (n : ℕ) → n < 4096 → Inv X Every g → Inv X (Hand n 0) (unwait g n)
  unfolding unwait
  unwait_inv g n l I =
      record {
        shaped = unwait-shaped g n I.shaped;
        real = I.real;
        real_kept = I.real_kept;
        apart = I.apart;
        waiters = λ i b p. still i b p (ℕ_discrete i n);
        aims = I.aims;
        unused = I.unused;
        bare = I.bare;
        led = I.led;
        stepped = λ i k b p z a c s d. I.stepped i k b p (sym (get_or-set_other g.waiting n i 0 0 (λ e. let y = d e in omega arith)) ∙ z) a c s tt;
        home = I.home;
      }
    where
      still : (i : ℕ) → i < 4096 → 0 < get_or (set g.waiting n 0) i 0 → Dec (i ≡ n) → 0 < mark_at g i
      still i b p (yes e) = absurd (omega (arith, rw e at p, get_or-set_same g.waiting n 0 0 (omega (arith, I.shaped.sized.waiting))))
      still i b p (no e) = I.waiters i b (omega (arith, get_or-set_other g.waiting n i 0 0 e))

  pub turn_inv : (g : Buffers) (n : ℕ) → Inv X Every g → next g ≡ Some n → Inv X Every (taken X g n)
  unfolding taken second_done unwait
  turn_inv g n I e =
      let L = next-waits g n e in
      let l : n < 4096 = omega (arith, L.below, I.shaped.sized.waiting) in
      let R = I.real n l (I.waiters n l L.waits) in
      let v = set_at g n in
      let one = row_inv (unwait g n) n v 0 l R.0 (omega arith) (I.shaped.small n) (λ p. same_set) (unwait_inv g n l I) in
      let h = row_done X (unwait g n) n v 0 in
      let two = row_inv h n (set_now h.marks h.sets n v) 1 l R.0 (omega arith) (set_now_small h n v (I.shaped.small n) one.shaped) (λ p. set_now_lem h n v p) one in
      whole (second_done X h n v) two
    where
      same_set : set_at g n ≡ set_at (unwait g n) n
      same_set = refl

      whole : (h : Buffers) → Inv X (Hand n 2) h → Inv X Every h
      whole h J =
          record {
            shaped = J.shaped;
            real = J.real;
            real_kept = J.real_kept;
            apart = J.apart;
            waiters = J.waiters;
            aims = J.aims;
            unused = J.unused;
            bare = J.bare;
            led = J.led;
            stepped = λ i k b p z a c s d. J.stepped i k b p z a c s (λ x. c);
            home = J.home;
          }

  -- ---- the beginning
  pub begun_inv : Inv X Every (begun (heads_of X))
  unfolding begun
  begun_inv =
      record {
        shaped = begun-shaped X F G;
        real = λ i b p. (let e = one_only 4160 (first_pair X) 1 i p in (rw e (omega (arith, F.some_places)), rw e (omega (arith, G.some_places))));
        real_kept = λ k a b p. absurd (let e = one_only 4160 (first_pair X) 1 k p in omega arith);
        apart = λ i b p. one_other 4160 (first_pair X) 1 (kept_number (new_of i)) (λ e. omega arith);
        waiters = λ i b p. (let e = one_only 4096 (first_pair X) 1 i p in rw e (omega (arith, one-there 4160 (first_pair X) 1 (omega arith))));
        aims = λ i r b c. inr (same_at 8192 65535 (index i r) (omega arith));
        unused = λ i r b c u. same_at 8192 65535 (index i r) (omega arith);
        bare = λ i b e. zeros_at 4096 i;
        led = λ i r b p c a. inl (same_at 8192 65535 (index i r) (omega arith));
        stepped = λ i r b p z a c s d. absurd (let e = one_only 4160 (first_pair X) 1 i p in omega (arith, rw e at z, one-there 4096 (first_pair X) 1 (omega arith)));
        home = inl (omega (arith, one-there 4160 (first_pair X) 1 (omega arith)));
      }

  -- what holds where nothing waits any more
  pub explored_inv : Inv X Every (explored X)
  unfolding explored
  explored_inv = repeated-keeps next (taken X) (Inv X Every) turn_inv (2 ^ 80) (begun (heads_of X)) begun_inv
