-- A number that falls with each turn of a build, so that nothing waits at its end. Assumes nothing.
use mathlib.Core.Path.{◌≡◌, refl, ◌∙◌}
use mathlib.Core.Bool.{Bool, true, false}
use mathlib.Core.Logic.{◌⊎◌, inl, inr, ⊎_elim}
use Rattle.std.specs.Prelude.{None, Some}
use Prim.Native.Nat.{ℕ, ◌+◌, ◌*◌, ◌-◌, ◌%◌, ◌^◌, ◌≤◌, ◌<◌}
use native.Mathlib.Omega.{arith}
use native.Mathlib.Decide.{ℕ_discrete}
use lib.ListN.{replicate}
use lib.Seq.{get_or-set_same, get_or-set_other}
use Rattle.base.proofs.Sums.{sum, sum-le, sum_lt, sum-most}
use Rattle.base.proofs.Walks.{small-set, zeros_at}
use Rattle.base.proofs.Repeat.{Falls, rests, repeated-keeps}
use Rattle.chart.specs.declared.places.NewPlace.{NewPlace}
use Rattle.chart.specs.Charts.{can_be_taken}
use Rattle.chart.specs.Compared.{Compared, heads_of}
use Rattle.chart.specs.Faultless.{FaultlessChart}
use Rattle.chart.specs.Places.{pair_number, kept_number, new_of}
use Rattle.sets.specs.Sets.{joined}
use Rattle.graph.specs.Buffers.{Buffers, marked, keep, aim, due, join, unwait}
use Rattle.graph.specs.inner.Sized.{Sized}
use Rattle.detector.specs.Turns.{rows_of, leads_to, next, set_now, begun, row_done, second_done, taken, explored}
use Rattle.align.proofs.Steps.{Fits}
use Rattle.sets.proofs.Sets.{join-small}
use Rattle.graph.proofs.Graphs.{mark_at, set_at, wait_at, Shaped, marked_yes, marked_no, marked-same, keep-node, keep-nodes, keep_wait, keep-mark_other, keep-set_other, keep_wait_other, keep-shaped, aimed, by_aim, aimed_shaped, join-mark, join-set, join-due, join_not_due, join-mark_other, join-set_other, join_wait_other, join-shaped, join_more, grown, due_why, unwait-shaped}
use Rattle.detector.proofs.Turns.{by_row, set_now_small, leads-below, step_of_fits, next-waits, none-waits}

-- what a pair has left: nothing more where its new place is kept; else twice the number of sets above its own, and its flag
rest : Bool → Bool → ℕ → ℕ
rest true present s = 0
rest false false s = 2 * (2 ^ 64 + 1)
rest false true s = 2 * (2 ^ 64 - s)

left : Buffers → ℕ → ℕ
left g i = rest (marked g.marks (kept_number (new_of i))) (marked g.marks i) (set_at g i) + wait_at g i

pub weight : Buffers → ℕ
weight g = sum 4096 (left g)

-- ---- each part of a turn raises what no pair has left
-- a new place becomes kept
left-keep : (g : Buffers) (q : NewPlace) (i : ℕ) → Sized g → q.0 < 64 → i < 4096 → left (keep g q) i ≤ left g i
unfolding left rest
left-keep g q i S l k = go (ℕ_discrete (i % 64) q.0)
  where
    here : Buffers → ℕ
    here h = rest (marked h.marks (kept_number (new_of i))) (marked h.marks i) (set_at h i) + wait_at h i

    go : Dec (i % 64 ≡ q.0) → here (keep g q) ≤ here g
    go (yes e) =
        let a : marked (keep g q).marks (4096 + i % 64) ≡ true = marked_yes (keep g q).marks (4096 + i % 64) (rw e (omega (arith, keep-node g q S l))) in
        rw (a, keep_wait g q S l i k e) (omega arith)
    go (no e) =
        rw (
          marked-same (keep g q).marks g.marks (4096 + i % 64) (keep-nodes g q S l (4096 + i % 64) (omega arith) (omega arith) (λ h. e (omega arith))),
          marked-same (keep g q).marks g.marks i (keep-mark_other g q S l i k e),
          keep-set_other g q S l i k e,
          keep_wait_other g q S l i k e,
        )
        (omega arith)

weight_keep : (g : Buffers) (q : NewPlace) → Sized g → q.0 < 64 → weight (keep g q) ≤ weight g
unfolding weight
weight_keep g q S l = sum-le 4096 (left (keep g q)) (left g) (λ i k. left-keep g q i S l k)

-- a target is stored
weight_aimed : (g : Buffers) (n r to : ℕ) → weight (aimed g n r to) ≡ weight g
unfolding weight left
weight_aimed g n r to = refl

-- a pair joins
gained : (p : Bool) (s u w w' : ℕ) → s ≤ u → u < 2 ^ 64 → ((w' ≡ w) ⊎ ((w' ≡ 1) × ((p ≡ false) ⊎ (u ≡ s → ⊥))))
    → 2 * (2 ^ 64 - u) + w' ≤ rest false p s + w
unfolding rest
gained false s u w w' a b c = ⊎_elim (λ e. omega arith) (λ e. omega (arith, e.0)) c
gained true s u w w' a b c = ⊎_elim (λ e. omega arith) (λ e. ⊎_elim (λ f. absurd (never f)) (λ f. less e.0 f) e.1) c
  where
    never : true ≡ false → ⊥
    never f = let z : ◌≡◌ {A = ℕ} 0 1 = cc in omega arith

    less : w' ≡ 1 → (u ≡ s → ⊥) → 2 * (2 ^ 64 - u) + w' ≤ 2 * (2 ^ 64 - s) + w
    less f n = omega arith

module _ (alarm : ℕ) (g : Buffers) (n v : ℕ) (S : Shaped g) (l : n < 4096) (free : mark_at g (kept_number (new_of n)) ≡ 0) (small : v < 2 ^ 64) where
  flagged : (b : Bool) → due alarm g.marks g.sets n v ≡ b
      → (wait_at (join alarm g n v) n ≡ wait_at g n) ⊎ ((wait_at (join alarm g n v) n ≡ 1) × ((marked g.marks n ≡ false) ⊎ (joined (set_at g n) v ≡ set_at g n → ⊥)))
  flagged true e = inr (join-due alarm g n v S.sized l e, ⊎_elim (λ f. inl f) (λ f. inr (grown (set_at g n) v f)) (due_why alarm g n v e))
  flagged false e = inl (join_not_due alarm g n v S.sized l e)

  join-here : left (join alarm g n v) n ≤ left g n
  unfolding left rest
  join-here =
      let a : marked (join alarm g n v).marks (kept_number (new_of n)) ≡ false =
      marked-same (join alarm g n v).marks g.marks (kept_number (new_of n)) (join-mark_other alarm g n v S.sized l (kept_number (new_of n)) (λ h. omega arith)) ∙ marked_no g.marks (kept_number (new_of n)) free in
      let b : marked (join alarm g n v).marks n ≡ true = marked_yes (join alarm g n v).marks n (omega (arith, join-mark alarm g n v S.sized l)) in
      rw (a, b, marked_no g.marks (kept_number (new_of n)) free, join-set alarm g n v S.sized l)
      (gained (marked g.marks n) (set_at g n) (joined (set_at g n) v) (wait_at g n) (wait_at (join alarm g n v) n) (join_more (set_at g n) v) (join-small (set_at g n) v (S.small n) small) (flagged (due alarm g.marks g.sets n v) refl))

  join_other : (i : ℕ) → i < 4096 → (i ≡ n → ⊥) → left (join alarm g n v) i ≤ left g i
  unfolding left
  join_other i k e =
      rw (
        marked-same (join alarm g n v).marks g.marks (kept_number (new_of i)) (join-mark_other alarm g n v S.sized l (kept_number (new_of i)) (λ h. omega arith)),
        marked-same (join alarm g n v).marks g.marks i (join-mark_other alarm g n v S.sized l i e),
        join-set_other alarm g n v S.sized l i e,
        join_wait_other alarm g n v S.sized l i e,
      )
      (omega arith)

  weight_join : weight (join alarm g n v) ≤ weight g
  unfolding weight
  weight_join = sum-le 4096 (left (join alarm g n v)) (left g) (λ i k. go i k (ℕ_discrete i n))
    where
      go : (i : ℕ) → i < 4096 → Dec (i ≡ n) → left (join alarm g n v) i ≤ left g i
      go i k (yes e) = rw e join-here
      go i k (no e) = join_other i k e

-- a flag is cleared
weight_unwait : (g : Buffers) (n : ℕ) → Sized g → n < 4096 → 0 < wait_at g n → weight (unwait g n) < weight g
unfolding weight left unwait
weight_unwait g n S l p =
    sum_lt 4096 n (left (unwait g n)) (left g) l (omega (arith, get_or-set_same g.waiting n 0 0 (omega (arith, S.waiting)))) (λ i k. go i (ℕ_discrete i n))
  where
    go : (i : ℕ) → Dec (i ≡ n) → left (unwait g n) i ≤ left g i
    go i (yes e) = rw e (omega (arith, get_or-set_same g.waiting n 0 0 (omega (arith, S.waiting))))
    go i (no e) = omega (arith, get_or-set_other g.waiting n i 0 0 e)

-- ---- a turn
-- the graph keeps its shape, and nothing is raised
pub record Lighter (g h : Buffers) : Type 0 where
  pub shaped : Shaped h
  pub less : weight h ≤ weight g

module _ (X : Compared) (F : FaultlessChart X.old) (G : FaultlessChart X.new) where
  aim_lighter : (g h : Buffers) (n r to : ℕ) → Lighter g h → Lighter g (aim h n r to)
  aim_lighter g h n r to L =
      by_aim h n r to (Lighter g) (λ l. record { shaped = aimed_shaped h n r to L.shaped; less = omega (arith, weight_aimed h n r to, L.less) }) (λ e. L)

  pub row_lighter : (g : Buffers) (n v r : ℕ) → n < 4096 → v < 2 ^ 64 → Shaped g → Lighter g (row_done X g n v r)
  row_lighter g n v r l k S =
      by_row X g n v r (Lighter g)
      (λ a. record { shaped = S; less = omega arith })
      (λ a e. aim_lighter g (keep g (leads_to X.new n r)) n r (kept_number (leads_to X.new n r)) (record { shaped = keep-shaped g (leads_to X.new n r) S; less = weight_keep g (leads_to X.new n r) S.sized (q_below a) }))
      (λ a e. aim_lighter g g n r (kept_number (leads_to X.new n r)) (record { shaped = S; less = omega arith }))
      (λ a h e f. let m = pair_number h.place (leads_to X.new n r) in
      let T : Fits 64 h = step_of_fits X F G n v r a 64 F.few_places (omega arith) k h e in
      let z : kept_number (new_of m) ≡ kept_number (leads_to X.new n r) = omega (arith, q_below a) in
      aim_lighter g (join X.old.head.alarm g m h.set) n r m
      (record { shaped = join-shaped X.old.head.alarm g m h.set T.set S; less = weight_join X.old.head.alarm g m h.set S (omega (arith, T.place, q_below a)) (rw z f) T.set }))
    where
      q_below : can_be_taken (rows_of X.new n) r ≡ true → (leads_to X.new n r).0 < 64
      q_below a = omega (arith, leads-below X F G n v r a, G.few_places)

  turn_lighter : (g : Buffers) (n : ℕ) → n < 4096 → Shaped g → Lighter (unwait g n) (taken X g n)
  unfolding taken second_done
  turn_lighter g n l S =
      let v = set_at g n in
      let f = unwait g n in
      let one = row_lighter f n v 0 l (S.small n) (unwait-shaped g n S) in
      let h = row_done X f n v 0 in
      let two = row_lighter h n (set_now h.marks h.sets n v) 1 l (set_now_small h n v (S.small n) one.shaped) one.shaped in
      record { shaped = two.shaped; less = omega (arith, one.less, two.less) }

  pub turns : Falls next (taken X) weight Shaped
  turns =
      record {
        keeps = λ g n S e. (turn_lighter g n (below g n S e) S).shaped;
        less = λ g n S e. omega (arith, weight_unwait g n S.sized (below g n S e) (next-waits g n e).waits, (turn_lighter g n (below g n S e) S).less);
      }
    where
      below : (g : Buffers) (n : ℕ) → Shaped g → next g ≡ Some n → n < 4096
      below g n S e = omega (arith, (next-waits g n e).below, S.sized.waiting)

  pub begun-shaped : Shaped (begun (heads_of X))
  unfolding begun
  begun-shaped =
      record { sized = record { marks = refl; targets = refl; sets = refl; waiting = refl }; small = λ i. omega (arith, zeros_at 4096 i) }

  rest-most : (a b : Bool) (s : ℕ) → rest a b s ≤ 2 * (2 ^ 64 + 1)
  unfolding rest
  rest-most true b s = omega arith
  rest-most false false s = omega arith
  rest-most false true s = omega arith

  pub begun_weight : weight (begun (heads_of X)) ≤ 2 ^ 80
  unfolding weight left begun
  begun_weight =
      omega (
        arith,
        sum-most 4096 (2 * (2 ^ 64 + 1) + 1) (left (begun (heads_of X)))
            (λ i. omega (
              arith,
              small-set 2 (replicate 4096 0) 0 1 (omega arith) (λ j. omega (arith, zeros_at 4096 j)) i,
              rest-most (marked (begun (heads_of X)).marks (kept_number (new_of i))) (marked (begun (heads_of X)).marks i) (set_at (begun (heads_of X)) i),
            )),
      )

  -- the turns suffice: nothing waits at the end
  pub explored-rests : next (explored X) ≡ None
  unfolding explored
  explored-rests = rests next (taken X) weight Shaped turns (2 ^ 80) (begun (heads_of X)) begun-shaped begun_weight

  pub explored-shaped : Shaped (explored X)
  unfolding explored
  explored-shaped = repeated-keeps next (taken X) Shaped turns.keeps (2 ^ 80) (begun (heads_of X)) begun-shaped

  pub nothing_waits : (i : ℕ) → i < 4096 → wait_at (explored X) i ≡ 0
  nothing_waits i l = none-waits (explored X) explored-rests i (omega (arith, explored-shaped.sized.waiting))
