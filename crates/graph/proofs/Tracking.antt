-- Each part of a turn keeps up who waits and who was seen. Assumes nothing.
use mathlib.Core.Path.{◌≡◌, refl, ◌∙◌}
use mathlib.Core.Bool.{Bool, true, false}
use mathlib.Core.Logic.{dite}
use mathlib.Core.List.{List}
use Prim.Native.Nat.{ℕ, ◌%◌, ◌<◌}
use native.Mathlib.Omega.{arith}
use native.Mathlib.Decide.{ℕ_discrete}
use lib.Seq.{get_or-set_same, get_or-set_other}
use Rattle.chart.specs.declared.places.NewPlace.{NewPlace}
use Rattle.records.specs.Records.{index}
use Rattle.words.specs.inner.Words.{Member, Listed, added, removed, listed}
use Rattle.words.proofs.Words.{length-added, added-here, added-old, length_removed, length-listed, listed_here, listed-old, unlisted_other}
use Rattle.graph.specs.Buffers.{Buffers, keep, aim, due, join, unwait}
use Rattle.graph.specs.inner.Sized.{Sized}
use Rattle.graph.specs.inner.Tracks.{Covers, Lists, Tracks, listed_if}
use Rattle.graph.proofs.Graphs.{mark_at, wait_at, target_at, keep-mark, keep-set, keep_wait, keep-target, keep-mark_other, keep-set_other, keep_wait_other, keep-target_other, aimed, by_aim, join_not_due, join-mark_other, join-set_other, join_wait_other, join-target}

-- ---- a new place becomes kept: nobody gains anything
module _ (g : Buffers) (q : NewPlace) (S : Sized g) (b : q.0 < 64) {l seen : List ℕ} (T : Tracks l seen g) where
  -- what is 0 at pairs with this new place, and as it was at others
  had : {x x' : ℕ} (i : ℕ) → (i % 64 ≡ q.0 → x' ≡ 0) → ((i % 64 ≡ q.0 → ⊥) → x' ≡ x) → 0 < x' → 0 < x
  had i e f p = dite (ℕ_discrete (i % 64) q.0) (λ h. absurd (omega (arith, e h))) (λ h. omega (arith, f h))

  kept-waits : (i : ℕ) → i < 4096 → 0 < wait_at (keep g q) i → 0 < wait_at g i
  kept-waits i c = had i (keep_wait g q S b i c) (keep_wait_other g q S b i c)

  kept_unused : (i r : ℕ) → i < 4096 → r < 2 → target_at g i r ≡ 65535 → target_at (keep g q) i r ≡ 65535
  kept_unused i r c d e =
      dite (ℕ_discrete (i % 64) q.0) (λ h. keep-target g q S b i c h r d) (λ h. keep-target_other g q S b i c h r d ∙ e)

  pub keep-tracks : Tracks l seen (keep g q)
  keep-tracks =
      record {
        lists = record { long = T.lists.long; each = λ i c p. T.lists.each i c (kept-waits i c p) };
        covers =
            record {
              long = T.covers.long;
              marks = λ i c p. T.covers.marks i c (had i (keep-mark g q S b i c) (keep-mark_other g q S b i c) p);
              targets = λ i r c d u. T.covers.targets i r c d (λ e. u (kept_unused i r c d e));
              sets = λ i c p. T.covers.sets i c (had i (keep-set g q S b i c) (keep-set_other g q S b i c) p);
              waiting = λ i c p. T.covers.waiting i c (kept-waits i c p);
            };
      }

-- ---- a target is stored, if the pair has a mark: then it was seen
module _ (g : Buffers) (n r to : ℕ) (b : n < 4096) (c : r < 2) {l seen : List ℕ} (T : Tracks l seen g) where
  aimed_covers : 0 < mark_at g n → Covers seen (aimed g n r to)
  aimed_covers p =
      let C = T.covers in record { long = C.long; marks = C.marks; targets = targets; sets = C.sets; waiting = C.waiting }
    where
      targets : (i k : ℕ) → i < 4096 → k < 2 → (target_at (aimed g n r to) i k ≡ 65535 → ⊥) → Member seen i
      targets i k d e u =
          dite (ℕ_discrete i n) (λ h. rw h (T.covers.marks n b p))
          (λ h. T.covers.targets i k d e
          (λ z. u (get_or-set_other g.targets (index n r) (index i k) to 0 (λ y. h (omega arith)) ∙ z)))

  pub aim-tracks : Tracks l seen (aim g n r to)
  aim-tracks = by_aim g n r to (Tracks l seen) (λ p. record { lists = T.lists; covers = aimed_covers p }) (λ z. T)

-- ---- a pair joins: it is seen, and in the list if it is to wait
module _ (alarm : ℕ) (g : Buffers) (n v : ℕ) (S : Sized g) (b : n < 4096) {l seen : List ℕ} (T : Tracks l seen g) where
  join-lists : (d : Bool) → due alarm g.marks g.sets n v ≡ d → Lists (listed_if d l n) (join alarm g n v).waiting
  unfolding listed_if
  join-lists true e = record { long = length-listed l n ∙ T.lists.long; each = each }
    where
      each : (i : ℕ) → i < 4096 → 0 < wait_at (join alarm g n v) i → Listed (listed l n) i
      each i c p =
          dite (ℕ_discrete i n) (λ h. rw h (listed_here l n T.lists.long b))
          (λ h. listed-old l n T.lists.long b i c (T.lists.each i c (omega (arith, join_wait_other alarm g n v S b i h))))
  join-lists false e = record { long = T.lists.long; each = λ i c p. T.lists.each i c (had i p) }
    where
      had : (i : ℕ) → 0 < wait_at (join alarm g n v) i → 0 < wait_at g i
      had i p =
          dite (ℕ_discrete i n) (λ h. rw h (omega (arith, join_not_due alarm g n v S b e, rw h at p)))
          (λ h. omega (arith, join_wait_other alarm g n v S b i h))

  still_seen : (i : ℕ) → Member seen i → Member (added seen n) i
  still_seen i m = added-old seen n (omega (arith, T.covers.long)) b i m

  join_seen : {x x' : ℕ} (i : ℕ) → ((i ≡ n → ⊥) → x' ≡ x) → (0 < x → Member seen i) → 0 < x' → Member (added seen n) i
  join_seen i e f p =
      dite (ℕ_discrete i n) (λ h. rw h (added-here seen n (omega (arith, T.covers.long)) b))
      (λ h. still_seen i (f (omega (arith, e h))))

  join-covers : Covers (added seen n) (join alarm g n v)
  join-covers =
      record {
        long = length-added seen n ∙ T.covers.long;
        marks = λ i c. join_seen i (join-mark_other alarm g n v S b i) (T.covers.marks i c);
        targets = λ i r c d u. still_seen i (T.covers.targets i r c d (λ e. u (rw (join-target alarm g n v) e)));
        sets = λ i c. join_seen i (join-set_other alarm g n v S b i) (T.covers.sets i c);
        waiting = λ i c. join_seen i (join_wait_other alarm g n v S b i) (T.covers.waiting i c);
      }

  pub join-tracks : {l' seen' : List ℕ} → l' ≡ listed_if (due alarm g.marks g.sets n v) l n → seen' ≡ added seen n
      → Tracks l' seen' (join alarm g n v)
  join-tracks e f = rw (e, f) (record { lists = join-lists (due alarm g.marks g.sets n v) refl; covers = join-covers })

-- ---- a pair waits no more, and leaves its word of the list
module _ (g : Buffers) (n : ℕ) (S : Sized g) (b : n < 4096) {l seen : List ℕ} (T : Tracks l seen g) where
  waits_still : (i : ℕ) → 0 < wait_at (unwait g n) i → (i ≡ n → ⊥) × (0 < wait_at g i)
  unfolding unwait
  waits_still i p =
      dite (ℕ_discrete i n) (λ h. absurd (omega (arith, rw h at p, get_or-set_same g.waiting n 0 0 (omega (arith, S.waiting)))))
      (λ h. (h, omega (arith, get_or-set_other g.waiting n i 0 0 h)))

  pub unwait-tracks : {l' : List ℕ} → l' ≡ removed l n → Tracks l' seen (unwait g n)
  unfolding unwait
  unwait-tracks e =
      rw e
      (record {
        lists =
            record {
              long = length_removed l n ∙ T.lists.long;
              each = λ i c p. let h = waits_still i p in unlisted_other l n T.lists.long b i c h.0 (T.lists.each i c h.1);
            };
        covers =
            record {
              long = T.covers.long;
              marks = T.covers.marks;
              targets = T.covers.targets;
              sets = T.covers.sets;
              waiting = λ i c p. T.covers.waiting i c (waits_still i p).1;
            };
      })
