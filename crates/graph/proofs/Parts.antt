-- What a turn does to the buffers, in the form in which the code meets it. Assumes nothing.
use mathlib.Core.Path.{◌≡◌, refl, sym, ap, ◌∙◌}
use mathlib.Core.Bool.{Bool, true, false, ◌&&◌, ◌||◌, not}
use mathlib.Core.List.{List}
use Prim.Native.Nat.{ℕ, ◌/◌, ◌^◌, ◌<◌}
use native.Mathlib.Omega.{arith}
use lib.Dec.{eqb}
use lib.ListN.{get_or, set}
use lib.Seq.{set-get_or}
use Rattle.base.proofs.Tests.{T_true, and_true, and_false}
use Rattle.chart.specs.declared.places.OldPlace.{OldPlace}
use Rattle.chart.specs.Places.{old_of}
use Rattle.records.specs.Records.{index}
use Rattle.sets.specs.Sets.{joined, holds_all}
use Rattle.words.specs.inner.Words.{Member, added, listed}
use Rattle.words.proofs.Words.{added_had}
use Rattle.graph.specs.Buffers.{buffers, marked, aim, due, waits, join}
use Rattle.graph.specs.inner.Tracks.{listed_if}
use Rattle.graph.proofs.Graphs.{is-marked, aim-there, aim-gone, held}

-- two graphs are equal by their buffers
pub graph-eq : {m m' t t' s s' w w' : List ℕ} → m ≡ m' → t ≡ t' → s ≡ s' → w ≡ w' → buffers m t s w ≡ buffers m' t' s' w'
graph-eq a b c d = λ i. buffers (a i) (b i) (c i) (d i)

module _ (m t : List ℕ) (n r to : ℕ) where
  pub aim_yes : (get_or m n 0 ≡ 0 → ⊥) → (s w : List ℕ) → buffers m (set t (index n r) to) s w ≡ aim (buffers m t s w) n r to
  aim_yes e s w = sym (aim-there (buffers m t s w) n r to (omega arith))

  pub aim_no : get_or m n 0 ≡ 0 → (s w : List ℕ) → buffers m t s w ≡ aim (buffers m t s w) n r to
  aim_no e s w = sym (aim-gone (buffers m t s w) n r to e)

-- ---- a pair joins: b tells whether it is there, h whether its set holds all of v
module _ (alarm : ℕ) (m s : List ℕ) (n v : ℕ) {b h : Bool} (e : b ≡ marked m n) (f : h ≡ holds_all (get_or s n 0) v) where
  -- where both are so it is not to wait, its set stays, and it has been seen
  module _ (q : b && h ≡ true) where
    held_due : due alarm m s n v ≡ false
    unfolding due
    held_due = rw (sym e ∙ (and_true b h q).0, sym f ∙ (and_true b h q).1) (and_false (not (eqb (old_of n).0 alarm)))

    held_set : s ≡ set s n (joined (get_or s n 0) v)
    held_set = sym (ap (set s n) (held (get_or s n 0) v (sym f ∙ (and_true b h q).1)) ∙ set-get_or s n 0)

    pub held_listed : (l : List ℕ) → l ≡ listed_if (due alarm m s n v) l n
    unfolding listed_if
    held_listed l = rw held_due

    pub held_seen : (seen : List ℕ) → get_or seen (n / 64) 0 < 2 ^ 64 → (0 < get_or m n 0 → Member seen n) → seen ≡ added seen n
    held_seen seen l c = sym (added_had seen n l (c (is-marked m n (sym e ∙ (and_true b h q).0))))

    pub held_join : (w : List ℕ) {m' : List ℕ} → m' ≡ set m n 1 → (t : List ℕ) → buffers m' t s w ≡ join alarm (buffers m t s w) n v
    unfolding join waits
    held_join w a t = graph-eq a refl held_set (rw held_due)

  -- else it is to wait unless its old place p is the old alarm
  pub due-is : {p : OldPlace} {a : Bool} → b && h ≡ false → p ≡ old_of n → a ≡ not (eqb p.0 alarm) → a ≡ due alarm m s n v
  unfolding due
  due-is q o k = k ∙ ap (λ (x : OldPlace). not (eqb x.0 alarm)) o ∙ rw (sym e, sym f) (go (eqb (old_of n).0 alarm) b h q)
    where
      go : (a b h : Bool) → b && h ≡ false → not a ≡ not a && (not b || not h)
      go true b h q = refl
      go false true true q = absurd (T_true (sym q))
      go false true false q = refl
      go false false h q = refl

module _ (alarm n v : ℕ) (m s w : List ℕ) {m' s' : List ℕ} {d : Bool} (e : d ≡ due alarm m s n v) (a : m' ≡ set m n 1) (b : s' ≡ set s n (joined (get_or s n 0) v)) where
  pub join_yes : {w' : List ℕ} → d ≡ true → w' ≡ set w n 1 → (t : List ℕ) → buffers m' t s' w' ≡ join alarm (buffers m t s w) n v
  unfolding join waits
  join_yes q c t = graph-eq a refl b (c ∙ rw (sym e ∙ q))

  pub join_no : d ≡ false → (t : List ℕ) → buffers m' t s' w ≡ join alarm (buffers m t s w) n v
  unfolding join waits
  join_no q t = graph-eq a refl b (rw (sym e ∙ q))

-- the list gains the pair if it is due
module _ (alarm : ℕ) (m s l : List ℕ) (n v : ℕ) {d : Bool} (e : d ≡ due alarm m s n v) where
  pub listed_yes : {l' : List ℕ} → d ≡ true → l' ≡ listed l n → l' ≡ listed_if (due alarm m s n v) l n
  unfolding listed_if
  listed_yes q f = f ∙ rw (sym e ∙ q)

  pub listed_no : d ≡ false → l ≡ listed_if (due alarm m s n v) l n
  unfolding listed_if
  listed_no q = rw (sym e ∙ q)
