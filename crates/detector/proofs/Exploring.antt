-- The loop of a build's turns, in the form in which the code meets it. Assumes nothing.
use mathlib.Core.Path.{◌≡◌, refl, sym, ◌∙◌}
use mathlib.Core.List.{List}
use Rattle.std.specs.Prelude.{None, Some}
use Prim.Native.Nat.{ℕ, ◌^◌, ◌<◌}
use native.Mathlib.Omega.{arith}
use lib.ListN.{length, set, replicate}
use Rattle.base.proofs.Ones.{one_only}
use Rattle.base.proofs.Repeat.{Going, less_by, again_by, done_by}
use Rattle.base.proofs.Walks.{same_at, zeros_at}
use Rattle.chart.specs.declared.charts.Heads.{Heads}
use Rattle.chart.specs.Compared.{Compared, heads_of}
use Rattle.chart.specs.Faultless.{FaultlessChart}
use Rattle.chart.specs.Places.{start_pair}
use Rattle.records.specs.Records.{index}
use Rattle.words.specs.inner.Words.{Member, added, listed}
use Rattle.words.proofs.Words.{length-added, added-here, length-listed, listed_here}
use Rattle.graph.specs.Buffers.{Buffers, buffers}
use Rattle.graph.specs.inner.Tracks.{Covers, Lists, Tracks}
use Rattle.detector.specs.Turns.{lowest, next, begun, taken, explored}
use Rattle.graph.proofs.Graphs.{Shaped}
use Rattle.detector.proofs.Turns.{next-waits}
use Rattle.detector.proofs.Measure.{weight, turns, begun-shaped, begun_weight}

-- four buffers that were filled, and two that were then written, are a graph that has begun
pub begun-is : (heads : Heads) {m t s w : List ℕ} {first : ℕ} → first ≡ start_pair heads
    → buffers m t s w ≡ buffers (replicate 4160 0) (replicate 8192 65535) (replicate 4096 0) (replicate 4096 0)
    → buffers (set m first 1) t s (set w first 1) ≡ begun heads
unfolding begun
begun-is heads f e = λ i. buffers (set (e i).marks (f i) 1) (e i).targets (e i).sets (set (e i).waiting (f i) 1)

-- the loop stands at g, and the two sets have whom they should
pub record Building (X : Compared) (g : Buffers) (waits seen : List ℕ) : Type 0 where
  pub old-faultless : FaultlessChart X.old
  pub new-faultless : FaultlessChart X.new
  pub going : Going next (taken X) weight Shaped (explored X) g
  pub tracks : Tracks waits seen g

-- sets that have the first pair are enough at the beginning
module _ (heads : Heads) (l s : List ℕ) (a : length l ≡ 65) (b : length s ≡ 64) where
  begun-lists : Lists (listed l (start_pair heads)) (begun heads).waiting
  unfolding begun
  begun-lists =
      record {
        long = length-listed l (start_pair heads) ∙ a;
        each = λ i c p. rw (one_only 4096 (start_pair heads) 1 i p) (listed_here l (start_pair heads) a (omega arith));
      }

  first_seen : Member (added s (start_pair heads)) (start_pair heads)
  first_seen = added-here s (start_pair heads) (omega arith) (omega arith)

  begun-covers : Covers (added s (start_pair heads)) (begun heads)
  unfolding begun
  begun-covers =
      record {
        long = length-added s (start_pair heads) ∙ b;
        marks = λ i c p. rw (one_only 4160 (start_pair heads) 1 i p) first_seen;
        targets = λ i r c d u. absurd (u (same_at 8192 65535 (index i r) (omega arith)));
        sets = λ i c p. absurd (omega (arith, zeros_at 4096 i));
        waiting = λ i c p. rw (one_only 4096 (start_pair heads) 1 i p) first_seen;
      }

  pub begun-tracks : {g : Buffers} {l' s' : List ℕ} {first : ℕ} → g ≡ begun heads → first ≡ start_pair heads
      → l' ≡ listed l first → s' ≡ added s first → Tracks l' s' g
  begun-tracks e f x y = rw (e, x, y, f) (record { lists = begun-lists; covers = begun-covers })

pub build_begun : (X : Compared) {g : Buffers} {waits seen : List ℕ} → FaultlessChart X.old → FaultlessChart X.new
    → g ≡ begun (heads_of X) → Tracks waits seen g → Building X g waits seen
unfolding explored
build_begun X F G e T =
    record {
      old-faultless = F;
      new-faultless = G;
      going = rw e (record { good = begun-shaped X F G; turns = 2 ^ 80; enough = begun_weight X F G; same = refl });
      tracks = T;
    }

module _ (X : Compared) {g : Buffers} {waits seen : List ℕ} (B : Building X g waits seen) where
  module _ {n : ℕ} (e : Some n ≡ lowest g.waiting) where
    found : next g ≡ Some n
    unfolding next
    found = sym e

    pub build_below : n < 4096
    build_below = omega (arith, (next-waits g n found).below, B.going.good.sized.waiting)

    module _ {h : Buffers} (q : h ≡ taken X g n) where
      pub build_less : weight h < weight g
      build_less = less_by next (taken X) weight Shaped (turns X B.old-faultless B.new-faultless) B.going.good found q

      pub build_turn : {waits' seen' : List ℕ} → Tracks waits' seen' h → Building X h waits' seen'
      build_turn T =
          let F = B.old-faultless in
          let G = B.new-faultless in
          record {
            old-faultless = F;
            new-faultless = G;
            going = again_by next (taken X) weight Shaped (turns X F G) B.going found q;
            tracks = T;
          }

  pub build_done : None ≡ lowest g.waiting → g ≡ explored X
  unfolding next
  build_done e = done_by next (taken X) weight Shaped (turns X B.old-faultless B.new-faultless) B.going (sym e)
