-- What a build leaves is right: which pairs a kept place has, where each row of a pair leads, and which pairs are open or covered. Assumes nothing.
use mathlib.Core.Path.{◌≡◌, ap, subst}
use mathlib.Core.Bool.{true, false}
use mathlib.Core.Logic.{◌≢◌, ◌⊎◌, ⊎_elim, dite}
use Rattle.std.specs.Prelude.{Some}
use Prim.Native.Nat.{ℕ, ◌+◌, ◌<◌}
use native.Mathlib.Omega.{arith}
use native.Mathlib.Decide.{ℕ_discrete}
use Rattle.chart.specs.Charts.{can_be_taken}
use Rattle.chart.specs.Compared.{Compared, heads_of}
use Rattle.chart.specs.Faultless.{FaultlessChart}
use Rattle.chart.specs.Places.{pair_number, kept_number, old_of, new_of}
use Rattle.align.specs.declared.spots.Spot.{Spot}
use Rattle.records.specs.Records.{mark, target}
use Rattle.chart.proofs.Starts.{first_pair}
use Rattle.detector.specs.Turns.{rows_of, leads_to, step_of, explored}
use Rattle.condition.specs.Builds.{final_targets, alone}
use Rattle.graph.proofs.Graphs.{mark_at, set_at}
use Rattle.detector.proofs.Invariant.{ToStep, explored_inv}
use Rattle.detector.proofs.Turns.{leads-below}
use Rattle.marker.proofs.Marks.{rank-there, Final}
use Rattle.marker.proofs.Least.{Closed, least_open, Reached, covered-reached}
use Rattle.condition.proofs.Left.{starts, targets-length, marks, left, final, steps}

-- unless the start is the lone kept node
module _ (X : Compared) (F : FaultlessChart X.old) (H : FaultlessChart X.new) (joint : alone (heads_of X) (explored X).marks ≡ false) where
  -- a kept place has no pair in the graph
  pub kept-apart : (i : ℕ) → i < 4096 → mark (left X F H joint) (kept_number (new_of i)) ≡ 2 → mark (left X F H joint) i ≡ 0
  kept-apart i b e =
      let L = final X F H joint in
      let k = rank-there (explored X).marks (marks X F H joint) L.ranks (kept_number (new_of i)) (omega arith) in
      dite (ℕ_discrete (mark_at (explored X) i) 0) (λ z. L.ranks.absent i z)
      (λ z. absurd (omega (arith, k.1, (explored_inv X F H).apart i b (omega arith))))

  -- "if q2 is kept, the target is kept q2. If not, the target is the pair" that the step under the pair's final set gives
  pub record Leads (i r : ℕ) : Type 0 where
    pub to-kept : mark (left X F H joint) (kept_number (leads_to X.new i r)) ≡ 2 → target (left X F H joint) i r ≡ kept_number (leads_to X.new i r)
    pub to-pair : (mark (left X F H joint) (kept_number (leads_to X.new i r)) ≡ 2 → ⊥)
        → (h : Spot) × (step_of X i (set_at (explored X) i) r ≡ Some h) × (target (left X F H joint) i r ≡ pair_number h.place (leads_to X.new i r))

  pub row-leads : (i r : ℕ) → i < 4096 → mark (left X F H joint) i ≢ 0 → ((old_of i).0 ≡ X.old.head.alarm → ⊥) → r < 2 → can_be_taken (rows_of X.new i) r ≡ true → Leads i r
  row-leads i r b p n c a =
      ⊎_elim
      (λ k. record { to-kept = λ e. k.0; to-pair = λ m. absurd (m (L.ranks.node (kept_number (leads_to X.new i r)) (omega arith) (omega (arith, below)) k.1)) })
      (λ S. record { to-kept = λ e. absurd (away S e); to-pair = λ m. (S.spot, S.step, S.is) })
      (steps X F H joint i r b p c a n)
    where
      L : Final (explored X).marks (final_targets (explored X)) (first_pair X) (marks X F H joint)
      L = final X F H joint

      below : (leads_to X.new i r).0 < 64
      below = omega (arith, leads-below X F H i 0 r a, H.few_places)

      away : ToStep X (explored X).marks (explored X).sets i r (target (left X F H joint) i r)
          → mark (left X F H joint) (kept_number (leads_to X.new i r)) ≡ 2 → ⊥
      away S e =
          let k = rank-there (explored X).marks (marks X F H joint) L.ranks (kept_number (leads_to X.new i r)) (omega arith) in
          let z = (explored_inv X F H).apart (target (left X F H joint) i r) S.pair.below S.pair.there in
          let y : kept_number (new_of (target (left X F H joint) i r)) ≡ kept_number (leads_to X.new i r) = ap (λ (x : ℕ). 4096 + x) S.pair.place in
          omega (arith, k.1, subst (λ (x : ℕ). mark_at (explored X) x ≡ 0) y z)

  -- a pair from which an open or kept node is a target is open
  pub open_closed : (i r : ℕ) → i < 4096 → mark (left X F H joint) i ≢ 0 → r < 2
      → (mark (left X F H joint) (target (left X F H joint) i r) ≡ 1) ⊎ (mark (left X F H joint) (target (left X F H joint) i r) ≡ 2)
      → mark (left X F H joint) i ≡ 1
  open_closed i r b p c e =
      let L = final X F H joint in
      let t = rank-there (explored X).marks (marks X F H joint) L.ranks i (omega arith) in
      ⊎_elim (λ z. z) (λ z. absurd (let n = L.from_beyond i r b z c in ⊎_elim n.0 n.1 e)) (L.ranks.pair i b t.1)

  -- and no smaller set has the start and is so closed
  pub open_least : (S : ℕ → Type 0) → S (first_pair X) → Closed (explored X).marks (final_targets (explored X)) (explored_inv X F H).shaped.sized.marks S
      → (k : ℕ) → mark (left X F H joint) k ≡ 1 → S k
  open_least S h C k e =
      least_open (explored X).marks (final_targets (explored X)) (explored_inv X F H).shaped.sized.marks S (first_pair X) (omega arith)
      (starts X F H joint).0 (targets-length X F H joint) h C k e

  -- a covered node is a target of an open pair; a target of an open pair that is a pair and not open is covered
  pub covered_only : (k : ℕ) → mark (left X F H joint) k ≡ 3 → Reached (marks X F H joint) (final_targets (explored X)) k
  covered_only k e =
      covered-reached (explored X).marks (final_targets (explored X)) (first_pair X) (explored_inv X F H).shaped.sized.marks (targets-length X F H joint) (omega arith)
      (starts X F H joint).0 k e

  pub covered_all : (i r : ℕ) → i < 4096 → mark (left X F H joint) i ≡ 1 → r < 2 → target (left X F H joint) i r < 4096
      → mark (left X F H joint) (target (left X F H joint) i r) ≢ 0 → mark (left X F H joint) (target (left X F H joint) i r) ≢ 1
      → mark (left X F H joint) (target (left X F H joint) i r) ≡ 3
  covered_all i r b e c l p n =
      let L = final X F H joint in
      let t = rank-there (explored X).marks (marks X F H joint) L.ranks (target (left X F H joint) i r) (omega arith) in
      ⊎_elim (λ z. absurd (n z)) (λ z. ⊎_elim (λ y. y) (λ y. absurd (L.from_open i r b e c y)) z) (L.ranks.pair (target (left X F H joint) i r) l t.1)
