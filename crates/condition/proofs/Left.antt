-- What a build leaves: its final targets and marks, and where each target leads. Assumes nothing.
use mathlib.Core.Path.{◌≡◌, refl, subst, ◌∙◌}
use mathlib.Core.Bool.{true, false, not}
use mathlib.Core.Logic.{◌≢◌, ◌⊎◌, inl, inr, ⊎_elim, dite}
use mathlib.Core.List.{List, [], ◌∷◌, map}
use Prim.Native.Nat.{ℕ, zero, suc, ◌≤◌, ◌<◌}
use native.Mathlib.Omega.{arith}
use native.Mathlib.Decide.{ℕ_discrete}
use borrow.Author.Tests.{lt-ltb, le-ltb, not-false}
use lib.Dec.{T}
use lib.ListN.{length, get_or, set, replicate, length-map}
use Rattle.base.specs.Says.{Test, bool, Says}
use Rattle.base.proofs.Says.{says}
use Rattle.base.proofs.Tests.{T_true, or_false}
use Rattle.chart.specs.Charts.{can_be_taken}
use Rattle.chart.specs.Compared.{Compared, heads_of}
use Rattle.chart.specs.Faultless.{FaultlessChart}
use Rattle.chart.specs.Places.{kept_number, old_of, new_of, old_start, new_start}
use Rattle.align.specs.Steps.{fair}
use Rattle.records.specs.Records.{Graph, record_of, graph_of, mark, index, target}
use Rattle.words.specs.inner.Words.{Member}
use Rattle.graph.specs.Buffers.{Buffers, marked}
use Rattle.graph.specs.inner.Tracks.{Covers}
use Rattle.chart.proofs.Starts.{first_pair, first_kept}
use Rattle.detector.specs.Turns.{rows_of, leads_to, explored}
use Rattle.marker.specs.Marks.{final_marks}
use Rattle.condition.specs.Builds.{redirected, final_targets, alone, lone, finished, built, start_of, recorded}
use Rattle.graph.proofs.Graphs.{mark_at, target_at, marked_yes, marked_no, not_marked}
use Rattle.detector.proofs.Turns.{leads-below}
use Rattle.detector.proofs.Measure.{nothing_waits}
use Rattle.detector.proofs.Invariant.{ToKept, ToPair, ToStep, Led, Stepped, explored_inv}
use Rattle.marker.proofs.Marks.{rank-there, Final, final_marks_lem}

-- ---- the final targets
map_at : (f : ℕ → ℕ) (l : List ℕ) (j : ℕ) → j < length l → get_or (map f l) j 0 ≡ f (get_or l j 0)
map_at f [] j b = absurd (omega arith)
map_at f (x ∷ l) zero b = refl
map_at f (x ∷ l) (suc j) b = map_at f l j (omega arith)

module _ (m : List ℕ) (t : ℕ) where
  pub far : 4096 ≤ t → redirected m t ≡ t
  unfolding redirected
  far l = rw (le-ltb t 4096 l, redirected)

  pub to-kept : t < 4096 → 0 < get_or m (kept_number (new_of t)) 0 → redirected m t ≡ kept_number (new_of t)
  unfolding redirected
  to-kept l p = rw (lt-ltb t 4096 l, redirected) (rw (marked_yes m (kept_number (new_of t)) p, redirected))

  pub not_kept : t < 4096 → get_or m (kept_number (new_of t)) 0 ≡ 0 → redirected m t ≡ t
  unfolding redirected
  not_kept l e = rw (lt-ltb t 4096 l, redirected) (rw (marked_no m (kept_number (new_of t)) e, redirected))

module _ (X : Compared) where
  -- what a target t is in the end: unused, the kept node of its place, or a pair that is there
  abbrev pub Keeps : List ℕ → ℕ → ℕ → ℕ → Type 0
  Keeps m n r t = (t ≡ kept_number (leads_to X.new n r)) × (0 < get_or m (kept_number (leads_to X.new n r)) 0)

  abbrev pub Ends : List ℕ → ℕ → ℕ → ℕ → Type 0
  Ends m n r t = (t ≡ 65535) ⊎ (Keeps m n r t ⊎ ToPair X m n r t)

  module _ (m : List ℕ) (n r t : ℕ) where
    kept-ends : ToKept X m n r t → Keeps m n r (redirected m t)
    kept-ends K =
        ⊎_elim (λ e. (far m t (omega arith) ∙ e, K.kept))
        (λ e. let z : kept_number (new_of t) ≡ kept_number (leads_to X.new n r) = omega (arith, e.1) in
        (to-kept m t e.0 (rw z K.kept) ∙ z, K.kept)) K.leads

    pair_ends : ToPair X m n r t → Keeps m n r (redirected m t) ⊎ (redirected m t ≡ t)
    pair_ends P =
        let z : kept_number (new_of t) ≡ kept_number (leads_to X.new n r) = omega (arith, P.place) in
        dite (ℕ_discrete (get_or m (kept_number (new_of t)) 0) 0) (λ e. inr (not_kept m t P.below e))
        (λ e. inl (to-kept m t P.below (omega arith) ∙ z, subst (λ (k : ℕ). 0 < get_or m k 0) z (omega arith)))

    led_ends : Led X m n r t → Ends m n r (redirected m t)
    led_ends (inl e) = inl (rw e (far m 65535 (omega arith)))
    led_ends (inr (inl K)) = inr (inl (kept-ends K))
    led_ends (inr (inr P)) = ⊎_elim (λ k. inr (inl k)) (λ e. inr (inr (rw e P))) (pair_ends P)

    step-ends : (s : List ℕ) → Stepped X m s n r t → Keeps m n r (redirected m t) ⊎ ToStep X m s n r (redirected m t)
    step-ends s (inl K) = inl (kept-ends K)
    step-ends s (inr T) = ⊎_elim (λ k. inl k) (λ e. inr (rw e T)) (pair_ends T.pair)

-- the start is fair: it is not the new alarm without being the old one
abbrev pub Fair : Compared → Test
Fair X = fair (heads_of X) (old_start (heads_of X)) (new_start (heads_of X))

-- ---- a build whose start is the start pair
module _ (X : Compared) (F : FaultlessChart X.old) (H : FaultlessChart X.new) (joint : alone (heads_of X) (explored X).marks ≡ false) where
  pub starts : (0 < mark_at (explored X) (first_pair X)) × Says (Fair X)
  unfolding alone
  starts =
      let z = or_false (marked (explored X).marks (first_kept X)) (not (bool (Fair X))) joint in
      let k = not_marked (explored X).marks (first_kept X) z.0 in
      (⊎_elim (λ p. p) (λ p. absurd (omega arith)) (explored_inv X F H).home, says (Fair X) (T_true (not-false (bool (Fair X)) z.1)))

  pub targets-length : length (final_targets (explored X)) ≡ 8192
  unfolding final_targets
  targets-length = length-map (explored X).targets (redirected (explored X).marks) ∙ (explored_inv X F H).shaped.sized.targets

  pub target_at_lem : (i r : ℕ) → i < 4096 → r < 2 → get_or (final_targets (explored X)) (index i r) 0 ≡ redirected (explored X).marks (target_at (explored X) i r)
  unfolding final_targets
  target_at_lem i r b c =
      map_at (redirected (explored X).marks) (explored X).targets (index i r) (omega (arith, (explored_inv X F H).shaped.sized.targets))

  abbrev pub marks : List ℕ
  marks = final_marks (first_pair X) (final_targets (explored X)) (explored X).marks

  abbrev pub left : Graph
  left = graph_of marks (final_targets (explored X)) (explored X).sets

  pub final : Final (explored X).marks (final_targets (explored X)) (first_pair X) marks
  final =
      final_marks_lem (explored X).marks (final_targets (explored X)) (first_pair X) (explored_inv X F H).shaped.sized.marks targets-length (omega arith) starts.0

  -- a target of a pair that is there, by a row that can be taken
  module _ (i r : ℕ) (b : i < 4096) (p : mark left i ≢ 0) (c : r < 2) (a : can_be_taken (rows_of X.new i) r ≡ true) where
    pub here : 0 < mark_at (explored X) i
    here = (rank-there (explored X).marks marks final.ranks i (omega arith)).1

    pub q_below : (leads_to X.new i r).0 < 64
    q_below = omega (arith, leads-below X F H i 0 r a, H.few_places)

    pub ends : Ends X (explored X).marks i r (target left i r)
    ends = rw (target_at_lem i r b c) (led_ends X (explored X).marks i r (target_at (explored X) i r) ((explored_inv X F H).led i r b here c a))

    pub steps : ((old_of i).0 ≡ X.old.head.alarm → ⊥) → Keeps X (explored X).marks i r (target left i r) ⊎ ToStep X (explored X).marks (explored X).sets i r (target left i r)
    steps n =
        rw (target_at_lem i r b c)
        (step-ends X (explored X).marks i r (target_at (explored X) i r) (explored X).sets
        ((explored_inv X F H).stepped i r b here (nothing_waits X F H i b) n c a tt))

    pub node_two : {t : ℕ} → Keeps X (explored X).marks i r t → mark left t ≡ 2
    node_two k = rw k.0 (final.ranks.node (kept_number (leads_to X.new i r)) (omega arith) (omega (arith, q_below)) k.1)

    pub is-there : {t : ℕ} → ToPair X (explored X).marks i r t → mark left t ≢ 0
    is-there {t} P e = ⊎_elim (λ z. omega arith) (λ z. ⊎_elim (λ y. omega arith) (λ y. omega arith) z) (final.ranks.pair t P.below P.there)

-- a set of pairs that covers what Algorithm 2 leaves has the start pair, unless its new place is left alone
pub start_seen : (X : Compared) → FaultlessChart X.old → FaultlessChart X.new → {g : Buffers} {seen : List ℕ} → g ≡ explored X
    → Covers seen g → alone (heads_of X) g.marks ≡ false → Member seen (first_pair X)
start_seen X F H {seen = seen} e C j =
    (subst (Covers seen) e C).marks (first_pair X) (omega arith)
    (starts X F H (subst (λ (g : Buffers). alone (heads_of X) g.marks ≡ false) e j)).0

-- ---- what a build leaves
module _ (X : Compared) where
  pub recorded-lone : alone (heads_of X) (explored X).marks ≡ true
      → recorded X ≡ record_of (first_kept X) (set (replicate 4160 0) (first_kept X) 2) (replicate 8192 65535) (replicate 4096 0)
  unfolding recorded built finished start_of lone
  recorded-lone e = rw (e, finished, start_of)

  pub recorded_joint : alone (heads_of X) (explored X).marks ≡ false
      → recorded X ≡ record_of (first_pair X) (final_marks (first_pair X) (final_targets (explored X)) (explored X).marks) (final_targets (explored X)) (explored X).sets
  unfolding recorded built finished start_of
  recorded_joint e = rw (e, finished, start_of)
