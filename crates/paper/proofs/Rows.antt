-- One edge of the pair in hand: what a row of a turn does to the buffers, lines 5 to 18 and PROCESS do to the source's
-- variables. Assumes nothing.
use mathlib.Core.Path.{◌≡◌, refl, sym, ap, ap₂, subst, ◌∙◌}
use mathlib.Core.Bool.{Bool, true, false, or-true}
use mathlib.Core.Logic.{inl, inr, dite}
use Rattle.std.specs.Prelude.{Option, None, Some}
use Prim.Native.Nat.{ℕ, ◌%◌, ◌^◌, ◌<◌}
use native.Mathlib.Omega.{arith}
use native.Mathlib.Decide.{ℕ_discrete}
use Rattle.base.proofs.OnSome.{OnSome, on_at}
use Rattle.operations.specs.Assumptions.{Operands}
use Rattle.chart.specs.declared.places.NewPlace.{NewPlace}
use Rattle.chart.specs.Places.{pair_number, kept_number, old_of, new_of}
use Rattle.chart.specs.Charts.{operation}
use Rattle.chart.specs.Compared.{Compared}
use Rattle.chart.proofs.Words.{Words}
use Rattle.chart.specs.Faultless.{FaultlessChart}
use Rattle.chart.specs.Possible.{stripped}
use Rattle.align.specs.declared.spots.Spot.{Spot}
use Rattle.align.specs.Steps.{moved, step}
use Rattle.chart.proofs.Conflicts.{operands}
use Rattle.chart.proofs.Parts.{row_of, row_same}
use Rattle.chart.proofs.Takable.{takable}
use Rattle.graph.specs.Buffers.{Buffers, marked, keep, aim, join, unwait}
use Rattle.detector.specs.Turns.{rows_of, leads_to, step_of, processed, row_done}
use Rattle.detector.specs.Turns as turns
use Rattle.align.proofs.Steps.{Fits, moved-fits}
use Rattle.graph.proofs.Graphs.{mark_at, Shaped, not_marked, keep-node, keep-nodes, keep-mark, keep-mark_other, keep-shaped, by_aim, join-mark, join-mark_other, join-target, join-shaped}
use Rattle.detector.proofs.Turns.{a-row, leads-below, step_of_fits}
use Rattle.paper.specs.Nodes.{◌is_in◌, ◌is_not_in◌, ◌plus◌, Pair, pair, aligned, indicator, edge, only_place, pair_of}
use Rattle.paper.specs.Lines5to18.{Lines5to18}
use Rattle.paper.specs.Algorithm2.{State, to_place, to_pair, Called}
use Rattle.align.proofs.Successors.{successor, one_successor}
use Rattle.align.proofs.NewTable.{step_same}
use Rattle.paper.proofs.Members.{the_place, pair_is, other_pair}
use Rattle.paper.proofs.Stepping.{step_lines}
use Rattle.paper.proofs.Outcomes.{one_outcome}
use Rattle.paper.proofs.Process.{stepped_to, process_can, process_only}
use Rattle.paper.proofs.Reading.{Sets, keep-sets, kept_sets, join-sets}
use Rattle.paper.proofs.Edges.{Sound, Edges, At, keep-edges, aim-edges, added}
use Rattle.paper.proofs.Seats.{Seated, seated}

-- a store of a target changes nothing else
module _ (g : Buffers) (n r t : ℕ) where
  aim-sets : (s : State) → Sets s g → Sets s (aim g n r t)
  aim-sets s R = by_aim g n r t (Sets s) (λ p. record { N = R.N; N_numbered = R.N_numbered; Δ = R.Δ; Δ-numbered = R.Δ-numbered; waits = R.waits; waits_numbered = R.waits_numbered; Vδ = R.Vδ }) (λ z. R)

  aim-marks : (aim g n r t).marks ≡ g.marks
  aim-marks = by_aim g n r t (λ h. h.marks ≡ g.marks) (λ p. refl) (λ z. refl)

-- lines 5 to 18, for pair n, the set v and row r
abbrev pub came_to : Compared → ℕ → ℕ → ℕ → Option Spot
came_to X n v r = moved X (record { place = old_of n; set = v }) (operation (rows_of X.new n) r)

-- ---- one edge
module _ (X : Compared) where
  pub record Reads (s : State) (g : Buffers) : Type 0 where
    pub sets : Sets s g
    pub edges : Edges X s.Eₗ s.Δ g.targets

-- the pair in hand is in the graph unless its place is kept
pub record InHand (g : Buffers) (n : ℕ) : Type 0 where
  pub there : mark_at g (kept_number (new_of n)) ≡ 0 → 0 < mark_at g n
  pub free : 0 < mark_at g n → mark_at g (kept_number (new_of n)) ≡ 0

-- what holds after an edge of the pair n, taken under the set v: "under the set it had, even if it left the graph"
pub record Row (X : Compared) (n v : ℕ) (s : State) (g : Buffers) : Type 0 where
  pub reads : Reads X s g
  pub hand : InHand g n
  pub held : mark_at g n ≡ 0 → s.Vδ (pair_of n) ≡ v

pub unwait_hand : (g : Buffers) (n : ℕ) → InHand g n → InHand (unwait g n) n
unfolding unwait
unwait_hand g n J = record { there = J.there; free = J.free }

module _ (X : Compared) (F : FaultlessChart X.old) (G : FaultlessChart X.new) where
  abbrev Y : Compared
  Y = stripped X

  -- row r of those that the algorithms are given, which is row k of the pair
  module _ (s : State) (g : Buffers) (n v r k : ℕ) (l : n < 4096) (w : v < 2 ^ 64) (c : k < 2) (a : At X n r k) (S : Shaped g) (R : Reads X s g) (H : InHand g n) (own : s.Vδ (pair_of n) ≡ v) where
    Z : Seated X n r k
    Z = seated X a

    leads-same : leads_to X.new n k ≡ leads_to Y.new n r
    leads-same = ap (λ (x : ℕ). record { 0 = x }) (sym Z.same.to_same)

    q_below : (leads_to Y.new n r).0 < 64
    q_below = omega (arith, Z.same.to_same, leads-below X F G n v k Z.can, G.few_places)

    not_kept : new_of n is_not_in s.Δ → mark_at g (kept_number (new_of n)) ≡ 0
    not_kept e = not_marked g.marks (kept_number (new_of n)) (sym (R.sets.Δ (new_of n) (omega arith)) ∙ e)

    -- lines 23 to 25
    hand_kept : InHand (keep g (leads_to Y.new n r)) n
    hand_kept =
        record {
          there = λ e. (let z = away e in let y = H.there (sym (others z) ∙ e) in omega (arith, keep-mark_other g (leads_to Y.new n r) S.sized q_below n l z));
          free = λ p. (let z : n % 64 ≡ (leads_to Y.new n r).0 → ⊥ = λ h. omega (arith, keep-mark g (leads_to Y.new n r) S.sized q_below n l h) in
              others z ∙ H.free (omega (arith, keep-mark_other g (leads_to Y.new n r) S.sized q_below n l z)));
        }
      where
        away : mark_at (keep g (leads_to Y.new n r)) (kept_number (new_of n)) ≡ 0 → n % 64 ≡ (leads_to Y.new n r).0 → ⊥
        away e h = let y : kept_number (new_of n) ≡ kept_number (leads_to Y.new n r) = omega arith in omega (arith, rw y at e, keep-node g (leads_to Y.new n r) S.sized q_below)

        others : (n % 64 ≡ (leads_to Y.new n r).0 → ⊥) → mark_at (keep g (leads_to Y.new n r)) (kept_number (new_of n)) ≡ mark_at g (kept_number (new_of n))
        others z = keep-nodes g (leads_to Y.new n r) S.sized q_below (kept_number (new_of n)) (omega arith) (omega arith) (λ h. z (omega arith))

    hand_aim : (f : Buffers) (t : ℕ) → InHand f n → InHand (aim f n k t) n
    hand_aim f t J = by_aim f n k t (λ h. InHand h n) (λ p. record { there = J.there; free = J.free }) (λ z. J)

    fails_row : Row X n v (to_place s (pair_of n) r (leads_to Y.new n r)) (aim (keep g (leads_to Y.new n r)) n k (kept_number (leads_to Y.new n r)))
    unfolding to_place
    fails_row =
        let q = leads_to Y.new n r in
        let K = keep-sets X s g (pair_of n) r q S.sized q_below R.sets in
        let there : new_of n is_not_in (s.Δ plus only_place q) → 0 < mark_at (keep g q) n =
        λ e. hand_kept.there (not_marked (keep g q).marks (kept_number (new_of n)) (sym (K.Δ (new_of n) (omega arith)) ∙ e)) in
        let fits : Sound X (s.Δ plus only_place q) (edge (pair_of n) r (indicator q)) = record { row = a.row; onto = (refl, rw (the_place q) (or-true (s.Δ q))) } in
        let K' = (keep-shaped g q S).sized in
        record {
          reads =
              record {
                sets = aim-sets (keep g q) n k (kept_number q) (to_place s (pair_of n) r q) K;
                edges =
                    aim-edges X s.Eₗ (s.Δ plus only_place q) (keep g q) n r k (kept_number q) (indicator q) K' l c a there fits (λ e. omega (arith, q_below))
                    (keep-edges X s.Eₗ s.Δ g q S.sized q_below R.edges)
                    (inl
                    (record {
                      is = refl;
                      succ = indicator q;
                      edge = added X s.Eₗ (s.Δ plus only_place q) (keep g q) n r k (kept_number q) (indicator q) K' l c a there fits (λ e. omega (arith, q_below));
                    }));
              };
          hand = hand_aim (keep g q) (kept_number q) hand_kept;
          held = λ z. own;
        }

    module _ (h : Spot) (came : step_of Y n v r ≡ Some h) where
      place : h.place ≡ successor Y (old_of n) (operation (rows_of Y.new n) r) (leads_to Y.new n r)
      unfolding step_of
      place = on_at _ (one_successor Y (old_of n) v (operation (rows_of Y.new n) r) (leads_to Y.new n r)) came

      kept_row : leads_to Y.new n r is_in s.Δ → Row X n v (to_pair Y s (pair_of n) r (pair h.place (leads_to Y.new n r)) h.set) (aim g n k (kept_number (leads_to Y.new n r)))
      unfolding to_pair
      kept_row m =
          let q = leads_to Y.new n r in
          let x = aligned (pair h.place q) in
          let there : new_of n is_not_in s.Δ → 0 < mark_at g n = λ e. H.there (not_kept e) in
          let fits : Sound X s.Δ (edge (pair_of n) r x) = record { row = a.row; onto = (refl, place) } in
          record {
            reads =
                record {
                  sets = aim-sets g n k (kept_number q) (to_pair Y s (pair_of n) r (pair h.place q) h.set) (kept_sets Y s g (pair_of n) r (pair h.place q) h.set m R.sets);
                  edges =
                      aim-edges X s.Eₗ s.Δ g n r k (kept_number q) x S.sized l c a there fits (λ e. omega (arith, q_below)) R.edges
                      (inl
                      (record {
                        is = refl;
                        succ = x;
                        edge = added X s.Eₗ s.Δ g n r k (kept_number q) x S.sized l c a there fits (λ e. omega (arith, q_below));
                      }));
                };
            hand = hand_aim g (kept_number q) H;
            held = λ z. rw (m, to_pair) own;
          }

      module _ (t : ℕ) (is : t ≡ pair_number h.place (leads_to Y.new n r)) (T : Fits 64 h) (f : leads_to Y.new n r is_not_in s.Δ) where
        below : t < 4096
        below = omega (arith, T.place, q_below)

        new-place : new_of t ≡ leads_to Y.new n r
        new-place = ap (λ (y : ℕ). record { 0 = y }) (omega (arith, q_below))

        free : new_of t is_not_in s.Δ
        free = ap s.Δ new-place ∙ f

        abbrev j : Buffers
        j = join X.old.head.alarm g t h.set

        hand_joined : InHand j n
        hand_joined =
            record {
              there = λ e. dite (ℕ_discrete n t) (λ z. rw z (omega (arith, join-mark X.old.head.alarm g t h.set S.sized below)))
                  (λ z. omega (arith, join-mark_other X.old.head.alarm g t h.set S.sized below n z, H.there (sym others ∙ e)));
              free = λ p. others
                  ∙ dite (ℕ_discrete n t) (λ z. rw z (not_marked g.marks (kept_number (new_of t)) (sym (R.sets.Δ (new_of t) (omega arith)) ∙ free)))
                  (λ z. H.free (omega (arith, join-mark_other X.old.head.alarm g t h.set S.sized below n z)));
            }
          where
            others : mark_at j (kept_number (new_of n)) ≡ mark_at g (kept_number (new_of n))
            others = join-mark_other X.old.head.alarm g t h.set S.sized below (kept_number (new_of n)) (λ e. omega (arith, below))

        joins-row : Row X n v (to_pair Y s (pair_of n) r (pair_of t) h.set) (aim j n k t)
        unfolding to_pair
        joins-row =
            let x = aligned (pair_of t) in
            let there : new_of n is_not_in s.Δ → 0 < mark_at j n = λ e. hand_joined.there (join-mark_other X.old.head.alarm g t h.set S.sized below (kept_number (new_of n)) (λ z. omega (arith, below)) ∙ not_kept e) in
            let fits : Sound X s.Δ (edge (pair_of n) r x) =
            record { row = a.row; onto = (omega (arith, q_below), ap (λ (y : ℕ). record { 0 = y }) (omega (arith, q_below)) ∙ place) } in
            let J = (join-shaped X.old.head.alarm g t h.set T.set S).sized in
            let E : Edges X s.Eₗ s.Δ j.targets = rw (join-target X.old.head.alarm g t h.set) R.edges in
            record {
              reads =
                  record {
                    sets = aim-sets j n k t (to_pair Y s (pair_of n) r (pair_of t) h.set) (join-sets Y s g (pair_of n) r t h.set S.sized below free R.sets);
                    edges =
                        aim-edges X s.Eₗ s.Δ j n r k t x J l c a there fits (λ e. omega (arith, below)) E
                        (inr (record { below = below; edge = added X s.Eₗ s.Δ j n r k t x J l c a there fits (λ e. omega (arith, below)) }));
                  };
              hand = hand_aim j t hand_joined;
              held = λ z. (let y : n ≡ t → ⊥ = λ e. omega (arith, rw (aim-marks j n k t) at z, join-mark-same e) in
                  rw (free, other_pair t n y, to_pair) own);
            }
          where
            join-mark-same : n ≡ t → mark_at j n ≡ 1
            join-mark-same e = rw e (join-mark X.old.head.alarm g t h.set S.sized below)

    some-row : (h : Spot) → step_of Y n v r ≡ Some h → Fits 64 h → (b : Bool) → marked g.marks (kept_number (leads_to Y.new n r)) ≡ b
        → Row X n v (to_pair Y s (pair_of n) r (pair h.place (leads_to Y.new n r)) h.set)
        (elim b as (λ _. Buffers) [
          | true ↦ aim g n k (kept_number (leads_to Y.new n r))
          | false ↦ aim (join X.old.head.alarm g (pair_number h.place (leads_to Y.new n r)) h.set) n k (pair_number h.place (leads_to Y.new n r))
        ])
    some-row h e T true b = kept_row h e (R.sets.Δ (leads_to Y.new n r) q_below ∙ b)
    some-row h e T false b =
        let t = pair_number h.place (leads_to Y.new n r) in
        subst (λ (m : Pair). Row X n v (to_pair Y s (pair_of n) r m h.set) (aim (join X.old.head.alarm g t h.set) n k t))
        (pair_is (pair h.place (leads_to Y.new n r)) (record { old = T.place; new = q_below }))
        (joins-row h e t refl T (R.sets.Δ (leads_to Y.new n r) q_below ∙ b))

    -- the step is the one that the algorithms make: it does not look at the new table
    step_is : step_of X n v k ≡ step_of Y n v r
    unfolding step_of
    step_is =
        step_same X.edition X.old X.new.head X.new.table Y.new.table _ (operation (rows_of X.new n) k) (leads_to X.new n k)
        ∙ ap₂ (step Y (record { place = old_of n; set = v })) (sym Z.same.operation-same) leads-same

    row_done_lem : row_done X g n v k ≡ processed X.old.head.alarm g n k (leads_to Y.new n r) (step_of Y n v r)
    row_done_lem =
        a-row X g n v k Z.can step_is
        ∙ ap (λ (q : NewPlace). processed X.old.head.alarm g n k q (step_of Y n v r)) leads-same

    edge_done : (o : Option Spot) → step_of Y n v r ≡ o → Row X n v (stepped_to Y s (pair_of n) r o) (processed X.old.head.alarm g n k (leads_to Y.new n r) o)
    unfolding processed turns.arrived stepped_to
    edge_done None e = fails_row
    edge_done (Some h) e =
        some-row h e (step_of_fits X F G n v k Z.can 64 F.few_places (omega arith) w h (step_is ∙ e)) (marked g.marks (kept_number (leads_to Y.new n r))) refl

    row_read : Row X n v (stepped_to Y s (pair_of n) r (step_of Y n v r)) (row_done X g n v k)
    row_read = subst (λ (f : Buffers). Row X n v (stepped_to Y s (pair_of n) r (step_of Y n v r)) f) (sym row_done_lem) (edge_done (step_of Y n v r) refl)

    module _ (wo : Words X.old.table) (wn : Words X.new.table) where
      fits : Operands (operation (rows_of Y.new n) r)
      fits =
          let (i, b) = row_of X.new.table (n % 64) k (takable (rows_of X.new n) k Z.can).0 in
          subst Operands (sym (Z.same.operation-same ∙ (row_same X.new.table (n % 64) b).operation-same)) (operands X.new G wn.small i b.inside)

      came_fits : OnSome (Fits 64) (came_to Y n v r)
      came_fits = moved-fits Y F 64 F.few_places _ (operation (rows_of Y.new n) r) fits.a (record { place = omega arith; set = w })

      -- lines 5 to 18 can come to what the step comes to
      pub stepped : Lines5to18 Y (old_of n) (s.Vδ (pair_of n)) (operation (rows_of Y.new n) r) (came_to Y n v r)
      stepped =
          subst (λ (u : ℕ). Lines5to18 Y (old_of n) u (operation (rows_of Y.new n) r) (came_to Y n v r)) (sym own)
          (step_lines Y F wo (old_of n) v (operation (rows_of Y.new n) r) (omega arith) w fits)

      -- and PROCESS to its state
      pub processed-to : Called Y s (pair_of n) r (came_to Y n v r) (stepped_to Y s (pair_of n) r (step_of Y n v r))
      unfolding step_of step
      processed-to = process_can Y F wo s (pair_of n) r (came_to Y n v r) came_fits

      -- and to nothing else: whatever they come to, the row is read
      pub any_read : (o : Option Spot) → Lines5to18 Y (old_of n) (s.Vδ (pair_of n)) (operation (rows_of Y.new n) r) o
          → (t : State) → Called Y s (pair_of n) r o t → Row X n v t (row_done X g n v k)
      unfolding step_of step
      any_read o L t P =
          let e = one_outcome Y F wo (old_of n) v (omega arith) w (operation (rows_of Y.new n) r) fits
          (subst (λ (u : ℕ). Lines5to18 Y (old_of n) u (operation (rows_of Y.new n) r) o) own L) in
          let P' = subst (λ (x : Option Spot). Called Y s (pair_of n) r x t) e P in
          subst (λ (f : State). Row X n v f (row_done X g n v k)) (sym (process_only Y F wo s (pair_of n) r (came_to Y n v r) came_fits P')) row_read
