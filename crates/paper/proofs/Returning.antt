-- What a build leaves, unless the start is the lone kept node, is the difference graph that lines 20 and 21 return.
-- Assumes nothing.
use mathlib.Core.Path.{◌≡◌, refl, sym, ap, subst, ◌∙◌}
use mathlib.Core.Bool.{Bool, true, false}
use mathlib.Core.Logic.{◌⊎◌, inl, inr, ⊎_elim, dite, ◌≢◌}
use mathlib.Core.List.{List}
use Prim.Native.Nat.{ℕ, ◌%◌, ◌≤◌, ◌<◌}
use native.Mathlib.Omega.{arith}
use native.Mathlib.Decide.{ℕ_discrete, dec_lt}
use borrow.Author.Tests.{ltb-true, ltb-false}
use lib.Dec.{ltb}
use lib.ListN.{get_or, get_or-map}
use Rattle.base.proofs.Tests.{T_true, or_false}
use Rattle.chart.specs.declared.places.NewPlace.{NewPlace}
use Rattle.chart.specs.declared.places.OldPlace.{OldPlace}
use Rattle.chart.specs.Places.{kept_number, new_of}
use Rattle.chart.specs.Charts.{size, can_be_taken}
use Rattle.chart.specs.Compared.{Compared, heads_of}
use Rattle.chart.proofs.Words.{Words}
use Rattle.chart.specs.Faultless.{FaultlessChart}
use Rattle.chart.specs.Possible.{stripped}
use Rattle.records.specs.Records.{Record, record_of, mark, target, index}
use Rattle.graph.specs.Buffers.{marked}
use Rattle.chart.proofs.Starts.{first_pair, first_kept}
use Rattle.detector.specs.Turns.{rows_of, leads_to, explored}
use Rattle.condition.specs.Builds.{redirected, final_targets, alone}
use Rattle.graph.proofs.Graphs.{mark_at, target_at, marked_yes, marked_no, is-marked, not_marked}
use Rattle.detector.proofs.Invariant.{Inv, Every, ToKept, ToPair, explored_inv}
use Rattle.marker.proofs.Marks.{rank-there}
use Rattle.condition.proofs.Left.{marks, left, final}
use Rattle.paper.specs.Nodes.{◌is_in◌, ◌is_not_in◌, Pair, pair, Node, aligned, indicator, Edge, edge, number, node_number, pair_of, Numbered, NodeNumbered}
use Rattle.paper.specs.Algorithm2.{State, edges, nodes, indicators, Replaced, Line20, whole}
use Rattle.paper.specs.Returned.{seat, Marked, Targeted, Aimed, IsGraph}
use Rattle.paper.proofs.Members.{not_in, pair_is, number-below}
use Rattle.paper.proofs.Edges as reading
use Rattle.paper.proofs.Seats.{seated, at_pair, one-row, first_or_second}
use Rattle.paper.proofs.Rows.{Reads}
use Rattle.paper.proofs.Searching.{node-below, node_of, node_of_numbered}

-- ---- "At the end a target whose new place is kept becomes that kept node."
record Turned (m : List ℕ) (t : ℕ) : Type 0 where
  is : redirected m t ≡ kept_number (new_of t)
  below : t < 4096
  kept : 0 < get_or m (kept_number (new_of t)) 0

record Stays (m : List ℕ) (t : ℕ) : Type 0 where
  is : redirected m t ≡ t
  free : t < 4096 → get_or m (kept_number (new_of t)) 0 ≡ 0

redirection : (m : List ℕ) (t : ℕ) → Turned m t ⊎ Stays m t
unfolding redirected
redirection m t = go (ltb t 4096) refl (marked m (kept_number (new_of t))) refl
  where
    go : (a : Bool) → ltb t 4096 ≡ a → (b : Bool) → marked m (kept_number (new_of t)) ≡ b → Turned m t ⊎ Stays m t
    go true d true e = inl (record { is = rw (d, e, redirected); below = ltb-true t 4096 d; kept = is-marked m (kept_number (new_of t)) e })
    go true d false e = inr (record { is = rw (d, e, redirected); free = λ l. not_marked m (kept_number (new_of t)) e })
    go false d b e = inr (record { is = rw (d, redirected); free = λ l. absurd (let z = ltb-false t 4096 d in omega arith) })

-- any state that is read in what the build explores, as the end of a run is
module _ (X : Compared) (F : FaultlessChart X.old) (H : FaultlessChart X.new) (wn : Words X.new.table) (last : State) (reads : Reads X last (explored X)) where
  abbrev Y : Compared
  Y = stripped X

  abbrev I : Inv X Every (explored X)
  I = explored_inv X F H

  -- ---- N_l and Δ where the loop has ended
  in_N : (i : ℕ) → i < 4096 → 0 < mark_at (explored X) i → pair_of i is_in last.Nₗ
  in_N i l p = reads.sets.N i l ∙ marked_yes (explored X).marks i p

  N_in : (n : Pair) → n is_in last.Nₗ → Numbered n × (0 < mark_at (explored X) (number n))
  N_in n e =
      let B = reads.sets.N_numbered n e in
      let l = number-below n B in
      (B, is-marked (explored X).marks (number n) (sym (reads.sets.N (number n) l) ∙ ap last.Nₗ (pair_is n B) ∙ e))

  in_Δ : (q : NewPlace) → q.0 < 64 → 0 < mark_at (explored X) (kept_number q) → q is_in last.Δ
  in_Δ q l p = reads.sets.Δ q l ∙ marked_yes (explored X).marks (kept_number q) p

  Δ-in : (q : NewPlace) → q is_in last.Δ → (q.0 < 64) × (0 < mark_at (explored X) (kept_number q))
  Δ-in q e =
      let l = reads.sets.Δ-numbered q e in
      (l, is-marked (explored X).marks (kept_number q) (sym (reads.sets.Δ q l) ∙ e))

  free : (i : ℕ) → i < 4096 → 0 < mark_at (explored X) i → new_of i is_not_in last.Δ
  free i l p = reads.sets.Δ (new_of i) (omega arith) ∙ marked_no (explored X).marks (kept_number (new_of i)) (I.apart i l p)

  module _ (joint : alone (heads_of X) (explored X).marks ≡ false) where
    abbrev pub built-graph : Record
    built-graph = record_of (first_pair X) (marks X F H joint) (final_targets (explored X)) (explored X).sets

    zero_stays : redirected (explored X).marks 0 ≡ 0
    unfolding redirected alone
    zero_stays = let z = or_false (marked (explored X).marks (first_kept X)) _ joint in rw (z.0, redirected)

    target_now : (i r : ℕ) → target (left X F H joint) i r ≡ redirected (explored X).marks (target_at (explored X) i r)
    unfolding final_targets
    target_now i r =
        let f = redirected (explored X).marks in
        subst (λ (d : ℕ). get_or (final_targets (explored X)) (index i r) d ≡ f (target_at (explored X) i r)) zero_stays (get_or-map f (explored X).targets (index i r) 0)

    target_fits : (i r : ℕ) → i < 4096 → r < 2 → (target (left X F H joint) i r < 4160) ⊎ (target (left X F H joint) i r ≡ 65535)
    target_fits i r b c =
        rw (target_now i r)
        (⊎_elim (λ T. inl (omega (arith, T.is))) (λ S. ⊎_elim (λ a. inl (omega (arith, S.is))) (λ a. inr (S.is ∙ a)) (I.aims i r b c)) (redirection (explored X).marks (target_at (explored X) i r)))

    -- ---- where a target that is used leads in the end
    record GoesKept (i r : ℕ) : Type 0 where
      kept : 0 < mark_at (explored X) (kept_number (leads_to X.new i r))
      is : target (left X F H joint) i r ≡ kept_number (leads_to X.new i r)

    record GoesPair (i r : ℕ) : Type 0 where
      not_kept : mark_at (explored X) (kept_number (leads_to X.new i r)) ≡ 0
      is : target (left X F H joint) i r ≡ target_at (explored X) i r
      below : target_at (explored X) i r < 4096
      there : 0 < mark_at (explored X) (target_at (explored X) i r)

    module _ (i k : ℕ) (l : i < 4096) (p : 0 < mark_at (explored X) i) (c : k < 2) (a : can_be_taken (rows_of X.new i) k ≡ true) where
      goes : (target_at (explored X) i k ≡ 65535 → ⊥) → GoesKept i k ⊎ GoesPair i k
      goes u = go (I.led i k l p c a) (redirection (explored X).marks (target_at (explored X) i k))
        where
          t : ℕ
          t = target_at (explored X) i k

          same : t % 64 ≡ (leads_to X.new i k).0 → kept_number (new_of t) ≡ kept_number (leads_to X.new i k)
          same e = omega arith

          go : (t ≡ 65535) ⊎ (ToKept X (explored X).marks i k t ⊎ ToPair X (explored X).marks i k t) → Turned (explored X).marks t ⊎ Stays (explored X).marks t → GoesKept i k ⊎ GoesPair i k
          go (inl e) d = absurd (u e)
          go (inr (inl K)) (inl T) = ⊎_elim (λ e. absurd (omega (arith, T.below))) (λ e. inl (record { kept = K.kept; is = target_now i k ∙ T.is ∙ same e.1 })) K.leads
          go (inr (inl K)) (inr S) =
              ⊎_elim (λ e. inl (record { kept = K.kept; is = target_now i k ∙ S.is ∙ e })) (λ e. absurd (omega (arith, subst (λ (j : ℕ). get_or (explored X).marks j 0 ≡ 0) (same e.1) (S.free e.0), K.kept))) K.leads
          go (inr (inr P)) (inl T) = absurd (omega (arith, T.kept, I.apart t P.below P.there))
          go (inr (inr P)) (inr S) =
              inr
              (record {
                not_kept = subst (λ (j : ℕ). mark_at (explored X) j ≡ 0) (same P.place) (I.apart t P.below P.there);
                is = target_now i k ∙ S.is;
                below = P.below;
                there = P.there;
              })

    -- ---- line 20, from an edge of E_l to a target
    abbrev Kind : Pair → ℕ → Node → Type 0
    Kind n r x = (edge n r x is_in last.Eₗ) ⊎ Replaced last n r x

    -- the edge to y shows that the target of this row is used
    module _ (i r : ℕ) (l : i < 4096) (p : 0 < mark_at (explored X) i) (y : Node) (h : edge (pair_of i) r y is_in last.Eₗ) where
      sound : reading.Sound X last.Δ (edge (pair_of i) r y)
      sound = reads.edges.sound (edge (pair_of i) r y) h

      abbrev k : ℕ
      k = seat X.new (new_of i) r

      at : reading.At X i r k
      at = record { row = sound.row; seated = refl }

      two : k < 2
      two = first_or_second X H wn at

      used : target_at (explored X) i k ≡ 65535 → ⊥
      used e = not_in h (reads.edges.unused i r k l two at (free i l p) e y)

      leads : GoesKept i k ⊎ GoesPair i k
      leads = goes i k l p two (seated X at).can used

      leads-to : (leads_to X.new i k).0 ≡ (leads_to Y.new i r).0
      leads-to = sym (seated X at).same.to_same

      -- to a place of Δ
      kept_target : (q : NewPlace) → q.0 ≡ (leads_to Y.new i r).0 → q is_in last.Δ → target (left X F H joint) i k ≡ kept_number q
      kept_target q e m =
          let z : kept_number (leads_to X.new i k) ≡ kept_number q = omega (arith, leads-to) in
          ⊎_elim (λ K. K.is ∙ z) (λ P. absurd (omega (arith, (Δ-in q m).1, rw z at P.not_kept))) leads

    -- to a pair
    pair-target : (i r : ℕ) → i < 4096 → 0 < mark_at (explored X) i → (m : Pair) → m is_in last.Nₗ → edge (pair_of i) r (aligned m) is_in last.Eₗ
        → target (left X F H joint) i (seat X.new (new_of i) r) ≡ number m
    pair-target i r l p m v h =
        let S = sound i r l p (aligned m) h in
        let M = N_in m v in
        let c = seat X.new (new_of i) r in
        let z : kept_number (new_of (number m)) ≡ kept_number (leads_to X.new i c) = omega (arith, S.onto.0, M.0.new, leads-to i r l p (aligned m) h) in
        ⊎_elim (λ K. absurd (omega (arith, K.kept, subst (λ (j : ℕ). mark_at (explored X) j ≡ 0) z (I.apart (number m) (number-below m M.0) M.1))))
        (λ P. P.is ∙ same P S (reads.edges.aims i c l (two i r l p (aligned m) h) (free i l p) (used i r l p (aligned m) h))) (leads i r l p (aligned m) h)
      where
        -- the edge that is the target's is by the same row
        Same : ℕ → Type 0
        Same c = (r' : ℕ) × reading.At X i r' c × reading.Aims X last.Eₗ i r' (target_at (explored X) i c)

        same : GoesPair i (seat X.new (new_of i) r) → reading.Sound X last.Δ (edge (pair_of i) r (aligned m)) → Same (seat X.new (new_of i) r) → target_at (explored X) i (seat X.new (new_of i) r) ≡ number m
        same P S (r', a, inl K) = absurd (omega (arith, K.is, P.below))
        same P S (r', a, inr T) =
            let U = reads.edges.sound (edge (pair_of i) r' (aligned (pair_of (target_at (explored X) i (seat X.new (new_of i) r))))) T.edge in
            let e : r' ≡ r = one-row X a (at i r l p (aligned m) h) in
            let u = rw e at U.onto in
            let o = ap (λ (x : OldPlace). x.0) (u.1 ∙ sym S.onto.1) in
            omega (arith, o, u.0, S.onto.0)

    -- the target of pair i by the r-th row that is left is the node x
    record Leads (i r : ℕ) (x : Node) : Type 0 where
      row : r < size (edges Y (new_of i))
      succ : NodeNumbered x
      is : target (left X F H joint) i (seat X.new (new_of i) r) ≡ node_number x

    to-target : (i r : ℕ) → i < 4096 → 0 < mark_at (explored X) i → (x : Node) → x is_in nodes last → Kind (pair_of i) r x → Leads i r x
    unfolding nodes
    to-target i r l p (aligned m) v (inl h) = record { row = (sound i r l p (aligned m) h).row; succ = (N_in m v).0; is = pair-target i r l p m v h }
    to-target i r l p (aligned m) v (inr b) = absurd b
    to-target i r l p (indicator q) v (inl h) =
        let S = sound i r l p (indicator q) h in
        record { row = S.row; succ = (Δ-in q v).0; is = kept_target i r l p (indicator q) h q S.onto.0 v }
    to-target i r l p (indicator q) v (inr b) =
        let y = aligned (pair b.1.0 q) in
        let S = sound i r l p y b.1.1 in
        record { row = S.row; succ = (Δ-in q v).0; is = kept_target i r l p y b.1.1 q S.onto.0 v }

    line20_targets : (e : Edge) → Line20 last e → Targeted X.new built-graph e
    line20_targets e L =
        let N = N_in e.pred L.from in
        let z : new_of (number e.pred) ≡ e.pred.new = ap (λ (m : Pair). m.new) (pair_is e.pred N.0) in
        let t =
        to-target (number e.pred) e.row (number-below e.pred N.0) N.1 e.succ L.to (subst (λ (n : Pair). Kind n e.row e.succ) (sym (pair_is e.pred N.0)) L.edge) in
        record {
          pred = N.0;
          there = subst (λ (q : NewPlace). e.row < size (edges Y q)) z t.row;
          succ = t.succ;
          is = subst (λ (q : NewPlace). target (left X F H joint) (number e.pred) (seat X.new q e.row) ≡ node_number e.succ) z t.is;
        }

    -- ---- and from a target to an edge
    module _ (i k : ℕ) (l : i < 4096) (c : k < 2) where
      used_target : target (left X F H joint) i k < 4160 → target_at (explored X) i k ≡ 65535 → ⊥
      used_target b e =
          ⊎_elim (λ T. omega (arith, T.below)) (λ S. omega (arith, target_now i k, S.is)) (redirection (explored X).marks (target_at (explored X) i k))

      module _ (u : target_at (explored X) i k ≡ 65535 → ⊥) where
        there : 0 < mark_at (explored X) i
        there = dite (ℕ_discrete (mark_at (explored X) i) 0) (λ z. absurd (u (I.unused i k l c (inl z)))) (λ z. omega arith)

        -- some edge that leads to a place of Δ
        to-place : (r : ℕ) (y : Node) → edge (pair_of i) r y is_in last.Eₗ → (q : NewPlace) → q.0 ≡ (leads_to Y.new i r).0 → q is_in last.Δ → Kind (pair_of i) r (indicator q)
        to-place r (aligned m) h q e z =
            let f : m ≡ pair m.old q = ap (λ (x : ℕ). pair m.old (record { 0 = x })) ((sound i r l there (aligned m) h).onto.0 ∙ sym e) in
            inr (z, (m.old, subst (λ (n : Pair). edge (pair_of i) r (aligned n) is_in last.Eₗ) f h))
        to-place r (indicator p) h q e z =
            let f : p ≡ q = ap (λ (x : ℕ). record { 0 = x }) ((sound i r l there (indicator p) h).onto.0 ∙ sym e) in
            inl (subst (λ (x : NewPlace). edge (pair_of i) r (indicator x) is_in last.Eₗ) f h)

        -- by the row that the target is of
        module _ (r : ℕ) (a : reading.At X i r k) (aims : reading.Aims X last.Eₗ i r (target_at (explored X) i k)) where
          goes_on : GoesKept i k ⊎ GoesPair i k
          goes_on = goes i k l there c (seated X a).can u

          to-edge : (x : Node) → NodeNumbered x → target (left X F H joint) i k ≡ node_number x → (x is_in nodes last) × Kind (pair_of i) r x
          unfolding nodes
          to-edge (aligned n) B e =
              ⊎_elim (λ K. absurd (omega (arith, K.is, number-below n B)))
              (λ P. let z : pair_of (target_at (explored X) i k) ≡ n = ap pair_of (sym P.is ∙ e) ∙ pair_is n B in (
                subst (λ (m : Pair). m is_in last.Nₗ) z (in_N (target_at (explored X) i k) P.below P.there),
                ⊎_elim (λ K. absurd (omega (arith, K.is, P.below))) (λ T. inl (subst (λ (m : Pair). edge (pair_of i) r (aligned m) is_in last.Eₗ) z T.edge)) aims,
              )) goes_on
          to-edge (indicator q) b e =
              ⊎_elim
              (λ K. let z : q.0 ≡ (leads_to Y.new i r).0 = omega (arith, K.is, (seated X a).same.to_same) in
              let w : kept_number (leads_to X.new i k) ≡ kept_number q = omega (arith, (seated X a).same.to_same) in
              let d = in_Δ q b (rw w at K.kept) in
              (d, ⊎_elim (λ T. to-place r T.succ T.edge q z d) (λ T. to-place r (aligned (pair_of (target_at (explored X) i k))) T.edge q z d) aims))
              (λ P. absurd (omega (arith, P.is, P.below))) goes_on

          -- an edge of line 20
          line20 : (x : Node) → NodeNumbered x → target (left X F H joint) i k ≡ node_number x → Line20 last (edge (pair_of i) r x)
          line20 x B e = let z = to-edge x B e in record { from = in_N i l there; to = z.0; edge = z.1 }

    targets_line20 : (e : Edge) → Targeted X.new built-graph e → Line20 last e
    targets_line20 e T =
        let i = number e.pred in
        let l = number-below e.pred T.pred in
        let a = at_pair X e.pred T.pred e.row T.there in
        let k = seat X.new e.pred.new e.row in
        let c = first_or_second X H wn a in
        let u = used_target i k l c (omega (arith, T.is, node-below e.succ T.succ)) in
        let (r, b, A) = reads.edges.aims i k l c (free i l (there i k l c u)) u in
        subst (λ (n : Pair). Line20 last (edge n e.row e.succ)) (pair_is e.pred T.pred)
        (subst (λ (m : ℕ). Line20 last (edge (pair_of i) m e.succ)) (one-row X b a) (line20 i k l c u r b A e.succ T.succ T.is))

    -- a target is unused, or there is an edge to it
    each-target : (i k : ℕ) → i < 4096 → k < 2 → (target (left X F H joint) i k ≡ 65535) ⊎ Aimed X.new built-graph (whole Y last) i k
    each-target i k l c = ⊎_elim (λ b. inr (by b)) inl (target_fits i k l c)
      where
        by : target (left X F H joint) i k < 4160 → Aimed X.new built-graph (whole Y last) i k
        by b =
            let (B, z) = node_of_numbered (target (left X F H joint) i k) b in
            let u = used_target i k l c b in
            let (r, a, A) = reads.edges.aims i k l c (free i l (there i k l c u)) u in
            record {
              row = r;
              seated = a.seated;
              node = node_of (target (left X F H joint) i k);
              is = z;
              edge = line20 i k l c u r a A (node_of (target (left X F H joint) i k)) B (sym z);
            }

    -- ---- line 21
    module _ (k : ℕ) where
      pub left-mark : mark (left X F H joint) k ≢ 0 → (k < 4160) × (0 < mark_at (explored X) k)
      left-mark n = rank-there (explored X).marks (marks X F H joint) (final X F H joint).ranks k (omega arith)

      pub pair-marks : k < 4096 → 0 < mark_at (explored X) k → (mark (left X F H joint) k ≡ 1) ⊎ ((mark (left X F H joint) k ≡ 3) ⊎ (mark (left X F H joint) k ≡ 4))
      pair-marks l p = (final X F H joint).ranks.pair k l p

    node-mark : (q : NewPlace) → q.0 < 64 → 0 < mark_at (explored X) (kept_number q) → mark (left X F H joint) (kept_number q) ≡ 2
    node-mark q l p = (final X F H joint).ranks.node (kept_number q) (omega arith) (omega arith) p

    not_two : (k : ℕ) → k < 4096 → mark (left X F H joint) k ≡ 2 → ⊥
    not_two k l e = ⊎_elim (λ a. omega arith) (λ a. ⊎_elim (λ b. omega arith) (λ b. omega arith) a) (pair-marks k l (left-mark k (λ z. omega arith)).1)

    pub mark-most : (k : ℕ) → mark (left X F H joint) k ≤ 4
    mark-most k =
        dite (ℕ_discrete (mark (left X F H joint) k) 0) (λ e. omega arith)
        (λ e. let z = left-mark k e in dite (dec_lt k 4096)
        (λ l. ⊎_elim (λ a. omega arith) (λ a. ⊎_elim (λ b. omega arith) (λ b. omega arith) a) (pair-marks k l z.1))
        (λ l. omega (arith, (final X F H joint).ranks.node k (omega arith) z.0 z.1)))

    in_nodes : (x : Node) → x is_in nodes last → Marked built-graph (λ m. m ≢ 0) x
    unfolding nodes
    in_nodes (aligned n) e =
        let N = N_in n e in
        (N.0, λ z. ⊎_elim (λ a. omega arith) (λ a. ⊎_elim (λ b. omega arith) (λ b. omega arith) a) (pair-marks (number n) (number-below n N.0) N.1))
    in_nodes (indicator q) e = let D = Δ-in q e in (D.0, λ z. omega (arith, node-mark q D.0 D.1))

    nodes_in : (x : Node) → Marked built-graph (λ m. m ≢ 0) x → x is_in nodes last
    unfolding nodes
    nodes_in (aligned n) M = subst (λ (m : Pair). m is_in last.Nₗ) (pair_is n M.0) (in_N (number n) (number-below n M.0) (left-mark (number n) M.1).1)
    nodes_in (indicator q) M = in_Δ q M.0 (left-mark (kept_number q) M.1).1

    in_kept : (x : Node) → x is_in indicators last → Marked built-graph (λ m. m ≡ 2) x
    unfolding indicators
    in_kept (aligned n) e = absurd (T_true e)
    in_kept (indicator q) e = let D = Δ-in q e in (D.0, node-mark q D.0 D.1)

    kept_in : (x : Node) → Marked built-graph (λ m. m ≡ 2) x → x is_in indicators last
    unfolding indicators
    kept_in (aligned n) M = absurd (not_two (number n) (number-below n M.0) M.1)
    kept_in (indicator q) M = in_Δ q M.0 (left-mark (kept_number q) (λ z. omega (arith, M.1))).1

    pub whole-graph : IsGraph X.new built-graph (whole Y last) last.Vδ
    unfolding nodes
    whole-graph =
        record {
          start = refl;
          nodes = λ x. (in_nodes x, nodes_in x);
          kept = λ x. (in_kept x, kept_in x);
          edges = λ e. (line20_targets e, targets_line20 e);
          aims = each-target;
          sets = λ n e.
              (let N = N_in n e in
              let l = number-below n N.0 in
              sym (reads.sets.Vδ (number n) l (free (number n) l N.1)) ∙ ap last.Vδ (pair_is n N.0));
          bare = λ n B e.
              (let l = number-below n B in
              I.bare (number n) l (not_marked (explored X).marks (number n) (sym (reads.sets.N (number n) l) ∙ ap last.Nₗ (pair_is n B) ∙ e)));
        }
