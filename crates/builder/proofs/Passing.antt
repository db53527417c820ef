-- Demand 3, second half: the check passes what a build leaves. Assumes nothing.
use mathlib.Core.Path.{◌≡◌, refl, sym, subst, ◌∙◌}
use mathlib.Core.Bool.{Bool, true, false}
use mathlib.Core.Logic.{◌≢◌, ◌⊎◌, inl, inr, ⊎_elim, dite}
use mathlib.Core.List.{List}
use Rattle.std.specs.Prelude.{Option, None}
use Prim.Native.Nat.{ℕ, ◌/◌, ◌%◌, ◌≤◌, ◌<◌}
use native.Mathlib.Omega.{arith}
use native.Mathlib.Decide.{ℕ_discrete, dec_lt}
use lib.Dec.{T}
use lib.ListN.{length, get_or, set, replicate, length-set, length-replicate}
use Rattle.base.specs.Says.{Says}
use Rattle.base.proofs.Ones.{one-there, one_only}
use Rattle.base.proofs.Says.{said}
use Rattle.base.proofs.Tests.{T_true}
use Rattle.base.proofs.Walks.{same_at}
use Rattle.chart.specs.Charts.{operation, can_be_taken}
use Rattle.chart.specs.Compared.{Compared, edition_named, heads_of}
use Rattle.chart.specs.Faultless.{FaultlessChart}
use Rattle.chart.specs.Places.{kept_number, old_of, new_of}
use Rattle.align.specs.declared.spots.Spot.{Spot}
use Rattle.align.specs.Steps.{step}
use Rattle.records.specs.Records.{Graph, record_of, graph_of, mark, index, target}
use Rattle.checker.specs.Rules.{mark_fits, target_fits, marks_fit, targets_fit, shaped, start_fits, keeps, joins, joins_step, rests_at, ranked, leads, row_fits, spot}
use Rattle.checker.specs.Checks.{refusal}
use Rattle.chart.proofs.Starts.{first_pair, first_kept}
use Rattle.detector.specs.Turns.{rows_of, leads_to, step_of, explored}
use Rattle.condition.specs.Builds.{redirected, final_targets, alone, recorded}
use Rattle.graph.proofs.Graphs.{target_at}
use Rattle.detector.proofs.Invariant.{ToStep, explored_inv}
use Rattle.marker.proofs.Marks.{rank-there, Final}
use Rattle.condition.proofs.Left.{far, to-kept, not_kept, Keeps, Ends, starts, targets-length, target_at_lem, marks as left_marks, left as left_graph, final as left_final, here, ends, steps, node_two, is-there, recorded-lone, recorded_joint}
use Rattle.checker.proofs.Passes.{Rules, passes}

-- ---- a build whose start is the start pair
module _ (X : Compared) (F : FaultlessChart X.old) (H : FaultlessChart X.new) (joint : alone (heads_of X) (explored X).marks ≡ false) where
  abbrev marks : List ℕ
  marks = left_marks X F H joint

  abbrev left : Graph
  left = left_graph X F H joint

  final : Final (explored X).marks (final_targets (explored X)) (first_pair X) marks
  final = left_final X F H joint

  -- a target of a pair that is there, by a row that can be taken
  module _ (i r : ℕ) (b : i < 4096) (p : mark left i ≢ 0) (c : r < 2) (a : can_be_taken (rows_of X.new i) r ≡ true) where
    keeps_said : {t : ℕ} → Keeps X (explored X).marks i r t → Says (keeps marks (leads_to X.new i r) t)
    unfolding keeps
    keeps_said k = (k.0, node_two X F H joint i r b p c a k)

    rests_said : {t : ℕ} → Ends X (explored X).marks i r t → Says (rests_at marks (leads_to X.new i r) t)
    unfolding rests_at
    rests_said (inl e) = inl e
    rests_said (inr (inl k)) = inr (inl (keeps_said k))
    rests_said (inr (inr P)) = inr (inr (P.below, (P.place, is-there X F H joint i r b p c a P)))

    joins_said : {t : ℕ} → ToStep X (explored X).marks (explored X).sets i r t
        → T (joins_step marks (explored X).sets (leads_to X.new i r) t (step X (spot left i) (operation (rows_of X.new i) r) (leads_to X.new i r)))
    unfolding joins_step joins step_of
    joins_said {t} S =
        subst (λ (o : Option Spot). T (joins_step marks (explored X).sets (leads_to X.new i r) t o)) (sym S.step)
        (said (joins marks (explored X).sets (leads_to X.new i r) t S.spot) (S.is, (is-there X F H joint i r b p c a S.pair, T_true S.holds)))

    leads_said : Says (leads X left i (operation (rows_of X.new i) r) (leads_to X.new i r) (target left i r))
    unfolding leads
    leads_said =
        dite (ℕ_discrete (old_of i).0 X.old.head.alarm) (λ e. inl (e, rests_said (ends X F H joint i r b p c a)))
        (λ n. inr (n, ⊎_elim (λ k. inl (keeps_said k)) (λ S. inr (joins_said S)) (steps X F H joint i r b p c a n)))

    -- a kept node, from an open pair; a pair, from an open one or from one beyond
    ranked_said : Says (ranked marks i (target left i r))
    unfolding ranked
    ranked_said = go (ends X F H joint i r b p c a)
      where
        from_open : mark left i ≡ 1 → mark left (target left i r) ≡ 4 → ⊥
        from_open e = final.from_open i r b e c

        from_beyond : mark left i ≢ 1 → (mark left (target left i r) ≡ 1 → ⊥) × (mark left (target left i r) ≡ 2 → ⊥)
        from_beyond n = final.from_beyond i r b (⊎_elim (λ e. absurd (n e)) (λ e. e) (final.ranks.pair i b (here X F H joint i r b p c a))) c

        go : Ends X (explored X).marks i r (target left i r)
            → (target left i r ≡ 65535) ⊎ (((mark left i ≡ 1) × ((1 ≤ mark left (target left i r)) × (mark left (target left i r) ≤ 3))) ⊎ ((mark left i ≢ 1) × ((3 ≤ mark left (target left i r)) × (mark left (target left i r) ≤ 4))))
        go (inl e) = inl e
        go (inr (inl k)) =
            let z = node_two X F H joint i r b p c a k in
            dite (ℕ_discrete (mark left i) 1) (λ e. inr (inl (e, (omega arith, omega arith)))) (λ n. absurd ((from_beyond n).1 z))
        go (inr (inr P)) =
            let z = final.ranks.pair (target left i r) P.below P.there in
            dite (ℕ_discrete (mark left i) 1)
            (λ e. let w = from_open e in inr (inl (e, (⊎_elim (λ y. omega arith) (λ y. ⊎_elim (λ x. omega arith) (λ x. omega arith) y) z, ⊎_elim (λ y. omega arith) (λ y. ⊎_elim (λ x. omega arith) (λ x. absurd (w x)) y) z))))
            (λ n. let w = from_beyond n in inr (inr (n, (⊎_elim (λ y. absurd (w.0 y)) (λ y. ⊎_elim (λ x. omega arith) (λ x. omega arith) y) z, ⊎_elim (λ y. omega arith) (λ y. ⊎_elim (λ x. omega arith) (λ x. omega arith) y) z))))

  rules : Rules X left
  unfolding row_fits
  rules i r b p c a = (leads_said i r b p c a, ranked_said i r b p c a)

  -- ---- 31
  mark_said : (n : ℕ) → n < 4160 → Says (mark_fits (heads_of X) n (mark left n))
  mark_said n b =
      dite (ℕ_discrete (mark left n) 0) (λ e. inl e)
      (λ e. let t = rank-there (explored X).marks marks final.ranks n (omega arith) in
      dite (dec_lt n 4096)
      (λ l. let r = (explored_inv X F H).real n l t.1 in inr (r.1, inl (l, (r.0, final.ranks.pair n l t.1))))
      (λ l. inr ((explored_inv X F H).real_kept n (omega arith) b t.1, inr (omega arith, final.ranks.node n (omega arith) b t.1))))

  target_said : (j : ℕ) → j < 8192 → Says (target_fits (get_or (final_targets (explored X)) j 0))
  target_said j b =
      let e : index (j / 2) (j % 2) ≡ j = omega arith in
      subst (λ (k : ℕ). Says (target_fits (get_or (final_targets (explored X)) k 0))) e
      (rw (target_at_lem X F H joint (j / 2) (j % 2) (omega arith) (omega arith)) (go (target_at (explored X) (j / 2) (j % 2)) ((explored_inv X F H).aims (j / 2) (j % 2) (omega arith) (omega arith))))
    where
      go : (t : ℕ) → (t < 4160) ⊎ (t ≡ 65535) → Says (target_fits (redirected (explored X).marks t))
      go t d =
          dite (dec_lt t 4096)
          (λ l. inl (dite (ℕ_discrete (get_or (explored X).marks (kept_number (new_of t)) 0) 0) (λ z. omega (arith, not_kept (explored X).marks t l z)) (λ z. omega (arith, to-kept (explored X).marks t l (omega arith)))))
          (λ l. rw (far (explored X).marks t (omega arith)) d)

  joint_passes : edition_named X.edition ≡ true → refusal X (record_of (first_pair X) marks (final_targets (explored X)) (explored X).sets) ≡ None
  unfolding shaped marks_fit targets_fit start_fits
  joint_passes n =
      passes X (record_of (first_pair X) marks (final_targets (explored X)) (explored X).sets)
      (final.ranks.long, (targets-length X F H joint, (explored_inv X F H).shaped.sized.sets)) F H n
      (inl refl, (mark_said, target_said)) (inl (refl, (final.start, (starts X F H joint).1))) rules

-- ---- a build that leaves the lone kept start
module _ (X : Compared) (F : FaultlessChart X.old) (H : FaultlessChart X.new) where
  abbrev single : Graph
  single = graph_of (set (replicate 4160 0) (first_kept X) 2) (replicate 8192 65535) (replicate 4096 0)

  only_kept : (n : ℕ) → mark single n ≢ 0 → n ≡ first_kept X
  only_kept n p = one_only 4160 (first_kept X) 2 n (omega arith)

  single_mark : (n : ℕ) → n < 4160 → Says (mark_fits (heads_of X) n (mark single n))
  single_mark n b =
      dite (ℕ_discrete (mark single n) 0) (λ e. inl e)
      (λ e. let z = only_kept n e in inr (omega (arith, H.some_places), inr (omega arith, rw z (one-there 4160 (first_kept X) 2 (omega arith)))))

  single_length : length single.marks ≡ 4160
  single_length = let zeros : List ℕ = replicate 4160 0 in length-set zeros (first_kept X) 2 ∙ length-replicate {A = ℕ} 4160 0

  single_passes : edition_named X.edition ≡ true → refusal X (record_of (first_kept X) (set (replicate 4160 0) (first_kept X) 2) (replicate 8192 65535) (replicate 4096 0)) ≡ None
  unfolding shaped marks_fit targets_fit start_fits
  single_passes n =
      passes X (record_of (first_kept X) (set (replicate 4160 0) (first_kept X) 2) (replicate 8192 65535) (replicate 4096 0))
      (single_length, (length-replicate {A = ℕ} 8192 65535, length-replicate {A = ℕ} 4096 0)) F H n
      (inr refl, (single_mark, λ j b. inr (same_at 8192 65535 j b)))
      (inr (refl, one-there 4160 (first_kept X) 2 (omega arith)))
      (λ m k b p c a. absurd (let z = only_kept m p in omega arith))

-- for any two faultless charts no refusal of the check is due for what a build leaves
pub record_passes : (X : Compared) → FaultlessChart X.old → FaultlessChart X.new → edition_named X.edition ≡ true → refusal X (recorded X) ≡ None
record_passes X F H n = go (alone (heads_of X) (explored X).marks) refl
  where
    go : (b : Bool) → alone (heads_of X) (explored X).marks ≡ b → refusal X (recorded X) ≡ None
    go true e = rw (recorded-lone X e) (single_passes X F H n)
    go false e = rw (recorded_joint X e) (joint_passes X F H e n)
