-- Lines 5 to 18 of Algorithm 2 have one outcome for a faultless chart of u32 entries, the aligned step's. Assumes nothing.
use mathlib.Core.Path.{◌≡◌, refl, sym, ap, ap₂, subst, ◌∙◌}
use mathlib.Core.Bool.{Bool, true, false, ◌||◌, not}
use mathlib.Core.Logic.{◌⊎◌, inl, inr, ⊎_elim}
use Rattle.std.specs.Prelude.{Option, None, Some}
use Prim.Native.Nat.{ℕ, suc, ◌-◌, ◌^◌, ◌<◌}
use native.Mathlib.Omega.{arith}
use borrow.Author.Tests.{eqb-true, eqb-false}
use Rattle.base.specs.Options.{when}
use Rattle.base.proofs.Tests.{T_true}
use Rattle.operations.specs.declared.Operation.{Operation}
use Rattle.operations.specs.Assumptions.{Operands}
use Rattle.operations.specs.Operations.{same}
use Rattle.chart.specs.declared.places.OldPlace.{OldPlace}
use Rattle.chart.specs.Charts.{operation}
use Rattle.chart.specs.Compared.{Compared}
use Rattle.chart.proofs.Words.{Words}
use Rattle.chart.specs.Faultless.{FaultlessChart}
use Rattle.align.specs.declared.spots.Spot.{Spot}
use Rattle.sets.specs.Sets.{alone, with, without, meets}
use Rattle.align.specs.Reads.{read_set}
use Rattle.align.specs.Steps.{find, old_to, matching, matched, rewritten, rows_at, at_alarm, writing_row, unequal, assigned, onward, follow, followed, counterpart, assumed, moved}
use Rattle.sets.proofs.Sets.{In, alone-here, alone_only, with-here, with-old, with_only, meet_some, meet_none, alone-small, with-small}
use Rattle.align.proofs.Onto.{same→eq}
use Rattle.align.proofs.Moves.{follow-ends, follow_twice, follow_on, moved-assigned, moved_twice, moved_assumed}
use Rattle.paper.specs.Nodes.{SetOf, ◌is_in◌, ◌is_not_in◌, ◌plus◌}
use Rattle.paper.specs.Lines5to18.{IsWith, only_old, InG, Line13, Loop, line12, line14, Lines5and6, Lines11to14, Line15, Line16, Lines5to18, NoEqual, Footnote6, line7, line8, line10, footnote6, line16, line17, line18, line13_cut}
use Rattle.paper.proofs.Members.{in_either, in_first, in_second, not_in, in_or_not}
use Rattle.paper.proofs.Stepping.{same_self, only_old-is, unmet, unmet_less, unmet_few, row-edge, no_edge, an_edge, writing-edge, no_writing, edge_operands, no_match, a_match}
use Rattle.paper.proofs.Single.{at, with-is, without_is, does_meet, does_not, one-assignment, one_match, onward-is, onward-none}

module _ (X : Compared) (F : FaultlessChart X.old) (words : Words X.old.table) where
  -- ---- lines 12 to 14: any walk is the one that the step follows
  module _ (ℓ₁ : OldPlace) (Vδ : ℕ) (l : ℓ₁.0 < 64) (b : Vδ < 2 ^ 64) where
    -- a place where the loop has been goes on, to another one or to where it is
    record GoesOn (been : SetOf OldPlace) (ℓₚ q : OldPlace) : Type 0 where
      op : Operation
      succ : OldPlace
      line : Line13 X q op succ
      within : succ is_in (been plus only_old ℓₚ)

    -- it has come to a place twice
    record Twice (been : SetOf OldPlace) (ℓₚ : OldPlace) : Type 0 where
      again : ℓₚ is_in been
      fails : followed X (at ℓ₁ Vδ) ≡ None

    -- or it has not, and what is left of the walk is the step's
    record Once (been : SetOf OldPlace) (ℓₚ : OldPlace) (Vdiff : ℕ) : Type 0 where
      first : ℓₚ is_not_in been
      left : ℕ
      met : ℕ
      rest : followed X (at ℓ₁ Vδ) ≡ follow X left met (at ℓₚ Vdiff)
      small : met < 2 ^ 64
      has : (i : ℕ) → In i met → record { 0 = i } is_in (been plus only_old ℓₚ)
      had : (q : OldPlace) → q is_in (been plus only_old ℓₚ) → In q.0 met
      enough : unmet met < left

    pub record Looped (been : SetOf OldPlace) (ℓₚ : OldPlace) (Vdiff : ℕ) : Type 0 where
      below : ℓₚ.0 < 64
      small : Vdiff < 2 ^ 64
      on : (q : OldPlace) → q is_in been → GoesOn been ℓₚ q
      walked : Twice been ℓₚ ⊎ Once been ℓₚ Vdiff

    only_is : (p q : OldPlace) → q is_in only_old p → p ≡ q
    unfolding only_old
    only_is p q e = ap (λ (x : ℕ). record { 0 = x }) (eqb-true p.0 q.0 e)

    begins : Looped (λ q. false) ℓ₁ Vδ
    unfolding followed
    begins =
        record {
          below = l;
          small = b;
          on = λ q e. absurd (T_true e);
          walked =
              inr
              (record {
                first = refl;
                left = 64;
                met = alone ℓ₁.0;
                rest = refl;
                small = alone-small ℓ₁.0 l;
                has = λ i k. only_old-is ℓ₁ i (alone_only i ℓ₁.0 k);
                had = λ q e. subst (λ (p : OldPlace). In p.0 (alone ℓ₁.0)) (only_is ℓ₁ q e) (alone-here ℓ₁.0);
                enough = unmet_few ℓ₁.0 l;
              });
        }

    -- one turn more
    module _ (been : SetOf OldPlace) (ℓₚ ℓₛ : OldPlace) (Vdiff Vdiff' : ℕ) (opₐ : Operation) (A : Looped been ℓₚ Vdiff) (M : Line13 X ℓₚ opₐ ℓₛ)
        (W : IsWith Vdiff opₐ.a Vdiff') where
      abbrev more : SetOf OldPlace
      more = been plus only_old ℓₚ

      gains : Vdiff' ≡ with Vdiff opₐ.a
      gains = with-is Vdiff opₐ.a Vdiff' W

      next-below : ℓₛ.0 < 64
      next-below = omega (arith, (F.rows M.edge.row M.edge.there).to_below, F.few_places, M.edge.to)

      goes : onward X (at ℓₚ Vdiff) ≡ Some (at ℓₛ Vdiff')
      goes = onward-is X F words ℓₚ Vdiff opₐ ℓₛ M ∙ ap (λ (s : ℕ). Some (at ℓₛ s)) (sym gains)

      -- where the loop has been, one goes on
      goes_on : (q : OldPlace) → q is_in more → GoesOn more ℓₛ q
      goes_on q e =
          ⊎_elim
          (λ h. let G = A.on q h in record { op = G.op; succ = G.succ; line = G.line; within = in_first (more G.succ) _ G.within })
          (λ h. record {
            op = opₐ;
            succ = ℓₛ;
            line = subst (λ (p : OldPlace). Line13 X p opₐ ℓₛ) (only_is ℓₚ q h) M;
            within = in_second (more ℓₛ) _ (only_old-is ℓₛ ℓₛ.0 refl);
          })
          (in_either (been q) _ e)

      -- the place is not new: the step fails
      stops : ℓₛ is_in more → followed X (at ℓ₁ Vδ) ≡ None
      stops e = ⊎_elim (λ T. T.fails) (λ O. twice O) A.walked
        where
          twice : Once been ℓₚ Vdiff → followed X (at ℓ₁ Vδ) ≡ None
          twice O =
              let z : O.left ≡ suc (O.left - 1) = omega (arith, O.enough) in
              let t = ⊎_elim (λ y. y) (λ y. absurd (meet_none O.met (alone ℓₛ.0) ℓₛ.0 y (O.had ℓₛ e) (alone-here ℓₛ.0))) (in_or_not (meets O.met (alone ℓₛ.0))) in
              O.rest ∙ ap (λ (k : ℕ). follow X k O.met (at ℓₚ Vdiff)) z ∙ sym (follow_twice X (O.left - 1) O.met (at ℓₚ Vdiff) (at ℓₛ Vdiff') refl goes t)

      -- it is new: the walk goes on
      walks : ℓₛ is_not_in more → Once more ℓₛ Vdiff'
      walks e = ⊎_elim (λ T. absurd (back T)) (λ O. once O) A.walked
        where
          back : Twice been ℓₚ → ⊥
          back T =
              let G = A.on ℓₚ T.again in
              not_in (subst (λ (p : OldPlace). p is_in more) (one-assignment X F words G.line.edge M.edge G.line.assignment).1 G.within) e

          once : Once been ℓₚ Vdiff → Once more ℓₛ Vdiff'
          once O =
              let z : O.left ≡ suc (O.left - 1) = omega (arith, O.enough) in
              let unmet : In ℓₛ.0 O.met → ⊥ = λ i. not_in (O.has ℓₛ.0 i) e in
              let t = ⊎_elim (λ y. absurd (let r = meet_some O.met (alone ℓₛ.0) O.small y in unmet (subst (λ (i : ℕ). In i O.met) (alone_only r.0 ℓₛ.0 r.3) r.2))) (λ y. y)
              (in_or_not (meets O.met (alone ℓₛ.0))) in
              record {
                first = e;
                left = O.left - 1;
                met = with O.met ℓₛ.0;
                rest = O.rest ∙ ap (λ (k : ℕ). follow X k O.met (at ℓₚ Vdiff)) z ∙ follow_on X (O.left - 1) O.met (at ℓₚ Vdiff) (at ℓₛ Vdiff') refl goes t;
                small = with-small O.met ℓₛ.0 O.small next-below;
                has = λ i k. ⊎_elim (λ y. in_second (more (record { 0 = i })) _ (only_old-is ℓₛ i y)) (λ y. in_first (more (record { 0 = i })) _ (O.has i y)) (with_only i O.met ℓₛ.0 k);
                had = λ q h. ⊎_elim (λ y. with-old q.0 O.met ℓₛ.0 (O.had q y)) (λ y. subst (λ (p : OldPlace). In p.0 (with O.met ℓₛ.0)) (only_is ℓₛ q y) (with-here 0 O.met ℓₛ.0)) (in_either (more q) _ h);
                enough = omega (arith, O.enough, unmet_less O.met ℓₛ.0 next-below unmet);
              }

      turn : Looped more ℓₛ Vdiff'
      turn =
          record {
            below = next-below;
            small = rw gains (with-small Vdiff opₐ.a A.small (edge_operands X F words ℓₚ opₐ ℓₛ M.edge).a);
            on = goes_on;
            walked = ⊎_elim (λ e. inl (record { again = e; fails = stops e })) (λ e. inr (walks e)) (in_or_not (more ℓₛ));
          }

    pub looped : {been : SetOf OldPlace} {ℓₚ : OldPlace} {Vdiff : ℕ} → Loop X ℓ₁ Vδ been ℓₚ Vdiff → Looped been ℓₚ Vdiff
    looped line12 = begins
    looped (line14 {been} {ℓₚ} {ℓₛ} {Vdiff} {Vdiff'} {opₐ} L M W) = turn been ℓₚ ℓₛ Vdiff Vdiff' opₐ (looped L) M W

    -- the loop has ended
    pub ended : {been : SetOf OldPlace} {ℓₚ : OldPlace} {Vdiff : ℕ} → Looped been ℓₚ Vdiff → ((op : Operation) (q : OldPlace) → Line13 X ℓₚ op q → ⊥)
        → followed X (at ℓ₁ Vδ) ≡ Some (at ℓₚ Vdiff)
    ended {been} {ℓₚ} {Vdiff} A n = ⊎_elim (λ T. absurd (let G = A.on ℓₚ T.again in n G.op G.succ G.line)) (λ O. once O) A.walked
      where
        once : Once been ℓₚ Vdiff → followed X (at ℓ₁ Vδ) ≡ Some (at ℓₚ Vdiff)
        once O =
            let z : O.left ≡ suc (O.left - 1) = omega (arith, O.enough) in
            O.rest ∙ ap (λ (k : ℕ). follow X k O.met (at ℓₚ Vdiff)) z ∙ sym (follow-ends X (O.left - 1) O.met (at ℓₚ Vdiff) refl (onward-none X F words ℓₚ Vdiff n))

    cut : {been : SetOf OldPlace} {ℓₚ : OldPlace} {Vdiff : ℕ} → Looped been ℓₚ Vdiff → ℓₚ is_in been → followed X (at ℓ₁ Vδ) ≡ None
    cut A i = ⊎_elim (λ T. T.fails) (λ O. absurd (not_in i O.first)) A.walked

    -- ---- all of them
    module _ (o : Operation) (fits : Operands o) where
      rewrites : (m : Bool) → meets Vδ (read_set o) ≡ m → rewritten Vδ o ≡ (elim m as (λ _. ℕ) [ true ↦ with Vδ o.a | false ↦ without Vδ o.a ])
      unfolding rewritten
      rewrites m e = rw (e, rewritten)

      -- lines 6 to 9: an equal row
      by_equal : (q : OldPlace) (W : ℕ) → Lines5and6 X ℓ₁ Vδ o q → W ≡ rewritten Vδ o → Some (at q W) ≡ moved X (at ℓ₁ Vδ) o
      unfolding assigned
      by_equal q W L e = moved-assigned X (at ℓ₁ Vδ) o L.assignment (go (find (rows_at X ℓ₁) (λ o'. same o' o)) refl)
        where
          go : (x : Option ℕ) → find (rows_at X ℓ₁) (λ o'. same o' o) ≡ x → at q W ≡ assigned X (at ℓ₁ Vδ) o x
          go None f = absurd (T_true (sym (no_edge X ℓ₁ (λ o'. same o' o) f o q L.edge) ∙ same_self o))
          go (Some k) f =
              let r = an_edge X ℓ₁ (λ o'. same o' o) k f in
              ap₂ at (one-assignment X F words L.edge (row-edge X ℓ₁ k r.0) L.assignment).1 e

      -- line 10 and footnote 6: none
      by_none : (h : Spot) → NoEqual X ℓ₁ Vδ o → ((x : Option ℕ) → writing_row X ℓ₁ o.a ≡ x → h ≡ unequal X (at ℓ₁ Vδ) o.a x) → Some h ≡ moved X (at ℓ₁ Vδ) o
      unfolding assigned
      by_none h n e = moved-assigned X (at ℓ₁ Vδ) o n.assignment (go (find (rows_at X ℓ₁) (λ o'. same o' o)) refl)
        where
          go : (x : Option ℕ) → find (rows_at X ℓ₁) (λ o'. same o' o) ≡ x → h ≡ assigned X (at ℓ₁ Vδ) o x
          go None f = e (writing_row X ℓ₁ o.a) refl
          go (Some k) f =
              let r = an_edge X ℓ₁ (λ o'. same o' o) k f in
              absurd
              (n.none (old_to (rows_at X ℓ₁) k)
              (record { assignment = n.assignment; edge = subst (λ (o' : Operation). InG X ℓ₁ o' (old_to (rows_at X ℓ₁) k)) (same→eq (operation (rows_at X ℓ₁) k) o r.1) (row-edge X ℓ₁ k r.0) }))

      -- line 10: and none that writes the same
      by_unwritten : (W : ℕ) → W ≡ with Vδ o.a → ((op : Operation) (q : OldPlace) → Footnote6 X ℓ₁ Vδ o op q → ⊥) → (x : Option ℕ) → writing_row X ℓ₁ o.a ≡ x → at ℓ₁ W ≡ unequal X (at ℓ₁ Vδ) o.a x
      unfolding unequal
      by_unwritten W w n None e = ap (at ℓ₁) w
      by_unwritten W w n (Some k) e = absurd (n (operation (rows_at X ℓ₁) k) (old_to (rows_at X ℓ₁) k) (writing-edge X ℓ₁ Vδ o k e))

      -- footnote 6: one that does
      by_written : (q : OldPlace) (W : ℕ) → W ≡ with Vδ o.a → (op : Operation) → Footnote6 X ℓ₁ Vδ o op q → (x : Option ℕ) → writing_row X ℓ₁ o.a ≡ x → at q W ≡ unequal X (at ℓ₁ Vδ) o.a x
      unfolding unequal
      by_written q W w op N None e = absurd (no_writing X ℓ₁ Vδ o e op q N)
      by_written q W w op N (Some k) e = ap₂ at (one-assignment X F words N.edge (writing-edge X ℓ₁ Vδ o k e).edge N.assignment).1 w

      -- lines 15 to 18, where the loop has ended at ℓ_p with V_diff
      module _ (ℓₚ : OldPlace) (Vdiff : ℕ) (E : Lines11to14 X ℓ₁ Vδ o ℓₚ Vdiff) where
        small : Vdiff < 2 ^ 64
        small = (looped E.loop).small

        on : {x : Option Spot} → x ≡ assumed X (at ℓₚ Vdiff) o (counterpart X ℓₚ o) → x ≡ moved X (at ℓ₁ Vδ) o
        on e = moved_assumed X (at ℓ₁ Vδ) o (at ℓₚ Vdiff) E.assumption refl (ended (looped E.loop) E.ends) e

        matches_at : (k : ℕ) → matching (rows_at X ℓₚ) o ≡ Some k → at_alarm X ℓₚ ≡ false → Line15 X ℓ₁ Vδ o ℓₚ (operation (rows_at X ℓₚ) k) (old_to (rows_at X ℓₚ) k)
        matches_at k e a = a_match X F words ℓ₁ Vδ o fits (at ℓₚ Vdiff) E small k e (eqb-false ℓₚ.0 X.old.head.alarm a)

        -- the row that line 15 finds is the step's
        record Found (op : Operation) (q : OldPlace) : Type 0 where
          row : ℕ
          is : counterpart X ℓₚ o ≡ Some row
          operation : operation (rows_at X ℓₚ) row ≡ op
          to : old_to (rows_at X ℓₚ) row ≡ q

        finds : (op : Operation) (q : OldPlace) → Line15 X ℓ₁ Vδ o ℓₚ op q → Found op q
        unfolding counterpart
        finds op q M = go (at_alarm X ℓₚ) refl (matching (rows_at X ℓₚ) o) refl
          where
            go : (a : Bool) → at_alarm X ℓₚ ≡ a → (x : Option ℕ) → matching (rows_at X ℓₚ) o ≡ x → Found op q
            go true a x e = absurd (M.not_err (eqb-true ℓₚ.0 X.old.head.alarm a))
            go false a None e = absurd (no_match X F words ℓ₁ Vδ o fits (at ℓₚ Vdiff) E small e (eqb-false ℓₚ.0 X.old.head.alarm a) op q M)
            go false a (Some k) e =
                let z = one_match X F words (matches_at k e a) M in
                record { row = k; is = rw (a, e, counterpart); operation = z.0; to = z.1 }

        finds_none : ((op : Operation) (q : OldPlace) → Line15 X ℓ₁ Vδ o ℓₚ op q → ⊥) → counterpart X ℓₚ o ≡ None
        unfolding counterpart
        finds_none n = go (at_alarm X ℓₚ) refl (matching (rows_at X ℓₚ) o) refl
          where
            go : (a : Bool) → at_alarm X ℓₚ ≡ a → (x : Option ℕ) → matching (rows_at X ℓₚ) o ≡ x
                → ◌≡◌ {A = Option ℕ} (elim (at_alarm X ℓₚ) as (λ _. Option ℕ) [ true ↦ None | false ↦ matching (rows_at X ℓₚ) o ]) None
            go true a x e = rw a
            go false a None e = rw (a, e)
            go false a (Some k) e = absurd (n (operation (rows_at X ℓₚ) k) (old_to (rows_at X ℓₚ) k) (matches_at k e a))

        picks : (m : Bool) (h : Spot) → m ≡ true → when (not m) h ≡ None
        picks true h e = refl
        picks false h e = absurd (T_true e)

        picks_on : (m : Bool) (h : Spot) → m ≡ false → when (not m) h ≡ Some h
        picks_on true h e = absurd (T_true (sym e))
        picks_on false h e = refl

        -- line 16
        by_meeting : (op : Operation) (q : OldPlace) → Line15 X ℓ₁ Vδ o ℓₚ op q → Line16 X ℓ₁ Vδ o Vdiff op → None ≡ moved X (at ℓ₁ Vδ) o
        unfolding assumed matched
        by_meeting op q M m =
            let K = finds op q M in
            let s : ℕ → Bool = λ t. meets Vdiff t in
            on (sym (ap (assumed X (at ℓₚ Vdiff) o) K.is
            ∙ picks (s (read_set o) || s (read_set (operation (rows_at X ℓₚ) K.row))) (at (old_to (rows_at X ℓₚ) K.row) Vdiff)
            (⊎_elim (λ h. in_second (s (read_set o)) _ (rw K.operation (does_meet Vdiff (read_set op) h))) (λ h. in_first (s (read_set o)) _ (does_meet Vdiff (read_set o) h)) m)))

        -- line 17
        by_match : (op : Operation) (q : OldPlace) → Line15 X ℓ₁ Vδ o ℓₚ op q → (Line16 X ℓ₁ Vδ o Vdiff op → ⊥) → Some (at q Vdiff) ≡ moved X (at ℓ₁ Vδ) o
        unfolding assumed matched
        by_match op q M n =
            let K = finds op q M in
            let x = does_not Vdiff (read_set o) small (λ h. n (inr h)) in
            let y = does_not Vdiff (read_set op) small (λ h. n (inl h)) in
            on (sym (ap (assumed X (at ℓₚ Vdiff) o) K.is
            ∙ picks_on (meets Vdiff (read_set o) || meets Vdiff (read_set (operation (rows_at X ℓₚ) K.row))) (at (old_to (rows_at X ℓₚ) K.row) Vdiff) (rw (x, K.operation, y))
            ∙ ap (λ (p : OldPlace). Some (at p Vdiff)) K.to))

        -- line 18
        by_no_match : ((op : Operation) (q : OldPlace) → Line15 X ℓ₁ Vδ o ℓₚ op q → ⊥) → Some (at ℓₚ Vdiff) ≡ moved X (at ℓ₁ Vδ) o
        unfolding assumed
        by_no_match n = on (sym (ap (assumed X (at ℓₚ Vdiff) o) (finds_none n)))

      pub one_outcome : {x : Option Spot} → Lines5to18 X ℓ₁ Vδ o x → x ≡ moved X (at ℓ₁ Vδ) o
      one_outcome (line7 {ℓ₂} {Vdiff} L m w) = by_equal ℓ₂ Vdiff L (with-is Vδ o.a Vdiff w ∙ sym (rewrites true (does_meet Vδ (read_set o) m)))
      one_outcome (line8 {ℓ₂} {Vdiff} L n w) = by_equal ℓ₂ Vdiff L (without_is Vδ o.a Vdiff b fits.a w ∙ sym (rewrites false (does_not Vδ (read_set o) b n)))
      one_outcome (line10 {Vdiff} n u w) = by_none (at ℓ₁ Vdiff) n (by_unwritten Vdiff (with-is Vδ o.a Vdiff w) u)
      one_outcome (footnote6 {ℓ₂} {Vdiff} {op} n N w) = by_none (at ℓ₂ Vdiff) n (by_written ℓ₂ Vdiff (with-is Vδ o.a Vdiff w) op N)
      one_outcome (line16 {ℓₚ} {ℓ₂} {Vdiff} {op} E M m) = by_meeting ℓₚ Vdiff E op ℓ₂ M m
      one_outcome (line17 {ℓₚ} {ℓ₂} {Vdiff} {op} E M n) = by_match ℓₚ Vdiff E op ℓ₂ M n
      one_outcome (line18 {ℓₚ} {Vdiff} E n) = by_no_match ℓₚ Vdiff E n
      one_outcome (line13_cut t L i) = moved_twice X (at ℓ₁ Vδ) o t refl (cut (looped L) i)
