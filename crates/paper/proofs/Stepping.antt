-- The aligned step is lines 5 to 18 of Algorithm 2, with document 01's cut of line 13, and in edition 2 with footnote 6.
-- Assumes nothing.
use mathlib.Core.Path.{◌≡◌, refl, sym, ap, subst, ◌∙◌}
use mathlib.Core.Bool.{Bool, true, false, ◌&&◌, ◌||◌, not}
use mathlib.Core.Logic.{inl, inr, ⊎_elim, dite, ◌≢◌}
use mathlib.Core.List.{List}
use Rattle.std.specs.Prelude.{Option, None, Some}
use Rattle.std.proofs.lemmas.Option.{none-some, same_Some}
use Prim.Native.Nat.{ℕ, zero, suc, ◌-◌, ◌%◌, ◌^◌, ◌≤◌, ◌<◌}
use native.Mathlib.Omega.{arith}
use native.Mathlib.Decide.{ℕ_discrete, dec_lt}
use native.Mathlib.Nat.{lt_of_lt_of_le, div-eq_of_lt}
use borrow.Author.Tests.{eq-eqb, eqb-true, eqb-false}
use lib.Dec.{eqb}
use lib.Bits.{or_zero_l}
use lib.Pow.{pow_mono}
use Rattle.base.specs.Options.{when, or_else}
use Rattle.base.proofs.OnSome.{on_at}
use Rattle.base.proofs.Options.{none_of, not_due, both-missing}
use Rattle.base.proofs.Picks.{pick_true}
use Rattle.base.proofs.Sums.{sum, sum_lt, sum-most}
use Rattle.base.proofs.Tests.{T_true, and_true}
use Rattle.operations.specs.declared.Operation.{Operation}
use Rattle.operations.specs.declared.Kind.{Kind}
use Rattle.operations.specs.declared.Kind.TheVariants.{Assignment, ConstantComparison, VariableComparison, Unknown}
use Rattle.operations.specs.declared.assumptions.Implication.{Implication}
use Rattle.operations.specs.declared.assumptions.Implication.TheVariants.{Never, Implied, NotImplied}
use Rattle.operations.specs.Assumptions.{NeverHolds, Implies, Means, Operands}
use Rattle.operations.specs.Operations.{kind, by_kind, is_known, is_assignment, is_assumption, same}
use Rattle.operations.specs.Trials.{implication}
use Rattle.operations.proofs.Exact.{implication_means}
use Rattle.chart.specs.declared.places.OldPlace.{OldPlace}
use Rattle.chart.specs.Charts.{size, operation}
use Rattle.chart.specs.Compared.{Compared, is_second}
use Rattle.chart.proofs.Words.{Words}
use Rattle.chart.specs.Faultless.{FaultlessChart}
use Rattle.align.specs.declared.spots.Spot.{Spot}
use Rattle.sets.specs.Sets.{bit, alone, joined, with, without, meets}
use Rattle.align.specs.Reads.{read_set}
use Rattle.align.specs.Steps.{find, old_to, is_implied, along, matching, matched, rewritten, rows_at, at_alarm, writing_row, unequal, assigned, onward, follow, followed, counterpart, assumed, moved}
use Rattle.sets.proofs.Sets.{In, bit-none, alone-here, alone_only, with-here, with-old, with_only, without_in, without-kept, meet_some, meet_none, alone-small, with-small, without-small}
use Rattle.align.proofs.Onto.{same→eq, found}
use Rattle.align.proofs.Moves.{onward-below}
use Rattle.chart.proofs.Conflicts.{operands}
use Rattle.chart.proofs.Parts.{before, stands, same_row, row_of, row_same, row-a}
use Rattle.paper.specs.Nodes.{SetOf, ◌is_in◌, empty_set, ◌plus◌}
use Rattle.paper.specs.Lines5to18.{Meet, IsWith, IsWithout, only_old, InG, Line13, Loop, line12, line14, Lines11to14, Line15, Lines5to18, NoEqual, Footnote6, line7, line8, line10, footnote6, line16, line17, line18, line13_cut}
use Rattle.paper.proofs.Members.{in_first, in_second}

-- ---- sets
pub is-with : (s v : ℕ) → IsWith s v (with s v)
is-with s v i = (λ h. ⊎_elim (λ e. inr e) (λ p. inl p) (with_only i s v h), λ h. ⊎_elim (λ p. with-old i s v p) (λ e. rw e (with-here 0 s v)) h)

-- a set of 64 variables has no other
no_other : (s i : ℕ) → s < 2 ^ 64 → 64 ≤ i → In i s → ⊥
no_other s i b l h = let z : bit s i ≡ 0 = ap (λ (n : ℕ). n % 2) (div-eq_of_lt (lt_of_lt_of_le b (pow_mono l))) in omega arith

pub is-without : (s v : ℕ) → s < 2 ^ 64 → v < 64 → IsWithout s v (without s v)
is-without s v b k i =
    dite (dec_lt i 64) (λ l. (λ h. let z = without_in i s v l k h in (z.1, z.0), λ h. without-kept i s v l k h.1 h.0))
    (λ l. (λ h. absurd (no_other (without s v) i (without-small s v b) (omega arith) h), λ h. absurd (no_other s i b (omega arith) h.0)))

pub meeting : (s t : ℕ) → s < 2 ^ 64 → meets s t ≡ true → Meet s t
meeting s t b e = let r = meet_some s t b e in record { variable = r.0; below = r.1; first = r.2; second = r.3 }

pub not_meeting : (s t : ℕ) → meets s t ≡ false → Meet s t → ⊥
not_meeting s t e m = meet_none s t m.variable e m.first m.second

pub same_self : (o : Operation) → same o o ≡ true
unfolding same
same_self o = rw (eq-eqb o.code o.code refl, eq-eqb o.a o.a refl, eq-eqb o.b o.b refl, eq-eqb o.c o.c refl)

pub only_old-is : (p : OldPlace) (i : ℕ) → i ≡ p.0 → record { 0 = i } is_in only_old p
unfolding only_old
only_old-is p i e = eq-eqb p.0 i (sym e)

-- how many of 64 places are not in the set
pub unmet : ℕ → ℕ
unmet met = sum 64 (λ i. 1 - bit met i)

unmet_most : (met : ℕ) → unmet met ≤ 64
unfolding unmet
unmet_most met = omega (arith, sum-most 64 1 (λ i. 1 - bit met i) (λ i. omega arith))

pub unmet_less : (met v : ℕ) → v < 64 → (In v met → ⊥) → unmet (with met v) < unmet met
unfolding unmet
unmet_less met v l n =
    sum_lt 64 v (λ i. 1 - bit (with met v) i) (λ i. 1 - bit met i) l (omega (arith, with-here 0 met v))
    (λ i k. dite (ℕ_discrete (bit met i) 1) (λ e. omega (arith, with-old i met v e)) (λ e. omega arith))

-- one place is met at first
pub unmet_few : (v : ℕ) → v < 64 → unmet (alone v) < 64
unfolding with joined
unmet_few v l =
    let u = unmet_less 0 v l (λ i. let z = bit-none v in omega arith) in
    let e : with 0 v ≡ alone v = or_zero_l (alone v) in
    let w : unmet (alone v) < unmet 0 = rw e at u in
    omega (arith, unmet_most 0)

-- ---- rows of a place are edges of G
not_found : (rows : List ℕ) (f : Operation → Bool) → find rows f ≡ None → (k : ℕ) → k < size rows → f (operation rows k) ≡ false
unfolding find
not_found rows f e k l = not_due (f (operation rows k)) k (none_of (λ j. when (f (operation rows j)) j) (size rows) k e l)

module _ (X : Compared) where
  pub row-edge : (p : OldPlace) (k : ℕ) → k < size (rows_at X p) → InG X p (operation (rows_at X p) k) (old_to (rows_at X p) k)
  row-edge p k l =
      let (i, r) = row_of X.old.table p.0 k l in
      let z = row_same X.old.table p.0 r in
      record { row = i; there = r.inside; from = r.from-here; operation = sym z.operation-same; to = sym z.to_same }

  -- an edge is a row of the place
  edge_row : (p : OldPlace) (o : Operation) (q : OldPlace) → InG X p o q → (k : ℕ) × (k < size (rows_at X p)) × (operation (rows_at X p) k ≡ o)
  edge_row p o q E =
      (before X.old.table p.0 E.row, stands X.old.table p.0 E.row E.there E.from, (same_row X.old.table p.0 E.row E.there E.from).operation-same ∙ E.operation)

  -- no edge passes where no row was found
  pub no_edge : (p : OldPlace) (f : Operation → Bool) → find (rows_at X p) f ≡ None → (o : Operation) (q : OldPlace) → InG X p o q → f o ≡ false
  no_edge p f e o q E =
      let r = edge_row p o q E in
      ap f (sym r.2) ∙ not_found (rows_at X p) f e r.0 r.1

  pub an_edge : (p : OldPlace) (f : Operation → Bool) (k : ℕ) → find (rows_at X p) f ≡ Some k → (k < size (rows_at X p)) × (f (operation (rows_at X p) k) ≡ true)
  an_edge p f k e = let r = on_at _ (found (rows_at X p) f {P = λ o. f o ≡ true} (λ o h. h)) e in (r.inside, r.fits)

  -- ---- footnote 6: the row that is found, in edition 2
  abbrev pub writes : ℕ → Operation → Bool
  writes a o = is_assignment o && eqb o.a a

  pub writing-row-some : (p : OldPlace) (a k : ℕ) → writing_row X p a ≡ Some k → (X.edition ≡ 2) × (find (rows_at X p) (writes a) ≡ Some k)
  unfolding writing_row
  writing-row-some p a k e = go (is_second X) refl e
    where
      go : (b : Bool) → is_second X ≡ b → ◌≡◌ {A = Option ℕ} (elim b as (λ _. Option ℕ) [ true ↦ find (rows_at X p) (writes a) | false ↦ None ]) (Some k)
          → (X.edition ≡ 2) × (find (rows_at X p) (writes a) ≡ Some k)
      go true t e = (eqb-true X.edition 2 t, e)
      go false t e = absurd (none-some k e)

  pub writing-row-none : (p : OldPlace) (a : ℕ) → writing_row X p a ≡ None → X.edition ≡ 2 → find (rows_at X p) (writes a) ≡ None
  unfolding writing_row
  writing-row-none p a e t = sym (pick_true (is_second X) (find (rows_at X p) (writes a)) None (eq-eqb X.edition 2 t)) ∙ e

  -- the row is an edge that footnote 6 takes
  pub writing-edge : (p : OldPlace) (s : ℕ) (o : Operation) (k : ℕ) → writing_row X p o.a ≡ Some k → Footnote6 X p s o (operation (rows_at X p) k) (old_to (rows_at X p) k)
  writing-edge p s o k e =
      let w = writing-row-some p o.a k e in
      let r = an_edge p (writes o.a) k w.1 in
      let z = and_true (is_assignment (operation (rows_at X p) k)) _ r.1 in
      record { edition = w.0; edge = row-edge p k r.0; assignment = z.0; same = eqb-true (operation (rows_at X p) k).a o.a z.1 }

  -- where none was found it takes none
  pub no_writing : (p : OldPlace) (s : ℕ) (o : Operation) → writing_row X p o.a ≡ None → (op : Operation) (q : OldPlace) → Footnote6 X p s o op q → ⊥
  no_writing p s o e op q W =
      T_true (sym (no_edge p (writes o.a) (writing-row-none p o.a e W.edition) op q W.edge) ∙ rw (W.assignment, W.same, eq-eqb o.a o.a refl))

  -- ---- lines 5 to 10
  module _ (p : OldPlace) (s : ℕ) (o : Operation) (b : s < 2 ^ 64) (a : o.a < 64) (t : is_assignment o ≡ true) where
    lines10 : NoEqual X p s o → (x : Option ℕ) → writing_row X p o.a ≡ x → Lines5to18 X p s o (Some (unequal X (record { place = p; set = s }) o.a x))
    unfolding unequal
    lines10 n None e = line10 n (no_writing p s o e) (is-with s o.a)
    lines10 n (Some k) e = footnote6 n (writing-edge p s o k e) (is-with s o.a)

    lines5to10 : (x : Option ℕ) → find (rows_at X p) (λ o'. same o' o) ≡ x → Lines5to18 X p s o (Some (assigned X (record { place = p; set = s }) o x))
    unfolding assigned rewritten
    lines5to10 None e =
        lines10 (record { assignment = t; none = λ q E. T_true (sym (no_edge p (λ o'. same o' o) e o q E.edge) ∙ same_self o) })
        (writing_row X p o.a) refl
    lines5to10 (Some k) e = go (meets s (read_set o)) refl
      where
        edge : InG X p o (old_to (rows_at X p) k)
        edge =
            let r = an_edge p (λ o'. same o' o) k e in
            subst (λ (o' : Operation). InG X p o' (old_to (rows_at X p) k)) (same→eq (operation (rows_at X p) k) o r.1) (row-edge p k r.0)

        go : (m : Bool) → meets s (read_set o) ≡ m
            → Lines5to18 X p s o (Some (record { place = old_to (rows_at X p) k; set = elim m as (λ _. ℕ) [ true ↦ with s o.a | false ↦ without s o.a ] }))
        go true m = line7 (record { assignment = t; edge = edge }) (meeting s (read_set o) b m) (is-with s o.a)
        go false m = line8 (record { assignment = t; edge = edge }) (not_meeting s (read_set o) m) (is-without s o.a b a)

  -- ---- lines 12 to 14
  -- nothing is followed: the test of line 13 fails
  onward-ends : (h : Spot) → onward X h ≡ None → (o : Operation) (q : OldPlace) → Line13 X h.place o q → ⊥
  unfolding onward along
  onward-ends h e o q M = go (at_alarm X h.place) refl (find (rows_at X h.place) is_assignment) refl e
    where
      go : (b : Bool) → at_alarm X h.place ≡ b → (x : Option ℕ) → find (rows_at X h.place) is_assignment ≡ x
          → ◌≡◌ {A = Option Spot} (elim b as (λ _. Option Spot) [ true ↦ None | false ↦ along h.set (rows_at X h.place) x ]) None → ⊥
      go true d x f e = M.not_err (eqb-true h.place.0 X.old.head.alarm d)
      go false d None f e = T_true (sym (no_edge h.place is_assignment f o q M.edge) ∙ M.assignment)
      go false d (Some k) f e = none-some _ (sym e)

module _ (X : Compared) (F : FaultlessChart X.old) where
  -- one row is followed
  record Goes (h h' : Spot) : Type 0 where
    op : Operation
    line : Line13 X h.place op h'.place
    sets : IsWith h.set op.a h'.set
    small : h'.set < 2 ^ 64

  onward_goes : (h h' : Spot) → h.set < 2 ^ 64 → onward X h ≡ Some h' → Goes h h'
  unfolding onward along
  onward_goes h h' b e = go (at_alarm X h.place) refl (find (rows_at X h.place) is_assignment) refl e
    where
      rows : List ℕ
      rows = rows_at X h.place

      by : (k : ℕ) → at_alarm X h.place ≡ false → find rows is_assignment ≡ Some k → Goes h (record { place = old_to rows k; set = with h.set (operation rows k).a })
      by k d f =
          let r = an_edge X h.place is_assignment k f in
          record {
            op = operation rows k;
            line = record { not_err = eqb-false h.place.0 X.old.head.alarm d; edge = row-edge X h.place k r.0; assignment = r.1 };
            sets = is-with h.set (operation rows k).a;
            small = with-small h.set (operation rows k).a b (row-a X.old F h.place.0 k r.0);
          }

      go : (b : Bool) → at_alarm X h.place ≡ b → (x : Option ℕ) → find rows is_assignment ≡ x
          → (elim b as (λ _. Option Spot) [ true ↦ None | false ↦ along h.set rows x ]) ≡ Some h' → Goes h h'
      go true d x f e = absurd (none-some h' e)
      go false d None f e = absurd (none-some h' e)
      go false d (Some k) f e = subst (Goes h) (same_Some _ h' e) (by k d f)

  module _ (ℓ₁ : OldPlace) (start : ℕ) where
    -- the loop has ended, or has come to a place twice
    pub data Walked : Option Spot → Type 0 where
      came : {h : Spot} {been : SetOf OldPlace} → Loop X ℓ₁ start been h.place h.set → onward X h ≡ None → h.set < 2 ^ 64 → Walked (Some h)
      twice : {been : SetOf OldPlace} {p : OldPlace} {s : ℕ} → Loop X ℓ₁ start been p s → p is_in been → Walked None

    walk : (n met : ℕ) (h : Spot) (been : SetOf OldPlace) → Loop X ℓ₁ start been h.place h.set → h.set < 2 ^ 64 → met < 2 ^ 64
        → ((i : ℕ) → In i met → record { 0 = i } is_in (been plus only_old h.place)) → unmet met < n → Walked (follow X n met h)
    unfolding follow
    walk zero met h been L b c m u = absurd (omega arith)
    walk (suc n) met h been L b c m u = go (λ met' h' been' L' b' c' m' u'. walk n met' h' been' L' b' c' m' u') (onward X h) refl
      where
        go : ((met' : ℕ) (h' : Spot) (been' : SetOf OldPlace) → Loop X ℓ₁ start been' h'.place h'.set → h'.set < 2 ^ 64 → met' < 2 ^ 64
            → ((i : ℕ) → In i met' → record { 0 = i } is_in (been' plus only_old h'.place)) → unmet met' < n → Walked (follow X n met' h'))
            → (o : Option Spot) → onward X h ≡ o
            → Walked (elim o as (λ _. Option Spot) [ None ↦ Some h | Some h' ↦ elim (meets met (alone h'.place.0)) as (λ _. Option Spot) [ true ↦ None | false ↦ follow X n (with met h'.place.0) h' ] ])
        go ih None e = came L e b
        go ih (Some h') e = pick (meets met (alone h'.place.0)) refl
          where
            G : Goes h h'
            G = onward_goes h h' b e

            more : SetOf OldPlace
            more = been plus only_old h.place

            L' : Loop X ℓ₁ start more h'.place h'.set
            L' = line14 L G.line G.sets

            pick : (k : Bool) → meets met (alone h'.place.0) ≡ k → Walked (elim k as (λ _. Option Spot) [ true ↦ None | false ↦ follow X n (with met h'.place.0) h' ])
            pick true t = twice L' (let r = meet_some met (alone h'.place.0) c t in m h'.place.0 (subst (λ (i : ℕ). In i met) (alone_only r.0 h'.place.0 r.3) r.2))
            pick false t =
                ih (with met h'.place.0) h' more L' G.small (with-small met h'.place.0 c below)
                (λ i k. ⊎_elim (λ z. in_second (more (record { 0 = i })) _ (only_old-is h'.place i z)) (λ z. in_first (more (record { 0 = i })) _ (m i z)) (with_only i met h'.place.0 k))
                (omega (arith, unmet_less met h'.place.0 below (λ z. meet_none met (alone h'.place.0) h'.place.0 t z (alone-here h'.place.0))))
              where
                below : h'.place.0 < 64
                below = on_at _ (onward-below X F h) e

  -- what the step follows is a walk of the loop
  pub walked : (p : OldPlace) (s : ℕ) → p.0 < 64 → s < 2 ^ 64 → Walked p s (followed X (record { place = p; set = s }))
  unfolding followed
  walked p s l b =
      walk p s 64 (alone p.0) (record { place = p; set = s }) empty_set line12 b (alone-small p.0 l) (λ i k. only_old-is p i (alone_only i p.0 k)) (unmet_few p.0 l)

  -- ---- lines 15 to 18
  pub edge_operands : Words X.old.table → (p : OldPlace) (op : Operation) (q : OldPlace) → InG X p op q → Operands op
  edge_operands words p op q e = subst Operands e.operation (operands X.old F words.small e.row e.there)

  module _ (words : Words X.old.table) (ℓ₁ : OldPlace) (start : ℕ) (o : Operation) (fits : Operands o) (h : Spot) (E : Lines11to14 X ℓ₁ start o h.place h.set) (b : h.set < 2 ^ 64) where
    abbrev pub rows : List ℕ
    rows = rows_at X h.place

    -- an edge that leaves ℓ_p has an assumption: else the loop would not have ended
    edge_assumes : (op : Operation) (q : OldPlace) → h.place.0 ≢ X.old.head.alarm → InG X h.place op q → is_assumption op ≡ true
    edge_assumes op q n e = known (kind op.code) (subst (λ (f : Operation). is_known f ≡ true) e.operation (F.rows e.row e.there).known) (λ a. E.ends op q (record { not_err = n; edge = e; assignment = a }))
      where
        known : (k : Kind) → by_kind k true true true false ≡ true → (by_kind k true false false false ≡ true → ⊥) → by_kind k false true true false ≡ true
        known Assignment a f = absurd (f refl)
        known ConstantComparison a f = refl
        known VariableComparison a f = refl
        known Unknown a f = absurd (T_true a)

    -- op' implies op and can hold
    implied-so : (op : Operation) → Operands op → is_implied (implication o op) ≡ true → Implies o op × (NeverHolds o → ⊥)
    implied-so op G e = go (implication o op) (implication_means o op fits G) e
      where
        go : (r : Implication) → Means r o op → is_implied r ≡ true → Implies o op × (NeverHolds o → ⊥)
        go Never m e = absurd (T_true e)
        go Implied m e = (m.1, m.0)
        go NotImplied m e = absurd (T_true e)

    so-implied : (op : Operation) → Operands op → Implies o op → (NeverHolds o → ⊥) → is_implied (implication o op) ≡ true
    so-implied op G i n = go (implication o op) (implication_means o op fits G)
      where
        go : (r : Implication) → Means r o op → is_implied r ≡ true
        go Never m = absurd (n m)
        go Implied m = refl
        go NotImplied m = absurd (m.1 i)

    passes : Operation → Bool
    passes op = is_assumption op && is_implied (implication o op)

    pub no_match : matching rows o ≡ None → h.place.0 ≢ X.old.head.alarm → (op : Operation) (q : OldPlace) → Line15 X ℓ₁ start o h.place op q → ⊥
    unfolding matching passes
    no_match e n op q M =
        let z = both-missing (find rows (λ o'. same o' o)) (find rows passes) e in
        ⊎_elim (λ i. T_true (sym (no_edge X h.place (λ o'. same o' o) z.0 op q M.edge) ∙ rw i (same_self o)))
        (λ i. T_true (sym (no_edge X h.place passes z.1 op q M.edge) ∙ rw (edge_assumes op q n M.edge, so-implied op (edge_operands words h.place op q M.edge) i.0 i.1))) M.matches

    pub a_match : (k : ℕ) → matching rows o ≡ Some k → h.place.0 ≢ X.old.head.alarm → Line15 X ℓ₁ start o h.place (operation rows k) (old_to rows k)
    unfolding matching passes
    a_match k e n = go (find rows (λ o'. same o' o)) refl e
      where
        go : (x : Option ℕ) → find rows (λ o'. same o' o) ≡ x → or_else x (find rows passes) ≡ Some k → Line15 X ℓ₁ start o h.place (operation rows k) (old_to rows k)
        go None f e =
            let r = an_edge X h.place passes k e in
            let g = row-edge X h.place k r.0 in
            record { not_err = n; edge = g; matches = inr (implied-so (operation rows k) (edge_operands words h.place (operation rows k) (old_to rows k) g) (and_true (is_assumption (operation rows k)) _ r.1).1) }
        go (Some j) f e =
            let r = an_edge X h.place (λ o'. same o' o) k (f ∙ e) in
            record { not_err = n; edge = row-edge X h.place k r.0; matches = inl (same→eq (operation rows k) o r.1) }

    lines15to18 : (x : Option ℕ) → counterpart X h.place o ≡ x → Lines5to18 X ℓ₁ start o (assumed X h o x)
    unfolding counterpart assumed matched
    lines15to18 x e = go (at_alarm X h.place) refl x e
      where
        meets_either : (k : ℕ) → (m m' : Bool) → meets h.set (read_set o) ≡ m → meets h.set (read_set (operation rows k)) ≡ m' → Line15 X ℓ₁ start o h.place (operation rows k) (old_to rows k)
            → Lines5to18 X ℓ₁ start o (when (not (m || m')) (record { place = old_to rows k; set = h.set }))
        meets_either k true m' d f M = line16 E M (inr (meeting h.set (read_set o) b d))
        meets_either k false true d f M = line16 E M (inl (meeting h.set (read_set (operation rows k)) b f))
        meets_either k false false d f M =
            line17 E M (λ z. ⊎_elim (λ y. not_meeting h.set (read_set (operation rows k)) f y) (λ y. not_meeting h.set (read_set o) d y) z)

        go : (a : Bool) → at_alarm X h.place ≡ a → (x : Option ℕ) → ◌≡◌ {A = Option ℕ} (elim a as (λ _. Option ℕ) [ true ↦ None | false ↦ matching rows o ]) x → Lines5to18 X ℓ₁ start o (assumed X h o x)
        go true a None e = line18 E (λ op q M. M.not_err (eqb-true h.place.0 X.old.head.alarm a))
        go true a (Some k) e = absurd (none-some k e)
        go false a None e = line18 E (no_match e (eqb-false h.place.0 X.old.head.alarm a))
        go false a (Some k) e = meets_either k (meets h.set (read_set o)) (meets h.set (read_set (operation rows k))) refl refl (a_match k e (eqb-false h.place.0 X.old.head.alarm a))

  -- ---- all of them
  pub step_lines : Words X.old.table → (p : OldPlace) (s : ℕ) (o : Operation) → p.0 < 64 → s < 2 ^ 64 → Operands o → Lines5to18 X p s o (moved X (record { place = p; set = s }) o)
  unfolding moved
  step_lines words p s o l b fits = go (is_assignment o) refl
    where
      h : Spot
      h = record { place = p; set = s }

      on : is_assignment o ≡ false → {x : Option Spot} → Walked p s x → Lines5to18 X p s o (elim x [ None ↦ None | Some h' ↦ assumed X h' o (counterpart X h'.place o) ])
      on t (came {h = h'} {been = been} L e c) = lines15to18 words p s o fits h' (record { assumption = t; been = been; loop = L; ends = onward-ends X h' e }) c (counterpart X h'.place o) refl
      on t (twice L i) = line13_cut t L i

      go : (a : Bool) → is_assignment o ≡ a
          → Lines5to18 X p s o (elim a as (λ _. Option Spot) [
            | true ↦ Some (assigned X h o (find (rows_at X p) (λ o'. same o' o)))
            | false ↦ elim (followed X h) as (λ _. Option Spot) [ None ↦ None | Some h' ↦ assumed X h' o (counterpart X h'.place o) ]
          ])
      go true t = lines5to10 X p s o b fits.a t (find (rows_at X p) (λ o'. same o' o)) refl
      go false t = on t (walked p s l b)
