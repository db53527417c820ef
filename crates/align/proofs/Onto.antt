-- The aligned step simulates: where old values lead from its end to the old alarm, they do so from its beginning. Assumes nothing.
use mathlib.Core.Path.{◌≡◌, refl, sym, ap, subst, ◌∙◌}
use mathlib.Core.Bool.{Bool, true, false, ◌&&◌, ◌||◌, not, or-true}
use mathlib.Core.List.{List}
use Rattle.std.specs.Prelude.{Option, None, Some}
use Prim.Native.Nat.{ℕ, zero, suc, ◌^◌, ◌<◌}
use lib.Dec.{T, eqb, eqb→eq}
use lib.ListN.{get_or, set}
use borrow.Author.Tests.{not-true, eqb-true}
use Rattle.base.specs.Says.{Says, bool}
use Rattle.base.proofs.Tests.{T_and, T_true, is_true, and_true, or_false}
use Rattle.base.proofs.Says.{says}
use Rattle.base.proofs.OnSome.{OnSome, when-so, or_on, first_on, picked, further, on_map}
use Rattle.operations.specs.declared.Operation.{Operation}
use Rattle.operations.specs.declared.assumptions.Implication.{Implication}
use Rattle.operations.specs.declared.assumptions.Implication.TheVariants.{Never, Implied, NotImplied}
use Rattle.operations.specs.Operations.{is_assignment, is_assumption, same, value, holds}
use Rattle.operations.specs.Assumptions.{Operands, Implies, Means}
use Rattle.operations.specs.Values.{Values, var}
use Rattle.operations.specs.Trials.{implication}
use Rattle.operations.proofs.Exact.{implication_means}
use Rattle.chart.specs.declared.places.OldPlace.{OldPlace}
use Rattle.chart.specs.declared.places.NewPlace.{NewPlace}
use Rattle.chart.specs.Charts.{size, operation}
use Rattle.chart.specs.Faultless.{FaultlessChart}
use Rattle.chart.specs.Runs.{lets, after}
use Rattle.align.specs.declared.spots.Spot.{Spot}
use Rattle.sets.specs.Sets.{alone, with, without, meets}
use Rattle.align.specs.Reads.{read_set}
use Rattle.align.specs.Steps.{find, is_implied, along, matching, matched, rewritten, rows_at, at_alarm, writing_row, unequal, assigned, onward, follow, followed, counterpart, assumed, moved, fair, at_both, rescued, arrived, step}
use Rattle.sets.proofs.Sets.{with-here}
use Rattle.chart.proofs.Conflicts.{operands}
use Rattle.chart.proofs.Parts.{row_of, row_same}
use Rattle.align.proofs.Agree.{Agree, value_agrees, holds_agrees, write_new, write_old, agree_with, agree_both}
use Rattle.chart.proofs.Taken.{after-assignment, after_other, lets-assignment, lets-assumption, let_other, not_assignment}
use Rattle.chart.proofs.Reach.{Hits, hits_row}
use Rattle.chart.specs.Compared.{Compared, is_second, heads_of}

-- ---- what is found
pub same→eq : (o o' : Operation) → same o o' ≡ true → o ≡ o'
unfolding same
same→eq o o' t =
    let a = T_and (eqb o.code o'.code) _ (T_true t) in
    let b = T_and (eqb o.a o'.a) _ a.1 in
    let c = T_and (eqb o.b o'.b) _ b.1 in
    let p = eqb→eq o.code o'.code a.0 in
    let q = eqb→eq o.a o'.a b.0 in
    let r = eqb→eq o.b o'.b c.0 in
    let s = eqb→eq o.c o'.c c.1 in
    λ i. record { code = p i; a = q i; b = r i; c = s i }

-- row k is there, and its operation is so
pub record Among (rows : List ℕ) (P : Operation → Type 0) (k : ℕ) : Type 0 where
  pub inside : k < size rows
  pub fits : P (operation rows k)

pub found : (rows : List ℕ) (f : Operation → Bool) {P : Operation → Type 0} → ((o : Operation) → f o ≡ true → P o) → OnSome (Among rows P) (find rows f)
unfolding find
found rows f h = first_on _ (size rows) _ (λ k l. when-so _ (f (operation rows k)) k (λ t. record { inside = l; fits = h (operation rows k) (is_true _ t) }))

-- the old assumption that is found by implication holds wherever the new one does
implied : (f g : Operation) → Operands f → Operands g → is_implied (implication f g) ≡ true → Implies f g
implied f g F G t = go (implication f g) (implication_means f g F G) t
  where
    go : (r : Implication) → Means r f g → is_implied r ≡ true → Implies f g
    go Never m t = absurd (T_true t)
    go Implied m t = m.1
    go NotImplied m t = absurd (T_true t)

module _ (X : Compared) where
  -- whatever values agree with w outside the spot's set, they lead from its place to the old alarm
  pub record Onto (w : List ℕ) (h : Spot) : Type 0 where
    pub leads : (v : List ℕ) → Agree h.set v w → Hits X.old h.place.0 v

  -- an assignment to variable a
  abbrev pub Writes : ℕ → Operation → Type 0
  Writes a o = (is_assignment o ≡ true) × (o.a ≡ a)

  -- footnote 6: the old row that is found is one
  pub writing-row_writes : (p : OldPlace) (a : ℕ) → OnSome (Among (rows_at X p) (Writes a)) (writing_row X p a)
  unfolding writing_row
  writing-row_writes p a =
      picked _ (is_second X) _ None
      (λ t. found (rows_at X p) (λ o. is_assignment o && eqb o.a a) (λ o e. let z = and_true (is_assignment o) _ e in (z.0, eqb-true o.a a z.1)))
      (λ t. tt)

  module _ (w : List ℕ) where
    -- line 10; footnote 6: an old assignment to the same variable, which may differ from now on
    unequal_onto : (h : Spot) (o : Operation) → is_assignment o ≡ true → (x : Option ℕ) → OnSome (Among (rows_at X h.place) (Writes o.a)) x
        → Onto (after o w) (unequal X h o.a x) → Onto w h
    unfolding unequal
    unequal_onto h o t None q K = record { leads = λ v A. K.leads v (rw (after-assignment o w t) (write_new (agree_with A o.a) o.a (value o (var w)) (with-here o.a h.set o.a))) }
    unequal_onto h o t (Some k) q K =
        record {
          leads = λ v A.
              (let o' = operation (rows_at X h.place) k in
              let m = with-here o.a h.set o.a in
              let e = after-assignment o' v q.fits.0 ∙ ap (λ (a : ℕ). set v a (value o' (var v))) q.fits.1 in
              hits_row X.old h.place.0 k v q.inside (lets-assignment o' v q.fits.0)
              (K.leads (after o' v) (rw (e, after-assignment o w t)
              (write_old (write_new (agree_with A o.a) o.a (value o (var w)) m) o.a (value o' (var v)) m))));
        }

    -- lines 6 to 10
    assigned_onto : (h : Spot) (o : Operation) → is_assignment o ≡ true → o.a < 64 → (x : Option ℕ) → OnSome (Among (rows_at X h.place) (λ o'. same o' o ≡ true)) x
        → Onto (after o w) (assigned X h o x) → Onto w h
    unfolding assigned rewritten
    assigned_onto h o t l None q K = unequal_onto h o t (writing_row X h.place o.a) (writing-row_writes h.place o.a) K
    assigned_onto h o t l (Some k) q K =
        record {
          leads = λ v A.
              (let e = same→eq (operation (rows_at X h.place) k) o q.fits in
              hits_row X.old h.place.0 k v q.inside (rw e (lets-assignment o v t))
              (K.leads (after (operation (rows_at X h.place) k) v) (rw (e, after-assignment o v t, after-assignment o w t) (go v A (meets h.set (read_set o)) (λ n. n)))));
        }
      where
        go : (v : List ℕ) → Agree h.set v w → (b : Bool) → (b ≡ false → meets h.set (read_set o) ≡ false)
            → Agree (elim b [ true ↦ with h.set o.a | false ↦ without h.set o.a ]) (set v o.a (value o (var v))) (set w o.a (value o (var w)))
        go v A true n = write_old (write_new (agree_with A o.a) o.a (value o (var w)) (with-here o.a h.set o.a)) o.a (value o (var v)) (with-here o.a h.set o.a)
        go v A false n = rw (value_agrees A o t (n refl)) (agree_both A o.a (value o (var w)) l)

    -- line 14: an old assignment alone, its variable joins the set
    along_onto : (h : Spot) (x : Option ℕ) → OnSome (Among (rows_at X h.place) (λ o. is_assignment o ≡ true)) x → OnSome (λ h'. Onto w h' → Onto w h) (along h.set (rows_at X h.place) x)
    unfolding along
    along_onto h None q = tt
    along_onto h (Some k) q =
        let o = operation (rows_at X h.place) k in
        let t = q.fits in
        (λ K. record {
          leads = λ v A. hits_row X.old h.place.0 k v q.inside (lets-assignment o v t)
              (K.leads (after o v) (rw (after-assignment o v t) (write_old (agree_with A o.a) o.a (value o (var v)) (with-here o.a h.set o.a))));
        })

    onward_onto : (h : Spot) → OnSome (λ h'. Onto w h' → Onto w h) (onward X h)
    unfolding onward
    onward_onto h =
        picked _ (at_alarm X h.place) None _ (λ t. tt)
        (λ t. along_onto h (find (rows_at X h.place) is_assignment) (found (rows_at X h.place) is_assignment (λ o t. t)))

    -- lines 13 and 14
    follow_onto : (n met : ℕ) (h : Spot) → OnSome (λ h'. Onto w h' → Onto w h) (follow X n met h)
    unfolding follow
    follow_onto zero met h = tt
    follow_onto (suc n) met h =
        further _ _ (onward X h) (Some h) _ (onward_onto h) (λ K. K)
        (λ h' q. picked _ (meets met (alone h'.place.0)) None _ (λ t. tt)
        (λ t. on_map _ _ (follow X n (with met h'.place.0) h') (λ h'' f K. q (f K)) (follow_onto n (with met h'.place.0) h')))

    -- footnote 8: old assignments alone, up to the old alarm
    rescued_onto : (h : Spot) (q : NewPlace) → OnSome (λ h'. (Onto w h' → Onto w h) × Says (fair (heads_of X) h'.place q)) (rescued X h)
    unfolding rescued followed at_both
    rescued_onto h q =
        picked _ (is_second X) _ None (λ t. go (follow X 64 (alone h.place.0) h) (follow_onto 64 (alone h.place.0) h)) (λ t. tt)
      where
        both : (p : OldPlace) → T (at_alarm X p) → Says (fair (heads_of X) p q)
        both p t = says (fair (heads_of X) p q) (T_true {b = bool (fair (heads_of X) p q)} (rw (is_true (at_alarm X p) t) (or-true (not (eqb q.0 X.new.head.alarm)))))

        go : (x : Option Spot) → OnSome (λ h'. Onto w h' → Onto w h) x → OnSome (λ h'. (Onto w h' → Onto w h) × Says (fair (heads_of X) h'.place q)) (at_both X x)
        go None f = tt
        go (Some h') f = when-so _ (at_alarm X h'.place) h' (λ t. (f, both h'.place t))

    -- lines 16 to 18: the set meets nothing that a matched assumption reads
    assumed_onto : (h : Spot) (o : Operation) (x : Option ℕ) → OnSome (Among (rows_at X h.place) (λ o'. (is_assumption o' ≡ true) × (holds o' (var w) ≡ true))) x
        → OnSome (λ h'. Onto w h' → Onto w h) (assumed X h o x)
    unfolding assumed matched
    assumed_onto h o None q = (λ K. K)
    assumed_onto h o (Some k) q =
        let o' = operation (rows_at X h.place) k in
        let l = q in
        when-so _ (not (meets h.set (read_set o) || meets h.set (read_set o'))) _ (λ t K. record {
          leads = λ v A.
              (let n = or_false (meets h.set (read_set o)) (meets h.set (read_set o')) (not-true _ (is_true _ t)) in
              hits_row X.old h.place.0 k v l.inside (lets-assumption o' v l.fits.0 (holds_agrees A o' l.fits.0 n.1 ∙ l.fits.1))
              (K.leads (after o' v) (rw (after_other o' v (not_assignment o' l.fits.0)) A)));
        })

  module _ (F : FaultlessChart X.old) (words : (k : ℕ) → get_or X.old.table k 0 < 2 ^ 32) (w : List ℕ) (W : Values w) where
    -- line 15: the old row that is matched holds of the new values
    counterpart-holds : (p : OldPlace) (o : Operation) → Operands o → is_assumption o ≡ true → holds o (var w) ≡ true
        → OnSome (Among (rows_at X p) (λ o'. (is_assumption o' ≡ true) × (holds o' (var w) ≡ true))) (counterpart X p o)
    unfolding counterpart matching
    counterpart-holds p o O t h =
        picked _ (at_alarm X p) None _ (λ e. tt) (λ e. or_on _ (find (rows_at X p) (λ o'. same o' o)) _
        (found (rows_at X p) (λ o'. same o' o) (λ o' e. subst (λ (x : Operation). (is_assumption x ≡ true) × (holds x (var w) ≡ true)) (sym (same→eq o' o e)) (t, h)))
        (λ _. on_map _ _ (find (rows_at X p) (λ o'. is_assumption o' && is_implied (implication o o')))
        (λ k q. record { inside = q.inside; fits = matched k q.inside q.fits }) (found (rows_at X p) (λ o'. is_assumption o' && is_implied (implication o o')) (λ o' e. e))))
      where
        matched : (k : ℕ) → k < size (rows_at X p) → is_assumption (operation (rows_at X p) k) && is_implied (implication o (operation (rows_at X p) k)) ≡ true
            → (is_assumption (operation (rows_at X p) k) ≡ true) × (holds (operation (rows_at X p) k) (var w) ≡ true)
        matched k l e =
            let (i, r) = row_of X.old.table p.0 k l in
            let S = row_same X.old.table p.0 r in
            let z = and_true (is_assumption (operation (rows_at X p) k)) _ e in
            let G : Operands (operation (rows_at X p) k) = subst Operands (sym S.operation-same) (operands X.old F words i r.inside) in
            (z.0, implied o (operation (rows_at X p) k) O G z.1 w W h)

    moved_onto : (h : Spot) (o : Operation) → Operands o → lets o w ≡ true → OnSome (λ h'. Onto (after o w) h' → Onto w h) (moved X h o)
    unfolding moved followed
    moved_onto h o O l =
        picked _ (is_assignment o) _ _
        (λ t. (assigned_onto w h o t O.a (find (rows_at X h.place) (λ o'. same o' o)) (found (rows_at X h.place) (λ o'. same o' o) (λ o' e. e))))
        (λ n. let z = let_other o w n l in
        further _ _ (follow X 64 (alone h.place.0) h) None _ (follow_onto w 64 (alone h.place.0) h) tt
        (λ h' f. on_map _ _ (assumed X h' o (counterpart X h'.place o)) (λ h'' g K. f (g (subst (λ (u : List ℕ). Onto u h'') (after_other o w n) K)))
        (assumed_onto w h' o (counterpart X h'.place o) (counterpart-holds h'.place o O z.0 z.1))))

    -- the whole step, by a row that lets the values w pass
    pub step_onto : (h : Spot) (o : Operation) (q : NewPlace) → Operands o → lets o w ≡ true
        → OnSome (λ h'. (Onto (after o w) h' → Onto w h) × Says (fair (heads_of X) h'.place q)) (step X h o q)
    unfolding step arrived
    step_onto h o q O l = go (moved X h o) (moved_onto h o O l)
      where
        go : (x : Option Spot) → OnSome (λ h'. Onto (after o w) h' → Onto w h) x
            → OnSome (λ h'. (Onto (after o w) h' → Onto w h) × Says (fair (heads_of X) h'.place q)) (arrived X q x)
        go None f = tt
        go (Some h') f =
            picked _ (bool (fair (heads_of X) h'.place q)) (Some h') (rescued X h') (λ t. (f, says (fair (heads_of X) h'.place q) (T_true t)))
            (λ t. on_map _ _ (rescued X h') (λ h'' z. (λ K. f (z.0 K), z.1)) (rescued_onto (after o w) h' q))
