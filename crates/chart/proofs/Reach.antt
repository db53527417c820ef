-- Runs from any state, and rows that lead from a place to the alarm. Assumes nothing.
use mathlib.Core.Path.{◌≡◌, refl, sym, subst}
use mathlib.Core.Bool.{Bool, true, false, ◌&&◌}
use mathlib.Core.Logic.{◌⊎◌, inl, inr}
use mathlib.Core.List.{List, [], ◌∷◌}
use Rattle.std.specs.Prelude.{Option, None, Some}
use Prim.Native.Nat.{ℕ, ◌<◌}
use lib.Dec.{T, eqb, eqb→eq, ltb, lt→ltb}
use Rattle.base.proofs.Tests.{T_both, T_or, T_or_l, T_or_r, T_true, is_true}
use Rattle.base.proofs.Says.{eqb←eq}
use Rattle.chart.specs.Charts.{Chart, size, from, to, operation, row, leaving}
use Rattle.chart.specs.Runs.{State, lets, after, taken, begin, ready, run, alarmed, reaches}
use Rattle.chart.proofs.Parts.{row_of, row_same}

-- ---- runs from any state
module _ (C : Chart) where
  abbrev pub ever_there : Option (List State) → Bool
  ever_there None = false
  ever_there (Some seen) = alarmed C seen

  -- the rows are a run from here, and it is at the alarm here or later
  abbrev pub reaches_from : State → List ℕ → Bool
  reaches_from s is = ever_there (run C s is)

  pub from-begin : (v is : List ℕ) → reaches C v is ≡ reaches_from (begin C v) is
  unfolding reaches
  from-begin v is = go (run C (begin C v) is)
    where
      go : (o : Option (List State)) → elim o [ None ↦ false | Some seen ↦ alarmed C seen ] ≡ ever_there o
      go None = refl
      go (Some seen) = refl

  pub reaches_here : (s : State) → s.place ≡ C.head.alarm → T (reaches_from s [])
  unfolding run alarmed
  reaches_here s e = T_or_l (eqb s.place C.head.alarm) false (eqb←eq e)

  pub run_none : (s : State) (i : ℕ) (is : List ℕ) → ready C s i ≡ false → run C s (i ∷ is) ≡ None
  unfolding run
  run_none s i is t = rw (t, run)

  pub run_ends : (s : State) (i : ℕ) (is : List ℕ) → ready C s i ≡ true → run C (taken (row C.table i) s) is ≡ None → run C s (i ∷ is) ≡ None
  unfolding run
  run_ends s i is t e = rw (t, e, run)

  run-some : (s : State) (i : ℕ) (is : List ℕ) (seen : List State) → ready C s i ≡ true → run C (taken (row C.table i) s) is ≡ Some seen → run C s (i ∷ is) ≡ Some (s ∷ seen)
  unfolding run
  run-some s i is seen t e = rw (t, e, run)

  -- a run that goes on by row i
  pub reaches_on : (s : State) (i : ℕ) (is : List ℕ) → ready C s i ≡ true → T (reaches_from (taken (row C.table i) s) is) → T (reaches_from s (i ∷ is))
  unfolding alarmed
  reaches_on s i is t h = go (run C (taken (row C.table i) s) is) refl h
    where
      go : (o : Option (List State)) → run C (taken (row C.table i) s) is ≡ o → T (ever_there o) → T (reaches_from s (i ∷ is))
      go None e h = absurd h
      go (Some seen) e h = subst (λ (o : Option (List State)). T (ever_there o)) (sym (run-some s i is seen t e)) (T_or_r (eqb s.place C.head.alarm) (alarmed C seen) h)

  pub reaches_nil : (s : State) → T (reaches_from s []) → s.place ≡ C.head.alarm
  unfolding run alarmed
  reaches_nil s t = elim (T_or (eqb s.place C.head.alarm) false t) [ inl a ↦ eqb→eq s.place C.head.alarm a | inr z ↦ absurd z ]

  pub reaches_cons : (s : State) (i : ℕ) (is : List ℕ) → T (reaches_from s (i ∷ is))
      → (s.place ≡ C.head.alarm) ⊎ ((ready C s i ≡ true) × T (reaches_from (taken (row C.table i) s) is))
  unfolding alarmed
  reaches_cons s i is t = go (ready C s i) refl (run C (taken (row C.table i) s) is) refl
    where
      go : (b : Bool) → ready C s i ≡ b → (o : Option (List State)) → run C (taken (row C.table i) s) is ≡ o
          → (s.place ≡ C.head.alarm) ⊎ ((ready C s i ≡ true) × T (reaches_from (taken (row C.table i) s) is))
      go false e o f = absurd (subst (λ (o : Option (List State)). T (ever_there o)) (run_none s i is e) t)
      go true e None f = absurd (subst (λ (o : Option (List State)). T (ever_there o)) (run_ends s i is e f) t)
      go true e (Some seen) f = elim (T_or (eqb s.place C.head.alarm) (alarmed C seen) (subst (λ (o : Option (List State)). T (ever_there o)) (run-some s i is seen e f) t)) [ inl a ↦ inl (eqb→eq s.place C.head.alarm a) | inr h ↦ inr (e, subst (λ (o : Option (List State)). T (ever_there o)) (sym f) h) ]

  -- some rows lead from here to the alarm
  pub record Hits (p : ℕ) (v : List ℕ) : Type 0 where
    pub rows : List ℕ
    pub lead : T (reaches_from (record { place = p; values = v }) rows)

  pub hits_here : (v : List ℕ) → Hits C.head.alarm v
  hits_here v = record { rows = []; lead = reaches_here (record { place = C.head.alarm; values = v }) refl }

  -- by row k of the place
  pub hits_row : (p k : ℕ) (v : List ℕ) → k < size (leaving C.table p) → lets (operation (leaving C.table p) k) v ≡ true
      → Hits (to (leaving C.table p) k) (after (operation (leaving C.table p) k) v) → Hits p v
  unfolding ready
  hits_row p k v l t h =
      let (i, r) = row_of C.table p k l in
      let S = row_same C.table p r in
      record {
        rows = i ∷ h.rows;
        lead = reaches_on (record { place = p; values = v }) i h.rows (is-ready i r.inside r.from-here (rw S.operation-same at t))
            (subst (λ (s : State). T (reaches_from s h.rows)) (λ j. record { place = S.to_same j; values = after (S.operation-same j) v }) h.lead);
      }
    where
      is-ready : (i : ℕ) → i < size C.table → from C.table i ≡ p → lets (operation C.table i) v ≡ true → ready C (record { place = p; values = v }) i ≡ true
      is-ready i l e t =
          is_true (ready C (record { place = p; values = v }) i) (T_both (ltb i (size C.table)) (eqb (from C.table i) p && lets (operation C.table i) v) (lt→ltb i (size C.table) l)
          (T_both (eqb (from C.table i) p) (lets (operation C.table i) v) (eqb←eq e) (T_true t)))
