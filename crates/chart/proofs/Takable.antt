-- Rows that can be taken, and those that never are: no run of a faultless chart takes one that never holds. Assumes
-- nothing.
use mathlib.Core.Path.{◌≡◌, refl, sym, ap, ◌∙◌}
use mathlib.Core.Bool.{Bool, true, false, not}
use mathlib.Core.List.{List, [], ◌∷◌}
use Rattle.std.specs.Prelude.{Option, None, Some}
use Rattle.std.proofs.lemmas.Option.{none-some}
use Prim.Native.Nat.{ℕ, ◌+◌, ◌*◌, ◌≤◌, ◌<◌}
use lib.Dec.{eqb, ltb}
use borrow.Author.Tests.{lt-ltb, le-ltb, ltb-true, eqb-true, not-true}
use Rattle.base.proofs.Lists.{All}
use Rattle.base.specs.Tests.{some_below}
use Rattle.base.proofs.Tests.{and_true, none-below_at}
use Rattle.operations.specs.declared.Operation.{Operation}
use Rattle.operations.specs.Assumptions.{Operands}
use Rattle.operations.specs.Trials.{never_holds}
use Rattle.operations.specs.Values.{Values}
use Rattle.operations.proofs.Exact.{never-holds_means}
use Rattle.chart.specs.Charts.{Chart, size, from, operation, row, can_be_taken, leaving}
use Rattle.chart.specs.inner.NoneNever.{NoneNever}
use Rattle.chart.specs.Faultless.{FaultlessChart}
use Rattle.chart.specs.Runs.{State, lets, ready, run, taken}
use Rattle.chart.proofs.Conflicts.{operands}
use Rattle.chart.proofs.Parts.{row_of, row_same}
use Rattle.chart.proofs.Reach.{run_none, run_ends}
use Rattle.chart.proofs.Taken.{let_other, not_assignment, values-after}
use Rattle.chart.proofs.Words.{Words}

module _ (t : List ℕ) (i : ℕ) where
  pub not_there : size t ≤ i → can_be_taken t i ≡ false
  unfolding can_be_taken
  not_there l = rw (le-ltb i (size t) l)

  -- where it is there, the test tells
  pub by_test : i < size t → can_be_taken t i ≡ not (never_holds (operation t i))
  unfolding can_be_taken
  by_test l = rw (lt-ltb i (size t) l)

  -- a row that can be taken is there, and is none that never holds
  pub takable : can_be_taken t i ≡ true → (i < size t) × (never_holds (operation t i) ≡ false)
  unfolding can_be_taken
  takable e = let z = and_true (ltb i (size t)) _ e in (ltb-true i (size t) z.0, not-true (never_holds (operation t i)) z.1)

-- ---- a table without rows that never hold
module _ (t : List ℕ) where
  abbrev nevers : ℕ → Bool
  nevers i = never_holds (operation t i)

  -- where none of all is found, there is none
  pub none_never : {Some : Bool} → Some ≡ some_below (size t) nevers → NoneNever Some t
  none_never e f i l = none-below_at nevers (size t) i (sym e ∙ f) l

-- the rows of a place are rows of the chart
pub part_none : {Some : Bool} (t : List ℕ) (p : ℕ) → NoneNever Some t → NoneNever Some (leaving t p)
part_none t p N f k l = let (i, r) = row_of t p k l in ap never_holds (row_same t p r).operation-same ∙ N f i r.inside

-- an operation that the values let be taken is none that never holds
pub let_takable : (o : Operation) (v : List ℕ) → Values v → Operands o → lets o v ≡ true → never_holds o ≡ false
let_takable o v W F t = go (never_holds o) refl
  where
    go : (b : Bool) → never_holds o ≡ b → b ≡ false
    go true e =
        let z = (never-holds_means o F).0 e in
        absurd (z.1 v W (let_other o v (not_assignment o z.0) t).1)
    go false e = refl

-- what it says that a row can be taken in a state
pub is-ready : (C : Chart) (s : State) (i : ℕ) → ready C s i ≡ true → (i < size C.table) × (from C.table i ≡ s.place) × (lets (operation C.table i) s.values ≡ true)
unfolding ready
is-ready C s i t =
    let a = and_true (ltb i (size C.table)) _ t in
    let b = and_true (eqb (from C.table i) s.place) _ a.1 in
    (ltb-true i (size C.table) a.0, eqb-true (from C.table i) s.place b.0, b.1)

-- no run takes a row that never holds
module _ (C : Chart) (F : FaultlessChart C) (words : Words C.table) where
  pub ready_takable : (s : State) (i : ℕ) → Values s.values → ready C s i ≡ true → can_be_taken C.table i ≡ true
  ready_takable s i W e =
      let r = is-ready C s i e in
      by_test C.table i r.0 ∙ ap not (let_takable (operation C.table i) s.values W (operands C F words.small i r.0) r.2)

  pub run_takable : (is : List ℕ) (s : State) (seen : List State) → Values s.values → run C s is ≡ Some seen → All (λ i. can_be_taken C.table i ≡ true) is
  run_takable [] s seen W e = tt
  run_takable (i ∷ is) s seen W e = go (run_takable is) (ready C s i) refl (run C (taken (row C.table i) s) is) refl
    where
      go : ((s : State) (seen : List State) → Values s.values → run C s is ≡ Some seen → All (λ k. can_be_taken C.table k ≡ true) is)
          → (b : Bool) → ready C s i ≡ b → (x : Option (List State)) → run C (taken (row C.table i) s) is ≡ x
          → (can_be_taken C.table i ≡ true) × All (λ k. can_be_taken C.table k ≡ true) is
      go later false d x f = absurd (none-some seen (sym (run_none C s i is d) ∙ e))
      go later true d None f = absurd (none-some seen (sym (run_ends C s i is d f) ∙ e))
      go later true d (Some more) f = (
        ready_takable s i W d,
        later (taken (row C.table i) s) more (values-after (operation C.table i) s.values (words.small (i * 6 + 5)) W) f,
      )
