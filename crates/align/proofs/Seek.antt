-- The loop that looks for the first row of a place that is as sought. Assumes nothing.
use mathlib.Core.Path.{◌≡◌, refl, sym, ap, subst, ◌∙◌}
use mathlib.Core.Bool.{Bool, true, false, cond, ◌&&◌}
use mathlib.Core.Logic.{dite}
use mathlib.Core.List.{List}
use Rattle.std.specs.Prelude.{Option, None, Some}
use Rattle.std.proofs.Common.{MatchOption}
use Rattle.std.specs.Bool.{then_some}
use Prim.Native.Nat.{ℕ, zero, suc, ◌+◌, ◌≤◌, ◌<◌}
use native.Mathlib.Omega.{arith}
use native.Mathlib.Decide.{ℕ_discrete}
use Rattle.base.specs.Options.{when, missing, first_of}
use Rattle.base.proofs.OnSome.{on_at}
use Rattle.base.proofs.Tests.{and_false}
use Rattle.base.proofs.Options.{first_at_lem, none_at, none_all, none_everywhere}
use Rattle.operations.specs.declared.Operation.{Operation}
use Rattle.operations.specs.Operations.{is_assumption}
use Rattle.operations.specs.Trials.{never, implies, implication}
use Rattle.operations.specs.declared.assumptions.Implication.TheVariants.{Implied, NotImplied}
use Rattle.chart.specs.Charts.{size, operation}
use Rattle.align.specs.Steps.{find, is_implied}
use Rattle.align.proofs.Onto.{found}

module _ (rows : List ℕ) (p : Operation → Bool) where
  -- no row before row k is as sought
  pub record NoneBefore (k : ℕ) : Type 0 where
    pub within : k ≤ size rows
    pub rest : first_of k (λ k. when (p (operation rows k)) k) ≡ None

  pub none_at_first : NoneBefore 0
  unfolding first_of
  none_at_first = record { within = omega arith; rest = refl }

  module _ {k : ℕ} (N : NoneBefore k) where
    pub found_here : k < size rows → {r : Bool} → r ≡ p (operation rows k) → r ≡ true → Some k ≡ find rows p
    unfolding find
    found_here l e t = sym (first_at_lem (λ k. when (p (operation rows k)) k) (size rows) k l N.rest (ap (λ (b : Bool). missing (when b k)) (sym e ∙ t)) ∙ ap (λ (b : Bool). when b k) (sym e ∙ t))

    pub not_here : k < size rows → {r : Bool} → r ≡ p (operation rows k) → r ≡ false → NoneBefore (k + 1)
    not_here l e t = record { within = omega arith; rest = none_at (λ k. when (p (operation rows k)) k) k N.rest (ap (λ (b : Bool). missing (when b k)) (sym e ∙ t)) }

    pub nowhere : size rows ≤ k → None ≡ find rows p
    unfolding find
    nowhere l = none_all (λ k. when (p (operation rows k)) k) (size rows) k N.within l N.rest

  -- the first row is not, and no later one
  pub only_first : {r : Bool} → r ≡ p (operation rows 0) → r ≡ false → ((k : ℕ) → 0 < k → k < size rows → p (operation rows k) ≡ false) → None ≡ find rows p
  unfolding find
  only_first e t later = sym (none_everywhere (λ k. when (p (operation rows k)) k) (size rows) each)
    where
      each : (i : ℕ) → i < size rows → when (p (operation rows i)) i ≡ None
      each zero l = ap (λ (b : Bool). when b 0) (sym e ∙ t)
      each (suc i) l = ap (λ (b : Bool). when b (suc i)) (later (suc i) (omega arith) l)

  -- no operation is
  pub none_sought : ((o : Operation) → p o ≡ false) → None ≡ find rows p
  unfolding find
  none_sought h = sym (none_everywhere (λ k. when (p (operation rows k)) k) (size rows) (λ i l. ap (λ (b : Bool). when b i) (h (operation rows i))))

  -- what is found is a row, and as sought
  pub found_inside : (k : ℕ) → Some k ≡ find rows p → k < size rows
  found_inside k e = (on_at _ (found rows p {P = λ o. p o ≡ true} (λ o t. t)) (sym e)).inside

-- ---- where no row but the first passes
first_alone : (rows : List ℕ) (f : Operation → Bool) → ((k : ℕ) → 0 < k → k < size rows → f (operation rows k) ≡ false)
    → 0 < size rows → find rows f ≡ when (f (operation rows 0)) 0
first_alone rows f later l = go (f (operation rows 0)) refl
  where
    go : (b : Bool) → f (operation rows 0) ≡ b → find rows f ≡ when b 0
    go true e = sym (found_here rows f (none_at_first rows f) l refl e)
    go false e = sym (only_first rows f refl e later)

-- what a filter keeps of it is the row that passes both tests
module _ (rows : List ℕ) (f g : Operation → Bool) (later : (k : ℕ) → 0 < k → k < size rows → f (operation rows k) ≡ false) (Gives : ℕ → Bool → Type 0) (means : (k : ℕ) (b : Bool) → Gives k b → b ≡ g (operation rows k)) (r : Option ℕ) where
  abbrev Kept : Option ℕ → Type 0
  Kept x = MatchOption x (r ≡ None) (λ k. (b : Bool) × Gives k b × (r ≡ then_some b k))

  kept_by : (b c : Bool) → r ≡ then_some b 0 → b ≡ c → r ≡ when c 0
  kept_by true c e q = e ∙ ap (λ (b : Bool). when b 0) q
  kept_by false c e q = e ∙ ap (λ (b : Bool). when b 0) q

  kept_of : (a : Bool) → Kept (when a 0) → r ≡ when (a && g (operation rows 0)) 0
  kept_of true (b, z, e) = kept_by b (g (operation rows 0)) e (means 0 b z)
  kept_of false e = e

  pub filtered : {x : Option ℕ} → x ≡ find rows f → Kept x → r ≡ find rows (λ o. f o && g o)
  filtered e K =
      dite (ℕ_discrete (size rows) 0)
      (λ z. subst Kept (e ∙ sym (nowhere rows f (none_at_first rows f) (omega arith))) K ∙ nowhere rows (λ o. f o && g o) (none_at_first rows (λ o. f o && g o)) (omega arith))
      (λ z. kept_of (f (operation rows 0)) (subst Kept (e ∙ first_alone rows f later (omega arith)) K) ∙ sym (first_alone rows (λ o. f o && g o) (λ k a b. rw (later k a b)) (omega arith)))

-- ---- what an assumption implies
-- nothing, where no values meet it
pub never-implies : (rows : List ℕ) (o : Operation) → never o ≡ true → None ≡ find rows (λ o2. is_assumption o2 && is_implied (implication o o2))
never-implies rows o n = none_sought rows (λ o2. is_assumption o2 && is_implied (implication o o2)) (λ o2. rw n (and_false (is_assumption o2)))

-- else what all values that meet it meet
pub met_implies : (o o2 : Operation) → never o ≡ false → implies o o2 ≡ is_implied (implication o o2)
met_implies o o2 n = rw n (go (implies o o2))
  where
    go : (b : Bool) → b ≡ is_implied (cond b Implied NotImplied)
    go true = refl
    go false = refl
