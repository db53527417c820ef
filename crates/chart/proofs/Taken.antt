-- What an operation that is taken leaves, and when it can be taken. Assumes nothing.
use mathlib.Core.Path.{◌≡◌, refl, sym, subst, ◌∙◌}
use mathlib.Core.Bool.{Bool, true, false}
use mathlib.Core.Logic.{dite}
use mathlib.Core.List.{List}
use Prim.Native.Nat.{ℕ, ◌^◌, ◌<◌}
use native.Mathlib.Decide.{ℕ_discrete, dec_lt}
use native.Mathlib.Omega.{arith}
use lib.ListN.{length, set, length-set}
use lib.Seq.{get_or-set_same, get_or-set_other, set_out}
use Rattle.base.proofs.Tests.{T_true}
use Rattle.operations.specs.declared.Operation.{Operation}
use Rattle.operations.specs.declared.Kind.{Kind}
use Rattle.operations.specs.declared.Kind.TheVariants.{Assignment, ConstantComparison, VariableComparison, Unknown}
use Rattle.operations.specs.Operations.{kind, by_kind, is_assignment, is_assumption, value, holds}
use Rattle.operations.specs.Values.{Values, var}
use Rattle.operations.proofs.Meaning.{value-small}
use Rattle.chart.specs.Runs.{lets, after}

module _ (o : Operation) (v : List ℕ) where
  pub after-assignment : is_assignment o ≡ true → after o v ≡ set v o.a (value o (var v))
  unfolding after
  after-assignment t = go (kind o.code) t
    where
      go : (k : Kind) → by_kind k true false false false ≡ true → by_kind k (set v o.a (value o (var v))) v v v ≡ set v o.a (value o (var v))
      go Assignment t = refl
      go ConstantComparison t = absurd (T_true t)
      go VariableComparison t = absurd (T_true t)
      go Unknown t = absurd (T_true t)

  pub after_other : is_assignment o ≡ false → after o v ≡ v
  unfolding after
  after_other t = go (kind o.code) t
    where
      go : (k : Kind) → by_kind k true false false false ≡ false → by_kind k (set v o.a (value o (var v))) v v v ≡ v
      go Assignment t = absurd (T_true (sym t))
      go ConstantComparison t = refl
      go VariableComparison t = refl
      go Unknown t = refl

  -- an assignment can always be taken
  pub lets-assignment : is_assignment o ≡ true → lets o v ≡ true
  unfolding lets
  lets-assignment t = go (kind o.code) t
    where
      go : (k : Kind) → by_kind k true false false false ≡ true → by_kind k true (holds o (var v)) (holds o (var v)) false ≡ true
      go Assignment t = refl
      go ConstantComparison t = absurd (T_true t)
      go VariableComparison t = absurd (T_true t)
      go Unknown t = absurd (T_true t)

  pub lets-assumption : is_assumption o ≡ true → holds o (var v) ≡ true → lets o v ≡ true
  unfolding lets
  lets-assumption t h = go (kind o.code) t
    where
      go : (k : Kind) → by_kind k false true true false ≡ true → by_kind k true (holds o (var v)) (holds o (var v)) false ≡ true
      go Assignment t = absurd (T_true t)
      go ConstantComparison t = h
      go VariableComparison t = h
      go Unknown t = absurd (T_true t)

  -- what is taken and is no assignment is an assumption that holds
  pub let_other : is_assignment o ≡ false → lets o v ≡ true → (is_assumption o ≡ true) × (holds o (var v) ≡ true)
  unfolding lets
  let_other n t = go (kind o.code) n t
    where
      go : (k : Kind) → by_kind k true false false false ≡ false → by_kind k true (holds o (var v)) (holds o (var v)) false ≡ true
          → (by_kind k false true true false ≡ true) × (holds o (var v) ≡ true)
      go Assignment n t = absurd (T_true (sym n))
      go ConstantComparison n t = (refl, t)
      go VariableComparison n t = (refl, t)
      go Unknown n t = absurd (T_true t)

pub not_assignment : (o : Operation) → is_assumption o ≡ true → is_assignment o ≡ false
not_assignment o t = go (kind o.code) t
  where
    go : (k : Kind) → by_kind k false true true false ≡ true → by_kind k true false false false ≡ false
    go Assignment t = absurd (T_true t)
    go ConstantComparison t = refl
    go VariableComparison t = refl
    go Unknown t = absurd (T_true t)

-- 64 values of 32 bits stay so
pub values-after : (o : Operation) (v : List ℕ) → o.c < 2 ^ 32 → Values v → Values (after o v)
values-after o v hc W = go (is_assignment o) refl
  where
    wrote : is_assignment o ≡ true → (i : ℕ) → var (set v o.a (value o (var v))) i < 2 ^ 32
    wrote t i =
        dite (ℕ_discrete i o.a)
        (λ e. subst (λ (k : ℕ). var (set v o.a (value o (var v))) k < 2 ^ 32) (sym e) (dite (dec_lt o.a (length v))
        (λ l. rw (get_or-set_same v o.a (value o (var v)) 0 l) (value-small o t (var v) hc W.small))
        (λ l. rw (set_out v o.a (value o (var v)) (omega arith)) (W.small o.a))))
        (λ n. rw (get_or-set_other v o.a i (value o (var v)) 0 n) (W.small i))

    go : (b : Bool) → is_assignment o ≡ b → Values (after o v)
    go true t = subst Values (sym (after-assignment o v t)) (record { count = length-set v o.a (value o (var v)) ∙ W.count; small = wrote t })
    go false t = subst Values (sym (after_other o v t)) W
