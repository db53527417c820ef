-- What an operation does depends only on the variables that it reads, and what it writes is a u32. Assumes nothing.
use Rattle.std.proofs.Common.{◌≡◌, ℕ, ◌+◌, ◌-◌, ◌^◌, ◌<◌, ◌≤◌, true, false, cond, eqb, List, [], ◌∷◌, ◌++◌, sym, refl, ap, subst, ap₂, mod-lt, arith, pow_pos}
use native.Mathlib.Decide.{ℕ_discrete}
use Rattle.base.proofs.Lists.{All}
use Rattle.base.proofs.Tests.{T_true}
use Rattle.operations.specs.declared.Operation.{Operation}
use Rattle.operations.specs.declared.Kind.{Kind}
use Rattle.operations.specs.declared.Kind.TheVariants.{Assignment, ConstantComparison, VariableComparison, Unknown}
use Rattle.operations.specs.declared.Operand.TheVariants.{Variable, Unused}
use Rattle.operations.specs.Operations.{kind, by_kind, is_assignment, is_assumption, operand_b, assigned_c, operand_c, if_variable, reads, plus, minus, monus, value, order, relation, related_in, holds}
use Rattle.operations.proofs.Codes.{assigning}

-- f and g agree on the variables listed
abbrev pub Agree : (ℕ → ℕ) → (ℕ → ℕ) → List ℕ → Type 0
Agree f g l = All (λ i. f i ≡ g i) l

-- ---- an assignment has one of the codes 0 to 5
abbrev coded : ℕ → Operation → Operation
coded k o = record { code = k; a = o.a; b = o.b; c = o.c }

by_code : (P : Operation → Type 0) (o : Operation) → o.code ≤ 5
    → P (coded 0 o) → P (coded 1 o) → P (coded 2 o) → P (coded 3 o) → P (coded 4 o) → P (coded 5 o) → P o
by_code P o l p0 p1 p2 p3 p4 p5 =
    elim (ℕ_discrete o.code 0) [
      | yes e ↦ is 0 e p0
      | no n0 ↦ elim (ℕ_discrete o.code 1) [
        | yes e ↦ is 1 e p1
        | no n1 ↦ elim (ℕ_discrete o.code 2) [
          | yes e ↦ is 2 e p2
          | no n2 ↦ elim (ℕ_discrete o.code 3) [ yes e ↦ is 3 e p3 | no n3 ↦ elim (ℕ_discrete o.code 4) [ yes e ↦ is 4 e p4 | no n4 ↦ is 5 (omega arith) p5 ] ]
        ]
      ]
    ]
  where
    is : (k : ℕ) → o.code ≡ k → P (coded k o) → P o
    is k e p = subst P (λ i. coded (sym e i) o) p

-- ---- the value written
pub value-reads : (o : Operation) → is_assignment o ≡ true → (f g : ℕ → ℕ) → Agree f g (reads o) → value o f ≡ value o g
unfolding reads operand_b operand_c assigned_c kind value
value-reads o t f g =
    by_code (λ o. Agree f g (reads o) → value o f ≡ value o g) o (assigning o.code t)
    (λ h. refl)
    (λ h. h.0)
    (λ h. ap (λ (x : ℕ). plus x o.c) h.0)
    (λ h. ap₂ plus h.0 h.1.0)
    (λ h. ap₂ monus h.0 h.1.0)
    (λ h. ap (minus 0) h.0)

pub value-small : (o : Operation) → is_assignment o ≡ true → (v : ℕ → ℕ) → o.c < 2 ^ 32 → ((i : ℕ) → v i < 2 ^ 32) → value o v < 2 ^ 32
unfolding value
value-small o t v hc hv =
    by_code (λ o. o.c < 2 ^ 32 → value o v < 2 ^ 32) o (assigning o.code t)
    (λ h. h)
    (λ h. hv o.b)
    (λ h. mod-lt (v o.b + o.c) (pow_pos 32))
    (λ h. mod-lt (v o.b + v o.c) (pow_pos 32))
    (λ h. omega (arith, hv o.b))
    (λ h. mod-lt (0 + (2 ^ 32 - v o.b)) (pow_pos 32)) hc

-- ---- whether an assumption holds
pub holds-reads : (o : Operation) → is_assumption o ≡ true → (f g : ℕ → ℕ) → Agree f g (reads o) → holds o f ≡ holds o g
unfolding reads operand_b holds
holds-reads o t f g h = go (kind o.code) t h
  where
    go : (k : Kind) → by_kind k false true true false ≡ true
        → Agree f g (by_kind k [] (o.a ∷ []) (o.a ∷ []) [] ++ (if_variable (by_kind k (cond (eqb o.code 0) Unused Variable) Unused Variable Unused) o.b ++ if_variable (operand_c o) o.c))
        → related_in (order o) (relation o) (f o.a) (cond (by_kind k false true false false) o.c (f o.b))
        ≡ related_in (order o) (relation o) (g o.a) (cond (by_kind k false true false false) o.c (g o.b))
    go Assignment t h = absurd (T_true t)
    go ConstantComparison t h = ap (λ (x : ℕ). related_in (order o) (relation o) x o.c) h.0
    go VariableComparison t h = ap₂ (related_in (order o) (relation o)) h.0 h.1.0
    go Unknown t h = absurd (T_true t)
