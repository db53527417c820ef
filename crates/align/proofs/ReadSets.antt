-- The variables that an operation reads, joined from its operands. Assumes nothing.
use mathlib.Core.Path.{◌≡◌, refl, sym, ap, ◌∙◌}
use mathlib.Core.Bool.{Bool, true, false, cond}
use mathlib.Core.List.{List, [], ◌∷◌, ◌++◌}
use Prim.Native.Nat.{ℕ, ◌<◌}
use lib.Bits.{bit_or, or_zero_l, or_zero_r, or_self}
use Rattle.base.proofs.Tests.{and_true, T_true}
use lib.Dec.{leb}
use Rattle.operations.specs.declared.Operation.{Operation}
use Rattle.operations.specs.declared.Kind.{Kind}
use Rattle.operations.specs.declared.Kind.TheVariants.{Assignment, ConstantComparison, VariableComparison, Unknown}
use Rattle.operations.specs.declared.Operand.{Operand}
use Rattle.operations.specs.declared.Operand.TheVariants.{Variable, Constant, Unused}
use Rattle.operations.specs.Operations.{kind, by_kind, is_known, is_assignment, is_assumption, operand_b, operand_c, fits, operands_fit, if_variable, reads, with_constant}
use Rattle.operations.specs.Trials.{partner}
use Rattle.operations.proofs.Codes.{fit-a, fit-b}
use Rattle.sets.specs.Sets.{alone, joined, set_of}
use Rattle.align.specs.Reads.{read_set}

-- a list of one variable or none before others
first-joined : (operand : Operand) (x : ℕ) (l : List ℕ) → set_of (if_variable operand x ++ l) ≡ joined (set_of (if_variable operand x)) (set_of l)
unfolding set_of joined
first-joined Variable x l = ap (λ (s : ℕ). bit_or s (set_of l)) (sym (or_zero_r (alone x)))
first-joined Constant x l = sym (or_zero_l (set_of l))
first-joined Unused x l = sym (or_zero_l (set_of l))

module _ (o : Operation) where
  -- a code that is known is that of an assumption, if not of an assignment
  pub assuming : is_known o ≡ true → is_assignment o ≡ false → is_assumption o ≡ true
  assuming k n = go (kind o.code) k n
    where
      go : (k : Kind) → by_kind k true true true false ≡ true → by_kind k true false false false ≡ false → by_kind k false true true false ≡ true
      go Assignment t n = absurd (T_true (sym n))
      go ConstantComparison t n = refl
      go VariableComparison t n = refl
      go Unknown t n = absurd (T_true t)

  -- ---- an assignment reads what is on its right
  pub reads-assignment : {r : ℕ} → is_assignment o ≡ true → r ≡ joined (set_of (if_variable (operand_b o) o.b)) (set_of (if_variable (operand_c o) o.c)) → r ≡ read_set o
  unfolding read_set reads
  reads-assignment t e = e ∙ sym (first-joined (operand_b o) o.b (if_variable (operand_c o) o.c)) ∙ ap (λ (l : List ℕ). set_of (l ++ (if_variable (operand_b o) o.b ++ if_variable (operand_c o) o.c))) (none-compared (kind o.code) t)
    where
      none-compared : (k : Kind) → by_kind k true false false false ≡ true → [] ≡ by_kind k [] (o.a ∷ []) (o.a ∷ []) []
      none-compared Assignment t = refl
      none-compared ConstantComparison t = absurd (T_true t)
      none-compared VariableComparison t = absurd (T_true t)
      none-compared Unknown t = absurd (T_true t)

  -- ---- an assumption reads va and the other that it compares, which is va again beside a constant
  reads-constant : kind o.code ≡ ConstantComparison → joined (alone o.a) (alone (partner o)) ≡ read_set o
  unfolding read_set reads operand_b operand_c set_of joined
  reads-constant k = rw k (or_self (alone o.a) ∙ sym (or_zero_r (alone o.a)))

  reads-variable : kind o.code ≡ VariableComparison → joined (alone o.a) (alone (partner o)) ≡ read_set o
  unfolding read_set reads operand_b operand_c set_of joined
  reads-variable k = rw k (ap (bit_or (alone o.a)) (sym (or_zero_r (alone o.b))))

  pub reads-assumption : is_assumption o ≡ true → joined (alone o.a) (alone (partner o)) ≡ read_set o
  reads-assumption t = go (kind o.code) refl
    where
      go : (k : Kind) → kind o.code ≡ k → joined (alone o.a) (alone (partner o)) ≡ read_set o
      go Assignment k = absurd (T_true (rw k at t))
      go ConstantComparison k = reads-constant k
      go VariableComparison k = reads-variable k
      go Unknown k = absurd (T_true (rw k at t))

  -- operands that fit, one by one
  pub fits-b : operands_fit o ≡ true → fits (operand_b o) o.b ≡ true
  unfolding operands_fit
  fits-b h = (and_true (fits (operand_b o) o.b) _ (and_true (leb o.a 63) _ h).1).0

  pub fits-c : operands_fit o ≡ true → fits (operand_c o) o.c ≡ true
  unfolding operands_fit
  fits-c h = (and_true (fits (operand_b o) o.b) _ (and_true (leb o.a 63) _ h).1).1

  -- the other variable that it compares is one of 64
  pub partner-fits : operands_fit o ≡ true → partner o < 64
  partner-fits h = go (with_constant o)
    where
      go : (b : Bool) → cond b o.a o.b < 64
      go true = fit-a o h
      go false = fit-b o h
