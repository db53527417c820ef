-- Operations: their kinds, what they read and write, and what they mean ("Charts and rows").
-- An operation is the code "op" of a row with its operands a, b and c. Values are given by number of the variable.
use Rattle.std.specs.Prelude.{ℕ, ◌+◌, ◌-◌, ◌/◌, ◌%◌, ◌^◌, Bool, true, false, cond, not, ◌&&◌, List, [], ◌∷◌, ◌++◌, get_or, ◌==◌, nat_le, nat_lt, slice_index_or}
use Rattle.base.specs.Tests.{within}
use Rattle.operations.specs.declared.Operation.{Operation}
use Rattle.operations.specs.declared.Kind.{Kind}
use Rattle.operations.specs.declared.Kind.TheVariants.{Assignment, ConstantComparison, VariableComparison, Unknown}
use Rattle.operations.specs.declared.Operand.{Operand}
use Rattle.operations.specs.declared.Operand.TheVariants.{Variable, Constant, Unused}

-- ---- kinds
-- "Operation codes run 0 to 5, 16 to 21 and 32 to 37": assignments, comparisons with a constant, comparisons of two
-- variables; "Codes 24 to 29 and 40 to 45 repeat 16 to 21 and 32 to 37" (document 02, #102)
unfoldable pub kind : ℕ → Kind
kind code =
    cond (within 0 5 code) Assignment
    (cond (within 16 21 code) ConstantComparison
    (cond (within 24 29 code) ConstantComparison
    (cond (within 32 37 code) VariableComparison (cond (within 40 45 code) VariableComparison Unknown))))

-- what is said of each kind: "match on the code with ranges for assignments, constant and two-variable comparisons, and
-- the unknown rest"
abbrev pub by_kind : {A : Type 0} → Kind → A → A → A → A → A
by_kind Assignment w x y z = w
by_kind ConstantComparison w x y z = x
by_kind VariableComparison w x y z = y
by_kind Unknown w x y z = z

-- not "6 unknown op"
abbrev pub is_known : Operation → Bool
is_known o = by_kind (kind o.code) true true true false

-- "Assignments to va": codes 0 to 5
abbrev pub is_assignment : Operation → Bool
is_assignment o = by_kind (kind o.code) true false false false

-- "Assumptions: 16 + r compares va with c; 32 + r compares va with vb", and the twelve codes that repeat these
abbrev pub is_assumption : Operation → Bool
is_assumption o = by_kind (kind o.code) false true true false

-- ---- operands
-- "Unused operands are 0: b in codes 0 and 16 to 21; c in codes 1, 5 and 32 to 37". It goes by the kind of a code, so
-- that b is unused in 24 to 29 too: "7 treats them as the unsigned ones" (document 02, #102)
unfoldable pub operand_b : Operation → Operand
operand_b o = by_kind (kind o.code) (cond (o.code == 0) Unused Variable) Unused Variable Unused

-- c in the codes 0 to 5, in order: "0 c; 1 vb; 2 vb + c; 3 vb + v(c); 4 vb − v(c); 5 0 − vb"
unfoldable pub assigned_c : ℕ → Operand
assigned_c code = slice_index_or (Constant ∷ Unused ∷ Constant ∷ Variable ∷ Variable ∷ Unused ∷ []) code Unused

-- "c in codes 1, 5 and 32 to 37" is unused, and in 40 to 45, which "7 treats .. as the unsigned ones"
unfoldable pub operand_c : Operation → Operand
operand_c o = by_kind (kind o.code) (assigned_c o.code) Constant Unused Unused

-- a number in an operand's place: not "variable above 63 or an unused operand not 0"; a constant is any number
abbrev pub fits : Operand → ℕ → Bool
fits Variable x = nat_le x 63
fits Constant x = true
fits Unused x = x == 0

-- not "7 variable above 63 or an unused operand not 0"; a is a variable in every code
unfoldable pub operands_fit : Operation → Bool
operands_fit o = nat_le o.a 63 && (fits (operand_b o) o.b && fits (operand_c o) o.c)

-- of "the variables on its right": the operand, if it is one
abbrev pub if_variable : Operand → ℕ → List ℕ
if_variable Variable x = x ∷ []
if_variable Constant x = []
if_variable Unused x = []

-- "An assignment writes va and reads the variables on its right; an assumption reads those it compares."
unfoldable pub reads : Operation → List ℕ
reads o =
    by_kind (kind o.code) [] (o.a ∷ []) (o.a ∷ []) []
    ++ (if_variable (operand_b o) o.b ++ if_variable (operand_c o) o.c)

-- "Two operations are equal when op, a, b, c are."
unfoldable pub same : Operation → Operation → Bool
same o o' = o.code == o'.code && (o.a == o'.a && (o.b == o'.b && o.c == o'.c))

-- ---- assignments
-- "Here sums and differences wrap at 4,294,967,296": the sum
abbrev pub plus : ℕ → ℕ → ℕ
plus x y = (x + y) % 2 ^ 32

-- "Here sums and differences wrap at 4,294,967,296": the difference, of assignments now that of code 5 alone, "Codes 2,
-- 3 and 5 go on wrapping" (document 02, #105); and a distance in an order, below
abbrev pub minus : ℕ → ℕ → ℕ
minus x y = (x + (2 ^ 32 - y)) % 2 ^ 32

-- "code 4, fuel less burn, now gives 0 where the subtrahend is larger" (document 02, #105): the difference of ℕ, which
-- is 0 there
abbrev pub monus : ℕ → ℕ → ℕ
monus x y = x - y

-- "Assignments to va: 0 c; 1 vb; 2 vb + c; 3 vb + v(c); 4 vb − v(c); 5 0 − vb", code 4 as #105 amends it
unfoldable pub value : Operation → (ℕ → ℕ) → ℕ
value o v =
    get_or
    (o.c
    ∷ v o.b
    ∷ plus (v o.b) o.c
    ∷ plus (v o.b) (v o.c)
    ∷ monus (v o.b) (v o.c)
    ∷ minus 0 (v o.b)
    ∷ []) o.code 0

-- ---- orders
-- An order of the values is given by its least one: from there on they ascend by 1, and after 4,294,967,295 comes 0.
-- "unsigned": from 0 on
abbrev pub unsigned : ℕ
unsigned = 0

-- "values read as two's complement of 32 bits" (document 02, #102): from -2^31 on, which is written 2^31
abbrev pub signed : ℕ
signed = 2 ^ 31

-- the order in which an operation compares: "Codes 24 to 29 and 40 to 45" are signed, and 24 and 40 are odd multiples
-- of 8, 16 and 32 even ones
abbrev pub order : Operation → ℕ
order o = cond (o.code / 8 % 2 == 1) signed unsigned

-- where x stands in the order with this least value: how many values come before it
abbrev pub key : ℕ → ℕ → ℕ
key least x = minus x least

-- ---- assumptions
-- "r: 0 =, 1 ≠, 2 <, 3 ≤, 4 >, 5 ≥"
unfoldable pub related : ℕ → ℕ → ℕ → Bool
related r x y =
    slice_index_or ((x == y) ∷ not (x == y) ∷ nat_lt x y ∷ nat_le x y ∷ nat_lt y x ∷ nat_le y x ∷ []) r false

-- whether r holds of two values in the order with this least value: "values read as two's complement of 32 bits,
-- constants too" (document 02, #102)
abbrev pub related_in : ℕ → ℕ → ℕ → ℕ → Bool
related_in least r x y = related r (key least x) (key least y)

-- the r of "16 + r" and "32 + r", and of 24 + r and 40 + r, all multiples of 8
abbrev pub relation : Operation → ℕ
relation o = o.code % 8

-- "16 + r compares va with c", and so does 24 + r
abbrev pub with_constant : Operation → Bool
with_constant o = by_kind (kind o.code) false true false false

-- "16 + r compares va with c; 32 + r compares va with vb"
abbrev pub right : Operation → (ℕ → ℕ) → ℕ
right o v = cond (with_constant o) o.c (v o.b)

-- "an assumption must hold of the values": whether it does
unfoldable pub holds : Operation → (ℕ → ℕ) → Bool
holds o v = related_in (order o) (relation o) (v o.a) (right o v)
