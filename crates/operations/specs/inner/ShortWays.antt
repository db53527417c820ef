-- Short ways of the test of two assumptions: where fewer trials, or none, are enough (for src/inner/trials.rt).
use Rattle.std.specs.Prelude.{ℕ, ◌-◌, ◌^◌, Bool, cond, not, ◌&&◌, ◌||◌, ◌==◌, nat_lt}
use Rattle.operations.specs.declared.Operation.{Operation}
use Rattle.operations.specs.Operations.{with_constant, order, key, relation, related_in}
use Rattle.operations.specs.Trials.{alike, partner, compares, inside}

-- both compare two variables, and f only those that g compares: only the order of the two matters
abbrev pub paired : Operation → Operation → Bool
paired f g = (not (with_constant f) && not (with_constant g)) && inside f g

-- f compares a variable with itself: all values make the same of it
abbrev pub fixed : Operation → Bool
fixed f = not (with_constant f) && f.a == f.b

-- f and g compare no variable in common
abbrev pub disjoint : Operation → Operation → Bool
disjoint f g = not (compares g f.a) && not (compares g (partner f))

-- what f makes of values has nothing to do with what g makes of them
unfoldable pub independent : Operation → Operation → Bool
independent f g = (disjoint f g || fixed f) || fixed g

-- va can be below, and above, what f compares it with: a constant that is not the least, or not the greatest, value of
-- its order
abbrev pub can_be_below : Operation → Bool
can_be_below f = cond (with_constant f) (nat_lt 0 (key (order f) f.c)) (not (f.a == f.b))

abbrev pub can_be_above : Operation → Bool
can_be_above f = cond (with_constant f) (nat_lt (key (order f) f.c) (2 ^ 32 - 1)) (not (f.a == f.b))

-- so many points at the front are known to stand again after them, and need no trial: none in two orders; in one order
-- three, and two more for each bound that is its least value
unfoldable pub repeated : ℕ → ℕ → ℕ → ℕ → ℕ
repeated s t c d = cond (s == t) (cond (c == t) (cond (d == t) 7 5) (cond (d == t) 5 3)) 0

-- x meets f as p says, where f compares with its constant: one value is tried at a time
abbrev pub meets : Operation → Bool → ℕ → Bool
meets f p x = alike p (related_in (order f) (relation f) x f.c)

-- it meets both
abbrev pub meets_both : Operation → Bool → Operation → Bool → ℕ → Bool
meets_both f p g q x = meets f p x && meets g q x
