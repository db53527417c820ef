-- The test of two assumptions, as it is computed: "One assumption implies another exactly if all values meeting the
-- first meet the second"; and of two rows of one place, "exactly one holds, for all values". Both assumptions are tried
-- on a few values that stand for all. That the answers are those of Assumptions.antt, over all values, is proved
-- (proofs/Exact.antt): whoever believes that file may pass over this one.
use Rattle.std.specs.Prelude.{ℕ, Bool, true, false, cond, not, ◌&&◌, ◌||◌, List, [], ◌∷◌, ◌==◌, Some, None, unwrap_or}
use Rattle.base.specs.Lists.{any}
use Rattle.operations.specs.declared.Operation.{Operation}
use Rattle.operations.specs.declared.assumptions.Implication.{Implication}
use Rattle.operations.specs.declared.assumptions.Implication.TheVariants.{Never, Implied, NotImplied}
use Rattle.operations.specs.declared.inner.trials.Seats.{Seats}
use Rattle.operations.specs.Operations.{is_assumption, with_constant, plus, minus, order, holds}

-- ---- "all values": the few that stand for them
-- "all values meeting the first meet the second", of one pair of values: the second is as the first says
abbrev pub alike : Bool → Bool → Bool
alike true b = b
alike false b = not b

-- the second variable that an assumption compares, if any, else the first: "compares va with c", "compares va with vb"
abbrev pub partner : Operation → ℕ
partner f = cond (with_constant f) f.a f.b

-- "compares va with c", "compares va with vb": it compares variable k
abbrev pub compares : Operation → ℕ → Bool
compares f k = k == f.a || k == partner f

-- of "those it compares": f compares only variables that g compares
abbrev pub inside : Operation → Operation → Bool
inside f g = compares g f.a && compares g (partner f)

-- of "those it compares", where f is not inside g: a variable that f compares and g does not
abbrev pub own : Operation → Operation → ℕ
own f g = cond (compares g f.a) (partner f) f.a

-- for "all values", x to one variable and y to all others
abbrev pub joint : ℕ → Seats
joint i = record { first = i; second = i; rest = None }

-- for "all values", which variables a trial gives x and y to: where one is inside the other, x to its first variable
-- and y to all others; else x and y to a variable that only f and only g compares, and to all others a value that is at
-- no end of either order
unfoldable pub seats : Operation → Operation → Seats
seats f g =
    cond (inside f g) (joint f.a)
    (cond (inside g f) (joint g.a)
    (record { first = own f g; second = own g f; rest = Some (plus (order f) 1) }))

-- one of "all values", the trial with x and y: the value that it gives to variable k
unfoldable pub trial : Seats → ℕ → ℕ → ℕ → ℕ
trial s x y k = cond (k == s.first) x (cond (k == s.second) y (unwrap_or s.rest y))

-- the c of "compares va with c", where f has it; else the least value of its order, which is tried anyway
abbrev pub bound : Operation → ℕ
bound f = cond (with_constant f) f.c (order f)

-- of "all values" those that are tried: where a comparison with c in the order from s on, or with d in the order from t
-- on, can change; and of both orders the greatest value, the least and the one after it
abbrev pub points : ℕ → ℕ → ℕ → ℕ → List ℕ
points s t c d =
    minus s 1 ∷ s ∷ plus s 1 ∷ t ∷ plus t 1 ∷ c ∷ plus c 1 ∷ d ∷ plus d 1 ∷ minus t 1 ∷ []

-- of "all values" those that are tried on f and g
abbrev pub points_of : Operation → Operation → List ℕ
points_of f g = points (order f) (order g) (bound f) (bound g)

-- "values meeting the first meet the second", or not: the trial with x and y meets f or not as p says, and g as q says
unfoldable pub shown : Seats → Operation → Bool → Operation → Bool → ℕ → ℕ → Bool
shown s f p g q x y = alike p (holds f (trial s x y)) && alike q (holds g (trial s x y))

-- the same of "all values" with this x that are tried: the trial with x and some y of a list shows it
abbrev pub shown_by : Seats → Operation → Bool → Operation → Bool → List ℕ → ℕ → Bool
shown_by s f p g q l x = any (shown s f p g q x) l

-- of "all values" some meet f or not as p says, and g as q says: some trial shows it
unfoldable pub together : Operation → Bool → Operation → Bool → Bool
together f p g q = any (shown_by (seats f g) f p g q (points_of f g)) (points_of f g)

-- ---- the answers
-- not "some values meet the new assumption"
abbrev pub never : Operation → Bool
never f = not (together f true f true)

-- "A new row that never holds" (document 02, #101): an assumption that no values meet. The kind is asked for first:
-- what `never` says of an assignment means nothing
unfoldable pub never_holds : Operation → Bool
never_holds o = is_assumption o && never o

-- "all values meeting the first meet the second"
abbrev pub implies : Operation → Operation → Bool
implies f g = not (together f true g false)

-- "exactly one holds, for all values"
abbrev pub exclusive : Operation → Operation → Bool
exclusive f g = not (together f true g true) && not (together f false g false)

-- the test of the step: "only if some values meet the new assumption, the old assumption at p that it implies"
abbrev pub implication : Operation → Operation → Implication
implication f g = cond (never f) Never (cond (implies f g) Implied NotImplied)
