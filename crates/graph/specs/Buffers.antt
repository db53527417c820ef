-- The four lent buffers as one value, and what a build does to them ("The builder"). Between turns they are the whole
-- state of Algorithm 2: marks tell its N_l (pairs) and Δ (kept places), targets E_l, sets V_δ, and waiting its
-- waitlist.
use Rattle.std.specs.Prelude.{Bool, true, false, ◌&&◌, ◌||◌, not, List, ℕ, ◌/◌, eqb, ltb, get_or, set}
use Rattle.base.specs.Walks.{pass}
use Rattle.chart.specs.declared.places.NewPlace.{NewPlace}
use Rattle.chart.specs.Places.{kept_number, old_of, new_of}
use Rattle.sets.specs.Sets.{joined, holds_all}
use Rattle.records.specs.Records.{Graph, graph_of, index}

-- "Lent: marks (4,160 bytes), targets (8,192 u16 [..]), sets (4,096 u64 [..]), waiting (4,096 bytes)"
pub record Buffers : Type 0 where
  pub marks : List ℕ
  pub targets : List ℕ
  pub sets : List ℕ
  pub waiting : List ℕ

-- "Lent: marks [..], targets [..], sets [..], waiting [..]": as the code has them, in lent slices
abbrev pub buffers : List ℕ → List ℕ → List ℕ → List ℕ → Buffers
buffers m t s w = record { marks = m; targets = t; sets = s; waiting = w }

-- "a record (start, marks, targets, sets)": what they have of it, the graph
abbrev pub graph_in : Buffers → Graph
graph_in b = graph_of b.marks b.targets b.sets

-- ---- nodes
-- a node that is "in the graph", or "kept": between turns its mark is 1, else "0 absent"
unfoldable pub marked : List ℕ → ℕ → Bool
marked m n = not (eqb (get_or m n 0) 0)

-- ---- lines 23 to 25: "q2 becomes kept, all pairs with new place q2 leave the graph and the waiting list"
-- v at the pairs with new place q
unfoldable pub gone : NewPlace → ℕ → ℕ → ℕ → ℕ
gone q v i x = elim (ltb i 4096 && eqb (new_of i).0 q.0) [ true ↦ v | false ↦ x ]

-- marks, sets and flags of these pairs: "sets of absent pairs are 0"
unfoldable pub cleared : NewPlace → List ℕ → List ℕ
cleared q l = pass (gone q 0) 0 l

-- the same of the targets, two to a pair: "unused targets are 65535"
unfoldable pub untargeted : NewPlace → List ℕ → List ℕ
untargeted q l = pass (λ j x. gone q 65535 (j / 2) x) 0 l

-- "q2 becomes kept", and these pairs leave all four
unfoldable pub keep : Buffers → NewPlace → Buffers
keep g q =
    buffers (set (cleared q g.marks) (kept_number q) 1) (untargeted q g.targets) (cleared q g.sets)
    (cleared q g.waiting)

-- ---- lines 24 and 33: the target of row r of pair n, "at 2 × pair + 0 or 1 for a place's first and second row". A
-- pair that left the graph while its rows are in hand stores none: "A target is unused where the pair is absent"
unfoldable pub aim : Buffers → ℕ → ℕ → ℕ → Buffers
aim g n r to =
    elim (marked g.marks n) [
      | true ↦ buffers g.marks (set g.targets (index n r) to) g.sets g.waiting
      | false ↦ g
    ]

-- ---- lines 29 to 32: pair n "joins the graph and its set gains the step's set"
-- line 29: "It waits (again) if it was new or its set grew, unless its old place is the old alarm."
unfoldable pub due : ℕ → List ℕ → List ℕ → ℕ → ℕ → Bool
due alarm m s n v = not (eqb (old_of n).0 alarm) && (not (marked m n) || not (holds_all (get_or s n 0) v))

-- "It waits (again)": a pair that is due waits; another does as it did (line 30)
unfoldable pub waits : Bool → List ℕ → ℕ → List ℕ
waits true w n = set w n 1
waits false w n = w

-- "it joins the graph and its set gains the step's set": pair n with the set v
unfoldable pub join : ℕ → Buffers → ℕ → ℕ → Buffers
join alarm g n v =
    buffers (set g.marks n 1) g.targets (set g.sets n (joined (get_or g.sets n 0) v))
    (waits (due alarm g.marks g.sets n v) g.waiting n)

-- ---- line 3: a pair is taken from the waiting list
unfoldable pub unwait : Buffers → ℕ → Buffers
unwait g n = buffers g.marks g.targets g.sets (set g.waiting n 0)
