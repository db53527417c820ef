-- "A new row that never holds has target 65535 [..], and readers of a record take 65535 there" (document 02, #101): two
-- records that differ only in the targets of such rows, and in their sets, are printed alike. Assumes nothing.
use mathlib.Core.Path.{◌≡◌, refl, ap, ap₂}
use mathlib.Core.Bool.{true, false}
use mathlib.Core.List.{List, [], ◌∷◌, ◌++◌}
use Prim.Native.Nat.{ℕ, ◌+◌, ◌-◌, ◌≤◌, ◌<◌}
use native.Mathlib.Nat.{min-le_left}
use native.Mathlib.Omega.{arith}
use lib.Dec.{eqb}
use lib.ListN.{length, take, length-take, length-drop}
use lib.Seq.{slice}
use Rattle.chart.specs.Places.{new_of}
use Rattle.records.specs.Records.{Graph, graph_of, record_of, read_target}
use Rattle.records.proofs.Reading.{ButNever, same_read}
use Rattle.condition.specs.Builds.{summary}
use Rattle.report.specs.Transitions.{first_row, transition, of_pair, of_pairs, remaining}
use Rattle.report.specs.Printed.{summary_line, transitions, condition}

module _ (t marks ts ts' sets sets' : List ℕ) (alike : ButNever t ts ts') where
  abbrev G : Graph
  G = graph_of marks ts sets

  abbrev G' : Graph
  G' = graph_of marks ts' sets'

  read : (n k : ℕ) → n < 4096 → k < 2 → read_target t G n k ≡ read_target t G' n k
  read = same_read t marks marks sets sets' ts ts' alike

  same-pair : (n m : ℕ) → n < 4096 → of_pair t G n m ≡ of_pair t G' n m
  unfolding of_pair
  same-pair n m l = ap₂ printed (read n 0 l (omega arith)) (read n 1 l (omega arith))
    where
      printed : ℕ → ℕ → List ℕ
      printed x y = elim (eqb m 1) [ true ↦ transition marks n (first_row t (new_of n).0) x ++ transition marks n (first_row t (new_of n).0 + 1) y | false ↦ [] ]

  same_pairs : (n : ℕ) (ms : List ℕ) → length ms ≤ 4096 - n → of_pairs t G n ms ≡ of_pairs t G' n ms
  unfolding of_pairs
  same_pairs n [] l = refl
  same_pairs n (m ∷ ms) l = ap₂ (λ (x y : List ℕ). x ++ y) (same-pair n m (omega arith)) (same_pairs (n + 1) ms (omega arith))

  -- the transitions from a pair on
  pub printed-alike : (n : ℕ) → remaining t G n ≡ remaining t G' n
  unfolding remaining
  printed-alike n =
      same_pairs n (slice n 4096 marks)
      (omega (arith, length-drop n (take 4096 marks), length-take 4096 marks, min-le_left 4096 (length marks)))

  -- all that is printed of a record
  pub condition-alike : (s : ℕ) → condition t (record_of s marks ts sets) ≡ condition t (record_of s marks ts' sets')
  unfolding condition transitions
  condition-alike s = ap (λ (l : List ℕ). summary_line (summary s marks) ++ l) (printed-alike 0)
