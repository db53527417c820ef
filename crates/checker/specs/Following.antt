-- Following a run of the new chart in a record ("The builder").
use Rattle.std.specs.Prelude.{ℕ, Bool, true, false, List, [], ◌∷◌, nat_eq}
use Rattle.base.specs.Lists.{any}
use Rattle.base.specs.Says.{Test, eq, ne, ◌and◌, below, bool}
use Rattle.chart.specs.Charts.{Chart}
use Rattle.records.specs.Records.{Graph, Record, mark, target_of}

-- "each row of the run in turn leads to its target at the node, if the node is a pair marked 1 and that target isn't
-- 65535; else following ends"
abbrev pub goes_on : Graph → ℕ → ℕ → Test
goes_on G n t = below n 4096 and eq (mark G n) 1 and ne t 65535

-- "a node so met": the nodes met from a node on, itself and the node after each row as far as following goes
unfoldable pub nodes : Chart → Graph → ℕ → List ℕ → List ℕ
nodes new G n [] = n ∷ []
nodes new G n (i ∷ is) =
    n ∷ elim (bool (goes_on G n (target_of new G n i))) [ true ↦ nodes new G (target_of new G n i) is | false ↦ [] ]

-- "the node is the record's start at first [..]. The run is covered if a node so met has mark 3."
unfoldable pub covered : Chart → Record → List ℕ → Bool
covered new R is = any (λ n. nat_eq (mark R.graph n) 3) (nodes new R.graph R.start is)
