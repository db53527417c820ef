-- Parts of Algorithm 1 as private functions do them: marks of one sort at a time, and what one open pair covers.
use Rattle.std.specs.Prelude.{true, false, List, ℕ, eqb, get_or}
use Rattle.records.specs.Records.{index}
use Rattle.marker.specs.Marks.{cover}

-- v for what is not 0: for marks of one sort what `plain_mark` is
unfoldable pub plain_as : ℕ → ℕ → ℕ
plain_as v x = elim (eqb x 0) [ true ↦ 0 | false ↦ v ]

-- what pair i covers, over the targets t
unfoldable pub cover_from : List ℕ → List ℕ → ℕ → List ℕ
cover_from t m i =
    elim (eqb (get_or m i 0) 1) [ true ↦ cover (cover m (get_or t (index i 0) 0)) (get_or t (index i 1) 0) | false ↦ m ]
