-- The variables that an operation reads, as a set ("Charts and rows").
use Rattle.std.specs.Prelude.{ℕ}
use Rattle.operations.specs.declared.Operation.{Operation}
use Rattle.operations.specs.Operations.{reads}
use Rattle.sets.specs.Sets.{set_of}

-- "An assignment [..] reads the variables on its right; an assumption reads those it compares" (rd of the source), as a
-- set
unfoldable pub read_set : Operation → ℕ
read_set o = set_of (reads o)
