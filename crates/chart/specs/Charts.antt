-- Charts and the rows of their tables ("Charts and rows"). A chart is the source's control-flow automaton, a place one
-- of its locations, a row one of its edges, the alarm its error location.
use Rattle.std.specs.Prelude.{Bool, cond, ◌&&◌, not, List, [], ◌++◌, ℕ, zero, suc, ◌+◌, ◌*◌, ◌/◌, eqb, ltb, length, get_or, take, drop}
use Rattle.operations.specs.declared.Operation.{Operation}
use Rattle.operations.specs.Trials.{never_holds}
use Rattle.chart.specs.Heads.{Head}

-- "A chart is a count of places n, an alarm place, and rows of six u32 fields in a lent table": its head, places and
-- alarm, as the code has it by value, and its table
pub record Chart : Type 0 where
  pub head : Head
  pub table : List ℕ

-- as the code has it: the head by value, beside the "lent table"
abbrev pub charted : Head → List ℕ → Chart
charted h t = record { head = h; table = t }

-- "the start is place 0"
abbrev pub start : Head → ℕ
start h = 0

-- ---- rows of a table, by number: "from, to, op, a, b, c"
pub record Row : Type 0 where
  pub from : ℕ
  pub to : ℕ
  pub operation : Operation

-- "rows of six u32 fields": how many rows a table has
abbrev pub size : List ℕ → ℕ
size t = length t / 6

-- the first field of row i: the "from" of "from, to, op, a, b, c"
abbrev pub from : List ℕ → ℕ → ℕ
from t i = get_or t (i * 6) 0

-- the second: the "to" of "from, to, op, a, b, c"
abbrev pub to : List ℕ → ℕ → ℕ
to t i = get_or t (i * 6 + 1) 0

-- the last four: the "op, a, b, c" of "from, to, op, a, b, c"
abbrev pub operation : List ℕ → ℕ → Operation
operation t i =
    record {
      code = get_or t (i * 6 + 2) 0;
      a = get_or t (i * 6 + 3) 0;
      b = get_or t (i * 6 + 4) 0;
      c = get_or t (i * 6 + 5) 0;
    }

-- all of row i: "from, to, op, a, b, c"
abbrev pub row : List ℕ → ℕ → Row
row t i = record { from = from t i; to = to t i; operation = operation t i }

-- not one of the "Rows that can never be taken" (document 02, #101): row i is there, and is none that never holds
unfoldable pub can_be_taken : List ℕ → ℕ → Bool
can_be_taken t i = ltb i (size t) && not (never_holds (operation t i))

-- ---- some rows of a table, in table order, as a table of their own
-- of the first n rows of a table those that are so
unfoldable pub rows_where : (Row → Bool) → List ℕ → ℕ → List ℕ
rows_where so t zero = []
rows_where so t (suc n) = rows_where so t n ++ cond (so (row t n)) (take 6 (drop (n * 6) t)) []

-- "the rows that leave a place": of the first n rows of a table those that leave p
abbrev pub leaving_of : List ℕ → ℕ → ℕ → List ℕ
leaving_of t p = rows_where (λ r. eqb r.from p) t

-- "the rows that leave a place": of all rows of a table those that leave p
unfoldable pub leaving : List ℕ → ℕ → List ℕ
leaving t p = leaving_of t p (size t)
