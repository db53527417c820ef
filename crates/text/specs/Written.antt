-- The text of a chart: "The writer [..] uses no quotes and ends every record".
use Rattle.std.specs.Prelude.{ℕ, zero, suc, ◌+◌, ◌/◌, ◌%◌, true, false, List, [], ◌∷◌, ◌++◌, map, length, drop, ◌==◌, nat_le, nat_lt, Ok, Err}
use Rattle.base.specs.Answers.{Answer}
use Rattle.base.specs.Refusals.{sole, unless}
use Rattle.chart.specs.Charts.{Chart, size}
use Rattle.chart.specs.Faults.{refusal}

-- ---- numbers: "decimal throughout", without "leading zero"
-- "1 or more digits": those of x, of which there are at most k + 1
unfoldable pub digits_in : ℕ → ℕ → List ℕ
digits_in zero x = x ∷ []
digits_in (suc k) x = elim (nat_lt x 10) [ true ↦ x ∷ [] | false ↦ digits_in k (x / 10) ++ (x % 10 ∷ []) ]

-- "1 or more digits": those of x, of which there are at most x + 1
unfoldable pub digits_of : ℕ → List ℕ
digits_of x = digits_in x x

-- the same as bytes: "a field is 1 or more digits"
unfoldable pub decimal : ℕ → List ℕ
decimal x = map (λ (d : ℕ). 48 + d) (digits_of x)

-- ---- fields
-- "Records of six fields end in CRLF": what closes field k, a comma or after the sixth CRLF
unfoldable pub closing : ℕ → List ℕ
closing k = elim (k % 6 == 5) [ true ↦ 13 ∷ 10 ∷ [] | false ↦ 44 ∷ [] ]

-- "uses no quotes": field k, closed
abbrev pub field_text : ℕ → ℕ → List ℕ
field_text k x = decimal x ++ closing k

-- "ends every record": these numbers as the fields from field k on
unfoldable pub fields_text : ℕ → List ℕ → List ℕ
fields_text k [] = []
fields_text k (x ∷ l) = field_text k x ++ fields_text (suc k) l

-- ---- charts
-- the numbers of a chart's text: "n, alarm, row count, 0, 0, 0; then the rows"
abbrev pub numbers : Chart → List ℕ
numbers C = C.head.places ∷ C.head.alarm ∷ size C.table ∷ 0 ∷ 0 ∷ 0 ∷ C.table

-- "The first record is n, alarm, row count, 0, 0, 0; then the rows.": the text of a chart, its fields counted from 0
unfoldable pub written : Chart → List ℕ
written C = fields_text 0 (numbers C)

-- the writer's answer for so many lent bytes: "21, a lent length [..] (for the writer's bytes: is less), or a chart
-- table's isn't a multiple of 6. Always first."; "The writer refuses faulty charts"
unfoldable pub writing : Chart → ℕ → Answer (List ℕ)
writing C lent = elim (nat_le 8643 lent) [ true ↦ unless (refusal C) (written C) | false ↦ Err (sole 21 0) ]

-- the lent bytes afterwards: the writer "touches only those written"
unfoldable pub printed : Answer (List ℕ) → List ℕ → List ℕ
printed (Ok t) bytes = t ++ drop (length t) bytes
printed (Err r) bytes = bytes
