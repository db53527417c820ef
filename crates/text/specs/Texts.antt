-- Whole texts: what the reader answers ("Chart text", "Who can cause a refusal").
use Rattle.std.specs.Prelude.{ℕ, ◌*◌, true, false, List, [], ◌∷◌, ◌++◌, length, drop, ◌==◌, nat_lt, slice_index, Ok, Err}
use Rattle.base.specs.declared.Reason.TheVariants.{NoBytes, WrongEnd}
use Rattle.base.specs.Answers.{Answer}
use Rattle.base.specs.Chains.{and_then}
use Rattle.base.specs.Refusals.{sole, unless}
use Rattle.chart.specs.Heads.{Head}
use Rattle.chart.specs.Charts.{Chart, charted, size}
use Rattle.chart.specs.Faults.{fault}
use Rattle.text.specs.declared.answers.Heading.{Heading}
use Rattle.text.specs.Causes.{refused_for}
use Rattle.text.specs.Spans.{Span, fields_at}

-- ---- the sender of a text
-- "14 [..] any byte after the CRLF of the last counted record (the first such offset)"
unfoldable pub whole : List ℕ → ℕ → Chart → Answer Chart
whole text at C = elim (nat_lt at (length text)) [ true ↦ refused_for WrongEnd at | false ↦ Ok C ]

-- "then the rows": as many as the first record counts, and then the end of the text
unfoldable pub rows_at : List ℕ → ℕ → Head → ℕ → Answer Chart
rows_at text at head count =
    and_then (fields_at (6 * count) 6 text at [])
    (λ (rows : Span). whole text rows.next (charted head rows.numbers))

-- "The first record is n, alarm, row count, 0, 0, 0": the head that its numbers tell
abbrev pub head_in : List ℕ → Head
head_in numbers = record { places = slice_index numbers 0; alarm = slice_index numbers 1 }

-- and the row count
abbrev pub count_in : List ℕ → ℕ
count_in numbers = slice_index numbers 2

-- "The first record is n, alarm, row count, 0, 0, 0"; "11 no bytes"
unfoldable pub parsed : List ℕ → Answer Chart
parsed [] = refused_for NoBytes 0
parsed (b ∷ s) =
    and_then (fields_at 6 0 (b ∷ s) 0 [])
    (λ (first : Span). rows_at (b ∷ s) first.next (head_in first.numbers) (count_in first.numbers))

-- ---- the chart's author: "The reader tests this once its text has been read to the end"
abbrev pub faultless : Answer Chart → Answer Chart
faultless a = and_then a (λ (C : Chart). unless (fault 0 C) C)

-- the reader's answer as a function of the bytes: "once its text has been read to the end"
unfoldable pub read_text : List ℕ → Answer Chart
read_text text = faultless (parsed text)

-- ---- the calling program: "21, a lent length differs from the stated one [..] Always first"; "The table lent to the
-- reader has 768 entries"
unfoldable pub read_into : List ℕ → List ℕ → Answer Chart
read_into text table = elim (length table == 768) [ true ↦ read_text text | false ↦ Err (sole 21 0) ]

-- the table afterwards: the rows at the front, and "those past the rows stay"; "lent memory is untouched" by a refusal
unfoldable pub filled : Answer Chart → List ℕ → List ℕ
filled (Ok C) table = C.table ++ drop (length C.table) table
filled (Err r) table = table

-- "n, alarm, row count": what is answered of a chart that is read, whose table has "rows of six u32 fields"
abbrev pub heading : Chart → Heading
heading C = record { head = C.head; rows = size C.table }
