-- The file of a chart, in RFC 4180's terms.
use Rattle.std.specs.Prelude.{◌≡◌, ℕ, zero, suc, ◌*◌, ◌≤◌, List, [], ◌∷◌, map, take, drop, slice_index, Option, None, Some, Ok, Err}
use Rattle.base.specs.Answers.{Answer}
use Rattle.chart.specs.Charts.{Chart, size, charted}
use Rattle.chart.specs.Faults.{refusal}
use Rattle.text.specs.declared.answers.Heading.{Heading}
use Rattle.text.specs.Written.{decimal, numbers}
use Rattle.text.specs.Rfc4180.{File}

-- "Records of six fields": so many records of six numbers each
unfoldable pub sixes : ℕ → List ℕ → List (List ℕ)
sixes zero l = []
sixes (suc m) l = take 6 l ∷ sixes m (drop 6 l)

-- the contents of their fields: "1 or more digits" without "leading zero"
abbrev pub contents : ℕ → List ℕ → List (List (List ℕ))
contents m l = map (map decimal) (sixes m l)

-- "rows of six u32 fields": every number is a u32
pub record U32s (l : List ℕ) : Type 0 where
  pub small : (i : ℕ) → slice_index l i ≤ 4294967295

-- "The first record is n, alarm, row count, 0, 0, 0; then the rows.": the text is the file of a faultless chart,
-- exactly 1 + row count records of six fields, whose contents are the decimals of these numbers.
pub record FileOf (C : Chart) (text : List ℕ) : Type 0 where
  pub file : File text (contents (suc (size C.table)) (numbers C))
  pub u32s : U32s (numbers C)
  pub faultless : refusal C ≡ None

-- "n, alarm, row count [..]; then the rows": the chart that the reader answers, its rows at the front of the table;
-- none where it refuses
unfoldable pub chart_read : Answer Heading → List ℕ → Option Chart
chart_read (Ok h) table = Some (charted h.head (take (6 * h.rows) table))
chart_read (Err r) table = None
