-- The records that the program prints ("Worked sessions"): "CSV of four fields [..]. Each record ends in CRLF."
use Rattle.std.specs.Prelude.{List, [], ◌∷◌, ℕ}
use Rattle.base.specs.declared.Refusal.{Refusal}
use Rattle.text.specs.Written.{fields_text}

-- "CSV of four fields": four numbers as one record. Its fields are closed as the last four of a chart text's six are,
-- by commas and, after the last, CRLF
unfoldable pub line : ℕ → ℕ → ℕ → ℕ → List ℕ
line a b c d = fields_text 2 (a ∷ b ∷ c ∷ d ∷ [])

-- "A refusal prints 9999, number, chart, position."
unfoldable pub refusal_line : Refusal → List ℕ
refusal_line r = line 9999 r.number r.chart r.position
