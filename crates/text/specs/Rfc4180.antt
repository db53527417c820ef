-- The grammar of RFC 4180, section 2, rule by rule: the bytes of a file, beside the contents of its fields by record.
-- Its optional header line is left out: it is written like a record, and a chart text has none.
use Rattle.std.specs.Prelude.{◌≡◌, ℕ, ◌≤◌, List, [], ◌∷◌, ◌++◌}

-- TEXTDATA = %x20-21 / %x23-2B / %x2D-7E
pub data TextData : ℕ → Type 0 where
  low : {b : ℕ} → 32 ≤ b → b ≤ 33 → TextData b
  middle : {b : ℕ} → 35 ≤ b → b ≤ 43 → TextData b
  high : {b : ℕ} → 45 ≤ b → b ≤ 126 → TextData b

-- non-escaped = *TEXTDATA
pub data NonEscaped : List ℕ → Type 0 where
  plain_end : NonEscaped []
  plain : {b : ℕ} {s : List ℕ} → TextData b → NonEscaped s → NonEscaped (b ∷ s)

-- *(TEXTDATA / COMMA / CR / LF / 2DQUOTE), and its contents, in which a doubled quote is one
pub data Within : List ℕ → List ℕ → Type 0 where
  inner_end : Within [] []
  inner : {b : ℕ} {s c : List ℕ} → TextData b → Within s c → Within (b ∷ s) (b ∷ c)
  inner_comma : {s c : List ℕ} → Within s c → Within (44 ∷ s) (44 ∷ c)
  inner_cr : {s c : List ℕ} → Within s c → Within (13 ∷ s) (13 ∷ c)
  inner_lf : {s c : List ℕ} → Within s c → Within (10 ∷ s) (10 ∷ c)
  inner_quotes : {s c : List ℕ} → Within s c → Within (34 ∷ 34 ∷ s) (34 ∷ c)

-- field = (escaped / non-escaped), escaped = DQUOTE *(TEXTDATA / COMMA / CR / LF / 2DQUOTE) DQUOTE
pub data Field (s c : List ℕ) : Type 0 where
  escaped : {t : List ℕ} → Within t c → s ≡ 34 ∷ (t ++ (34 ∷ [])) → Field s c
  non_escaped : NonEscaped s → s ≡ c → Field s c

-- record = field *(COMMA field)
pub data Record : List ℕ → List (List ℕ) → Type 0 where
  last_field : {s c : List ℕ} → Field s c → Record s (c ∷ [])
  next_field : {s t u c : List ℕ} {cs : List (List ℕ)} → Field t c → Record u cs → s ≡ t ++ (44 ∷ u) → Record s (c ∷ cs)

-- record *(CRLF record)
pub data Records : List ℕ → List (List (List ℕ)) → Type 0 where
  last_record : {s : List ℕ} {r : List (List ℕ)} → Record s r → Records s (r ∷ [])
  next_record : {s t u : List ℕ} {r : List (List ℕ)} {rs : List (List (List ℕ))} → Record t r → Records u rs
      → s ≡ t ++ (13 ∷ 10 ∷ u) → Records s (r ∷ rs)

-- file = record *(CRLF record) [CRLF]
pub data File (s : List ℕ) (rs : List (List (List ℕ))) : Type 0 where
  unclosed : Records s rs → File s rs
  closed : {t : List ℕ} → Records t rs → s ≡ t ++ (13 ∷ 10 ∷ []) → File s rs
