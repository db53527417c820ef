-- Numbers and fields of a text ("Chart text", "The sender of a text"). An offset counts the text's bytes from 0, a
-- field is named by its number, counted from 0 through the whole text: field k stands in record k / 6, as its
-- field k % 6.
use Rattle.std.specs.Prelude.{ℕ, ◌+◌, ◌-◌, ◌*◌, ◌%◌, Bool, true, false, ◌&&◌, List, [], ◌∷◌, length, drop, ◌==◌, nat_le, slice_index_or, Result, Ok, Err}
use Rattle.base.specs.declared.Reason.{Reason}
use Rattle.base.specs.declared.Reason.TheVariants as because
use Rattle.text.specs.declared.causes.Unfit.{Unfit}
use Rattle.text.specs.declared.fields.Kind.{Kind}
use Rattle.text.specs.declared.fields.Kind.TheVariants.{Plain, Count, Spare}
use Rattle.text.specs.declared.fields.Number.{Number}

-- ---- bytes and digits
-- "its offset": the byte that stands there, 256 where the text has ended
abbrev pub byte_at : List ℕ → ℕ → ℕ
byte_at text at = slice_index_or text at 256

-- "1 or more digits": the digit that a byte is, 10 where it is none
unfoldable pub digit_of : ℕ → ℕ
digit_of b = elim (nat_le 48 b && nat_le b 57) [ true ↦ b - 48 | false ↦ 10 ]

-- "1 or more digits": those that a text begins with
unfoldable pub digits : List ℕ → List ℕ
digits [] = []
digits (b ∷ s) = elim (nat_le (digit_of b) 9) [ true ↦ digit_of b ∷ digits s | false ↦ [] ]

-- "decimal throughout": the number whose digits are those of x and then these
unfoldable pub value : ℕ → List ℕ → ℕ
value x [] = x
value x (d ∷ ds) = value (x * 10 + d) ds

-- ---- what a field tells
-- a number and the offset after it, or the reason and the offset of its refusal
abbrev pub Field : Type 0
Field = Result Number Unfit

-- the number x, after which the offset p stands
abbrev pub number : ℕ → ℕ → Field
number x p = Ok (record { value = x; next = p })

-- "its offset": why the text does not fit at p
abbrev pub unfit : Reason → ℕ → Field
unfit reason p = Err (record { reason = reason; offset = p })

-- ---- numbers: "a number is judged when its digits end"
-- "The first record is n, alarm, row count, 0, 0, 0; then the rows": what a field may hold, by its number
unfoldable pub kind : ℕ → Kind
kind k = slice_index_or (Plain ∷ Plain ∷ Count ∷ Spare ∷ Spare ∷ Spare ∷ []) k Plain

-- "13 [..] a non-zero spare in the first record (offset of its first digit)"; "A row count above 128 that isn't 13 is
-- 2, at its first digit"
unfoldable pub judged : Kind → ℕ → ℕ → ℕ → Field
judged Plain first next x = number x next
judged Count first next x = elim (nat_le x 128) [ true ↦ number x next | false ↦ unfit because.Exceeding first ]
judged Spare first next x = elim (x == 0) [ true ↦ number x next | false ↦ unfit because.BadNumber first ]

-- "13 [..] above 4294967295"
unfoldable pub bounded : Kind → ℕ → ℕ → ℕ → Field
bounded sort first next x =
    elim (nat_le x 4294967295) [ true ↦ judged sort first next x | false ↦ unfit because.BadNumber first ]

-- "leading": whether digits follow
abbrev pub more : List ℕ → Bool
more [] = false
more (d ∷ ds) = true

-- "13 leading zero": the number that is x up to an offset, and has these digits from there on
unfoldable pub ended : Kind → ℕ → ℕ → ℕ → List ℕ → Field
ended sort first at x ds =
    elim (x == 0 && more ds) [
      | true ↦ unfit because.BadNumber first
      | false ↦ bounded sort first (at + length ds) (value x ds)
    ]

-- "a field is 1 or more digits": no digit is "12 a byte that doesn't fit, or an end within a record (its offset)"
unfoldable pub number_of : Kind → ℕ → List ℕ → Field
number_of sort first [] = unfit because.BadByte first
number_of sort first (d ∷ ds) = ended sort first (first + 1) d ds

-- "a number is judged when its digits end": the one whose first digit stands at an offset
unfoldable pub number_at : Kind → List ℕ → ℕ → Field
number_at sort text first = number_of sort first (digits (drop first text))

-- ---- fields
-- "12 a byte that doesn't fit, or an end within a record (its offset)": the number, if the byte b follows it
unfoldable pub followed : ℕ → List ℕ → Field → Field
followed b text (Err u) = Err u
followed b text (Ok n) =
    elim (byte_at text n.next == b) [ true ↦ number n.value (n.next + 1) | false ↦ unfit because.BadByte n.next ]

-- "perhaps within double quotes"
unfoldable pub field_at : Kind → List ℕ → ℕ → Field
field_at sort text at =
    elim (byte_at text at == 34) [
      | true ↦ followed 34 text (number_at sort text (at + 1))
      | false ↦ number_at sort text at
    ]

-- "Records [..] end in CRLF (the last one optionally)": the number, if the text ends after it, or CRLF follows
unfoldable pub line_end : List ℕ → Field → Field
line_end text (Err u) = Err u
line_end text (Ok n) =
    elim (nat_le (length text) n.next) [ true ↦ Ok n | false ↦ followed 10 text (followed 13 text (Ok n)) ]

-- "Records of six fields": a comma follows a field, and the record's end its sixth
unfoldable pub closed : ℕ → List ℕ → Field → Field
closed k text f = elim (k % 6 == 5) [ true ↦ line_end text f | false ↦ followed 44 text f ]

-- "a text that ends after a whole record, CRLF or not, with records missing": the text has ended where field k begins a
-- record
unfoldable pub missing : ℕ → List ℕ → ℕ → Bool
missing k text at = k % 6 == 0 && nat_le (length text) at

-- Field k at an offset, with what follows it; missing records are 14, at the text's "length"
unfoldable pub item_at : ℕ → List ℕ → ℕ → Field
item_at k text at =
    elim (missing k text at) [
      | true ↦ unfit because.WrongEnd (length text)
      | false ↦ closed k text (field_at (kind k) text at)
    ]
