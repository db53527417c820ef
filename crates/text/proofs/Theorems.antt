-- What reading and writing have to do with each other and with RFC 4180. Charts are any, texts are any bytes.
-- Assumes nothing.
use Rattle.std.proofs.Common.{◌≡◌, ℕ, ◌<◌, ◌≤◌, ◌↔◌, List, ◌∷◌, ◌++◌, length, take, ap, arith}
use Rattle.std.specs.Prelude.{None, Ok, Err}
use Rattle.base.specs.declared.Refusal.{Refusal}
use Rattle.base.specs.Refusals.{sole}
use Rattle.chart.specs.Charts.{Chart}
use Rattle.chart.specs.Faults.{refusal}
use Rattle.text.specs.Texts.{parsed, read_text}
use Rattle.text.specs.Written.{numbers, written}
use Rattle.text.specs.Files.{U32s, FileOf}
use Rattle.text.proofs.Exactly.{file_read, read_file, file-written, byte_more}
use Rattle.text.proofs.Lengths.{written_short, ended, parsed-ends, cut_parsed}

-- A text is read as a chart if and only if it is the RFC 4180 file of that chart, which is without fault.
pub read_exactly : (C : Chart) (text : List ℕ) → (read_text text ≡ Ok C) ↔ FileOf C text
read_exactly C text = (read_file C text, file_read C text)

-- What is written of a faultless chart is such a file.
pub written-file : (C : Chart) → U32s (numbers C) → refusal C ≡ None → FileOf C (written C)
written-file C u h = file-written C u h

-- Reading what was written of a faultless chart gives the chart back.
pub round_trip : (C : Chart) → U32s (numbers C) → refusal C ≡ None → read_text (written C) ≡ Ok C
round_trip C u h = file_read C (written C) (file-written C u h)

-- It uses every byte: one byte more is refused, where the written text ends.
pub every_byte : (C : Chart) (b : ℕ) (s : List ℕ) → U32s (numbers C) → refusal C ≡ None → read_text (written C ++ (b ∷ s)) ≡ Err (sole 14 (length (written C)))
every_byte C b s u h = byte_more C b s u h

-- No text of a faultless chart needs more bytes than the writer is lent.
pub room_enough : (C : Chart) → U32s (numbers C) → refusal C ≡ None → length (written C) ≤ 8643
room_enough C u h = written_short C u h

-- Every refusal of a text, as opposed to its chart, names a position of at most 10,191.
pub text_positions : (text : List ℕ) (r : Refusal) → parsed text ≡ Err r → r.position ≤ 10191
text_positions text r e = omega (arith, parsed-ends text, ap ended e)

-- The answer for a text of more than 16,384 bytes is the answer for the first 16,384 of them.
pub cut_text : (text : List ℕ) → 16384 < length text → read_text text ≡ read_text (take 16384 text)
unfolding read_text
cut_text text h = rw (cut_parsed text 16384 (omega arith) (omega arith))
