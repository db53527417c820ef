-- Laws of what reading and writing answer, and of what they leave in lent memory.
-- Assumes nothing.
use Rattle.std.proofs.Common.{◌≡◌, ℕ, ◌+◌, ◌%◌, ◌<◌, ◌≤◌, List, [], ◌∷◌, length, get_or, refl, ◌∙◌, subst, arith, le-ltb, lt-ltb, eq-eqb, ne_eqb, le-leb}
use borrow.Author.Tests.{lt-leb}
use lib.Seq.{sets-eq}
use Rattle.base.specs.declared.Refusal.{Refusal}
use Rattle.base.specs.Answers.{Answer}
use Rattle.std.specs.Prelude.{None, Some, Ok, Err}
use Rattle.text.specs.declared.answers.Heading.{Heading}
use Rattle.base.specs.Chains.{and_then, mapped}
use Rattle.base.specs.Refusals.{sole, unless}
use Rattle.base.proofs.OnSome.{OnGiven}
use Rattle.chart.specs.Charts.{Chart}
use Rattle.chart.specs.Faults.{fault, refusal}
use Rattle.chart.proofs.Faultless.{faultless as sound}
use Rattle.text.specs.Fields.{kind}
use Rattle.text.specs.Spans.{Span, fields_at}
use Rattle.text.specs.Texts.{whole, rows_at, parsed, read_text, read_into, filled, heading, head_in, count_in}
use Rattle.text.specs.Written.{written, writing, printed}
use Rattle.text.specs.inner.Puts.{Put}
use Rattle.text.proofs.Sequences.{FitAll, Shown, fields_show, items_fit}

-- ---- faults

-- of a table of whole rows only the chart's own faults are left
pub whole-rows : (C : Chart) → length C.table % 6 ≡ 0 → refusal C ≡ fault 0 C
unfolding refusal
whole-rows C h = rw (eq-eqb _ _ h, refusal)

-- a faultless chart's rows fill at most 768 entries
pub short_table : (C : Chart) → refusal C ≡ None → length C.table ≤ 768
short_table C e =
    let f = sound C e in
    omega (arith, f.whole, f.few_rows)

-- ---- the reader

-- what is said of an answer, and of the table after it
abbrev pub ReadAs : Answer Chart → Answer Heading → List ℕ → List ℕ → Type 0
ReadAs a r table after = (r ≡ mapped heading a) × (after ≡ filled a table)

pub read_refused : (a : Answer Chart) (table : List ℕ) (r : Refusal) → a ≡ Err r → ReadAs a (Err r) table table
unfolding filled
read_refused a table r e = (rw e, rw e)

pub whole-after : (text : List ℕ) (at : ℕ) (C : Chart) → at < length text → whole text at C ≡ Err (sole 14 at)
unfolding whole
whole-after text at C h = rw (lt-ltb _ _ h, whole)

pub whole_end : (text : List ℕ) (at : ℕ) (C : Chart) → length text ≤ at → whole text at C ≡ Ok C
unfolding whole
whole_end text at C h = rw (le-ltb _ _ h, whole)

-- the count of a first record that is read is at most 128
third_few : (l : List ℕ) → length l ≡ 6 → FitAll 0 l → get_or l 2 0 ≤ 128
unfolding kind
third_few [] h f = absurd (omega arith)
third_few (a ∷ []) h f = absurd (omega arith)
third_few (a ∷ b ∷ []) h f = absurd (omega arith)
third_few (a ∷ b ∷ c ∷ l) h f = f.1.1.1.1.1.0

pub few_counted : (text : List ℕ) (s : Span) → fields_at 6 0 text 0 [] ≡ Ok s → get_or s.numbers 2 0 ≤ 128
few_counted text s e =
    let g : Shown 6 0 text 0 [] s = subst (OnGiven (Shown 6 0 text 0 [])) e (fields_show 6 0 text 0 []) in
    rw g.is (third_few g.numbers g.count (items_fit g.numbers 0 _ _ g.items))

pub parsed-some : (text : List ℕ) → (length text ≡ 0 → ⊥) → parsed text
    ≡ and_then (fields_at 6 0 text 0 []) (λ (f : Span). rows_at text f.next (head_in f.numbers) (count_in f.numbers))
unfolding parsed
parsed-some [] h = absurd (h refl)
parsed-some (b ∷ s) h = refl

module _ (text table : List ℕ) where
  pub read_unsized : (s : Refusal) → s ≡ sole 21 0 → (length table ≡ 768 → ⊥) → ReadAs (read_into text table) (Err s) table table
  unfolding read_into
  read_unsized s g h = read_refused _ table s (rw (ne_eqb _ _ h, read_into, g))

  module _ (sized : length table ≡ 768) where
    pub read_sized : read_into text table ≡ read_text text
    unfolding read_into
    read_sized = rw (eq-eqb _ _ sized, read_into)

-- ---- the writer

abbrev pub WroteAs : Answer (List ℕ) → Answer ℕ → List ℕ → List ℕ → Type 0
WroteAs a r bytes after = (r ≡ mapped length a) × (after ≡ printed a bytes)

write_refused : (a : Answer (List ℕ)) (bytes : List ℕ) (r : Refusal) → a ≡ Err r → WroteAs a (Err r) bytes bytes
unfolding printed
write_refused a bytes r e = (rw e, rw e)

module _ (C : Chart) (bytes : List ℕ) where
  pub write_short : (s : Refusal) → s ≡ sole 21 0 → length bytes < 8643 → WroteAs (writing C (length bytes)) (Err s) bytes bytes
  unfolding writing
  write_short s g h = write_refused _ bytes s (rw (lt-leb _ _ h, writing, g))

  module _ (long : 8643 ≤ length bytes) where
    write_long : writing C (length bytes) ≡ unless (refusal C) (written C)
    unfolding writing
    write_long = rw (le-leb _ _ long, writing)

    pub write_faulty : (r : Refusal) → refusal C ≡ Some r → WroteAs (writing C (length bytes)) (Err r) bytes bytes
    write_faulty r e = write_refused _ bytes r (write_long ∙ rw e)

    pub write_chart : (r : ℕ) (after : List ℕ) → refusal C ≡ None → (Put bytes 0 (written C) after r) × (r ≤ 8643) → WroteAs (writing C (length bytes)) (Ok r) bytes after
    unfolding printed
    write_chart r after e g =
        let i : writing C (length bytes) ≡ Ok (written C) = write_long ∙ rw e in
        let n : r ≡ length (written C) = omega (arith, g.0.next) in
        let z : 0 + length (written C) ≡ length (written C) = omega arith in
        (rw (i, n), rw i (g.0.is ∙ sets-eq (written C) bytes 0 (omega (arith, g.1)) ∙ rw z))
