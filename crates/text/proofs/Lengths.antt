-- How much is written and read: lengths of texts, positions of refusals, and texts longer than any that is read to its end.
-- Assumes nothing.
use Rattle.std.proofs.Common.{◌≡◌, ℕ, suc, ◌+◌, ◌*◌, ◌/◌, ◌<◌, ◌≤◌, List, [], ◌∷◌, length, get_or, take, sym, refl, ap, ◌∙◌, arith, length-append}
use mathlib.Core.Logic.{dite}
use native.Mathlib.Decide.{dec_lt}
use Rattle.std.specs.Prelude.{None, Ok, Err}
use Rattle.base.specs.Answers.{Answer}
use Rattle.base.specs.Chains.{and_then}
use Rattle.chart.specs.Heads.{Head}
use Rattle.chart.specs.Charts.{Chart, charted}
use Rattle.chart.specs.Faults.{refusal}
use Rattle.chart.proofs.Faultless.{faultless}
use Rattle.text.specs.Spans.{Span, fields_at}
use Rattle.text.specs.Texts.{whole, rows_at, parsed, head_in, count_in}
use Rattle.text.specs.Written.{decimal, closing, field_text, fields_text, numbers, written}
use Rattle.text.specs.inner.Puts.{room}
use Rattle.text.specs.Files.{U32s}
use Rattle.text.proofs.Decimals.{decimal_ten}
use Rattle.text.proofs.Puts.{closing-length}
use Rattle.text.proofs.Positions.{stops, fields_stop}
use Rattle.text.proofs.Cut.{cut_length, cut_fields}
use Rattle.text.proofs.Told.{whole-after, whole_end, few_counted, parsed-some}

-- ---- what is written

fields_length : (l : List ℕ) (k : ℕ) → ((i : ℕ) → get_or l i 0 ≤ 4294967295) → length (fields_text k l) ≤ room k (length l)
unfolding fields_text
fields_length [] k h = omega arith
fields_length (x ∷ l) k h =
    let n = fields_length l (suc k) (λ i. h (suc i)) in
    let d = decimal_ten x (h 0) in
    let c = closing-length k in
    rw (length-append (field_text k x) (fields_text (suc k) l), length-append (decimal x) (closing k)) (omega arith)

pub written_short : (C : Chart) → U32s (numbers C) → refusal C ≡ None → length (written C) ≤ 8643
unfolding written
written_short C u h =
    let f = faultless C h in
    omega (arith, f.whole, f.few_rows, fields_length (numbers C) 0 u.small)

-- ---- where a text is refused

-- the position of a refusal, 0 where there is none
abbrev pub ended : Answer Chart → ℕ
ended (Ok C) = 0
ended (Err r) = r.position

whole-ends : (text : List ℕ) (at : ℕ) (C : Chart) → ended (whole text at C) ≤ at
whole-ends text at C =
    dite (dec_lt at (length text)) (λ h. rw (whole-after text at C h) (omega arith))
    (λ n. rw (whole_end text at C (omega arith)) (omega arith))

then_ends : (q : ℕ) (a : Answer Span) (f : Span → Answer Chart) → stops a ≤ q → ((s : Span) → a ≡ Ok s → ended (f s) ≤ q) → ended (and_then a f) ≤ q
then_ends q (Ok s) f h g = g s refl
then_ends q (Err r) f h g = h

rows_end : (text : List ℕ) (at : ℕ) (head : Head) (count : ℕ) → at ≤ 79 → count ≤ 128 → ended (rows_at text at head count) ≤ 10191
unfolding rows_at
rows_end text at head count h g =
    let r = fields_stop (6 * count) 6 text at [] in
    let d : (6 + 6 * count) / 6 ≤ 129 = omega arith in
    then_ends 10191 (fields_at (6 * count) 6 text at []) _ (omega arith)
    (λ s e. omega (arith, whole-ends text s.next (charted head s.numbers), ap stops e))

pub parsed-ends : (text : List ℕ) → ended (parsed text) ≤ 10191
unfolding parsed
parsed-ends [] = omega arith
parsed-ends (b ∷ t) =
    let r = fields_stop 6 0 (b ∷ t) 0 [] in
    then_ends 10191 (fields_at 6 0 (b ∷ t) 0 []) _ (omega arith)
    (λ s e. rows_end (b ∷ t) s.next (head_in s.numbers) (count_in s.numbers) (omega (arith, ap stops e)) (few_counted (b ∷ t) s e))

-- ---- long texts

module _ (text : List ℕ) (m : ℕ) (long : m ≤ length text) (enough : 10191 < m) where
  cut_whole : (at : ℕ) (C : Chart) → at < m → whole (take m text) at C ≡ whole text at C
  cut_whole at C h = whole-after (take m text) at C (rw (cut_length text m long) h) ∙ sym (whole-after text at C (omega arith))

  then_same : (a : Answer Span) (f g : Span → Answer Chart) → ((s : Span) → a ≡ Ok s → f s ≡ g s) → and_then a f ≡ and_then a g
  then_same (Ok s) f g h = h s refl
  then_same (Err r) f g h = refl

  cut_rows : (at : ℕ) (head : Head) (count : ℕ) → at ≤ 79 → count ≤ 128 → rows_at (take m text) at head count ≡ rows_at text at head count
  unfolding rows_at
  cut_rows at head count h g =
      let r = fields_stop (6 * count) 6 text at [] in
      let d : (6 + 6 * count) / 6 ≤ 129 = omega arith in
      rw (cut_fields text m long (6 * count) 6 at [] (omega arith))
      (then_same (fields_at (6 * count) 6 text at []) _ _ (λ s e. cut_whole s.next _ (omega (arith, ap stops e))))

  pub cut_parsed : parsed (take m text) ≡ parsed text
  cut_parsed =
      let r = fields_stop 6 0 text 0 [] in
      let l = cut_length text m long in
      parsed-some (take m text) (λ e. omega arith)
      ∙ rw (cut_fields text m long 6 0 0 [] (omega arith))
      (then_same (fields_at 6 0 text 0 []) _ _ (λ s e. cut_rows s.next (head_in s.numbers) (count_in s.numbers) (omega (arith, ap stops e)) (few_counted text s e)))
      ∙ sym (parsed-some text (λ e. omega arith))
