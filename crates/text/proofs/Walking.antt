-- Laws of the walk over a text: its answers together are what the text spells, and what it leaves in its table are the
-- rows.
-- Assumes nothing.
use Rattle.std.proofs.Common.{◌≡◌, ℕ, zero, suc, ◌*◌, ◌/◌, ◌%◌, ◌<◌, ◌≤◌, List, [], ◌∷◌, ◌++◌, length, take, sym, refl, ap, ◌∙◌, subst, append_assoc, append-nil, arith, drop_of_length-le, take_at}
use mathlib.Core.Logic.{dite}
use native.Mathlib.Decide.{dec_lt}
use Rattle.base.specs.declared.Reason.TheVariants.{NoBytes, WrongEnd}
use Rattle.base.specs.declared.Refusal.{Refusal}
use Rattle.base.specs.Answers.{Answer}
use Rattle.std.specs.Prelude.{Result, None, Some, Ok, Err}
use Rattle.std.specs.Result.{result_err}
use Rattle.base.specs.Chains.{and_then, mapped}
use Rattle.base.specs.Refusals.{unless}
use Rattle.base.proofs.Answers.{different}
use Rattle.base.proofs.OnSome.{OnGiven}
use Rattle.chart.specs.Heads.{Head}
use Rattle.chart.specs.Charts.{Chart, charted}
use Rattle.chart.specs.Faults.{refusal}
use Rattle.text.specs.declared.answers.Heading.{Heading}
use Rattle.text.specs.declared.causes.Unfit.{Unfit}
use Rattle.text.specs.Causes.{refusal_of}
use Rattle.text.specs.Fields.{Field, missing, item_at}
use Rattle.text.specs.Spans.{Span, on_field, fields_at}
use Rattle.text.specs.Texts.{whole, rows_at, parsed, read_text, read_into, filled, heading, head_in, count_in}
use Rattle.text.specs.inner.Walk.{on_number, numbers_at, laid, Reach, on_fit, reach_at, reached, record_of, first_at, past_first, entries_of, row_numbers, refusing}
use Rattle.text.proofs.Numbers.{Refuses}
use Rattle.text.proofs.Told.{ReadAs, read_refused, read_sized, whole-rows, whole-after, whole_end, few_counted, parsed-some}
use Rattle.text.proofs.Charts.{Spells, parsed_shows}

-- ---- fields that follow one another

-- what fields give by what is reached, with these numbers
abbrev span_of : Reach → List ℕ → Answer Span
span_of (Ok p) l = Ok (record { numbers = l; next = p })
span_of (Err u) l = Err (refusal_of u)

-- fields give what the walk reaches and the numbers up to there
fields_are : (n k : ℕ) (text : List ℕ) (at : ℕ) (before : List ℕ) → fields_at n k text at before ≡ span_of (reach_at n k text at) (before ++ numbers_at n k text at)
unfolding fields_at reach_at numbers_at
fields_are zero k text at before = rw (append-nil before)
fields_are (suc n) k text at before = go (λ x p. fields_are n (suc k) text p (before ++ (x ∷ []))) (item_at k text at)
  where
    go : ((x p : ℕ) → fields_at n (suc k) text p (before ++ (x ∷ [])) ≡ span_of (reach_at n (suc k) text p) ((before ++ (x ∷ [])) ++ numbers_at n (suc k) text p))
        → (f : Field) → on_field f (λ x p. fields_at n (suc k) text p (before ++ (x ∷ []))) ≡ span_of (on_fit f (λ p. reach_at n (suc k) text p)) (before ++ on_number f (λ x p. x ∷ numbers_at n (suc k) text p))
    go h (Ok m) = h m.value m.next ∙ ap (span_of (reach_at n (suc k) text m.next)) (append_assoc before (m.value ∷ []) (numbers_at n (suc k) text m.next))
    go h (Err u) = refl

-- where all fit, there are as many numbers
abbrev OnPast : Type 0 → Reach → Type 0
OnPast P (Ok p) = P
OnPast P (Err u) = Unit

on_past : {P Q : Type 0} (r : Reach) → (P → Q) → OnPast P r → OnPast Q r
on_past (Ok p) f h = f h
on_past (Err u) f h = tt

are_many : (n k : ℕ) (text : List ℕ) (at : ℕ) → OnPast (length (numbers_at n k text at) ≡ n) (reach_at n k text at)
unfolding reach_at numbers_at
are_many zero k text at = refl
are_many (suc n) k text at = go (are_many n (suc k) text) (item_at k text at)
  where
    go : ((p : ℕ) → OnPast (length (numbers_at n (suc k) text p) ≡ n) (reach_at n (suc k) text p)) → (f : Field) → OnPast (length (on_number f (λ x p. x ∷ numbers_at n (suc k) text p)) ≡ suc n) (on_fit f (λ p. reach_at n (suc k) text p))
    go h (Ok m) = on_past (reach_at n (suc k) text m.next) (ap suc) (h m.next)
    go h (Err u) = tt

-- ---- what a step of the walk reaches

module _ (n k : ℕ) (text : List ℕ) (at : ℕ) where
  many : (p : ℕ) → reach_at n k text at ≡ Ok p → length (numbers_at n k text at) ≡ n
  many p e = subst (OnPast (length (numbers_at n k text at) ≡ n)) e (are_many n k text at)

  pub reached_unfit : (u : Unfit) → reach_at n k text at ≡ Err u → at ≡ reached (reach_at n k text at) at
  unfolding reached
  reached_unfit u e = rw e

  pub reached_past : (p : ℕ) → reach_at n k text at ≡ Ok p → p ≡ reached (reach_at n k text at) at
  unfolding reached
  reached_past p e = rw e

module _ {A : Type 0} (a : Result A Unfit) (r : Reach) (e : result_err a ≡ result_err r) where
  pub step_unfit : (u : Unfit) → a ≡ Err u → r ≡ Err u
  step_unfit u h = go r (sym e ∙ ap result_err h)
    where
      go : (r : Reach) → result_err r ≡ Some u → r ≡ Err u
      go (Ok p) i = let z : ◌≡◌ {A = ℕ} 0 1 = cc in absurd (omega arith)
      go (Err v) i = cc

  pub step_past : (x : A) (at q : ℕ) → q ≡ reached r at → a ≡ Ok x → r ≡ Ok q
  unfolding reached
  step_past x at q j h = go r (sym e ∙ ap result_err h) j
    where
      go : (r : Reach) → result_err r ≡ None → q ≡ reached r at → r ≡ Ok q
      go (Ok p) i j = rw j
      go (Err v) i j = let z : ◌≡◌ {A = ℕ} 0 1 = cc in absurd (omega arith)

-- ---- the first record

-- a table of n entries that fields are read into holds nothing else
laid-whole : (l table : List ℕ) → length l ≡ length table → laid l table ≡ l
laid-whole l table e = rw (drop_of_length-le table {i = length l} (omega arith)) (append-nil l)

module _ (text : List ℕ) (at : ℕ) where
  pub first_unfit : (u : Unfit) → reach_at 6 0 text at ≡ Err u → Err u ≡ first_at text at
  unfolding first_at record_of
  first_unfit u e = rw e

  pub first_record : (p : ℕ) (numbers table : List ℕ) → reach_at 6 0 text at ≡ Ok p → length table ≡ 6 → numbers ≡ laid (numbers_at 6 0 text at) table
      → Ok (record { head = head_in numbers; rows = count_in numbers }) ≡ first_at text at
  unfolding first_at record_of
  first_record p numbers table e w g =
      let n : length (numbers_at 6 0 text at) ≡ 6 = many 6 0 text at p e in
      let z : numbers ≡ numbers_at 6 0 text at = g ∙ laid-whole _ table (n ∙ sym w) in
      rw (z, e)

-- its rows fill at most 768 entries
few_entries : (text : List ℕ) → entries_of (first_at text 0) ≤ 768
unfolding first_at record_of entries_of
few_entries text = go (reach_at 6 0 text 0) (fields_are 6 0 text 0 [])
  where
    go : (r : Reach) → fields_at 6 0 text 0 [] ≡ span_of r (numbers_at 6 0 text 0) → entries_of (record_of r (numbers_at 6 0 text 0)) ≤ 768
    go (Ok p) e = omega (arith, few_counted text _ e)
    go (Err u) e = omega arith

module _ (text : List ℕ) (h : Heading) (e : first_at text 0 ≡ Ok h) where
  pub few_rows : 6 * h.rows ≤ 768
  unfolding entries_of
  few_rows = omega (arith, few_entries text, ap entries_of e)

  row_numbers-is : row_numbers text ≡ numbers_at (6 * h.rows) 6 text (past_first text)
  unfolding row_numbers entries_of
  row_numbers-is = rw e

-- ---- what the steps of a walk say together is what the text spells

-- what is parsed, by the first record and by the rows
module _ (text : List ℕ) (some_byte : length text ≡ 0 → ⊥) where
  walk_by : parsed text ≡ and_then (refusing (first_at text 0)) (λ (h : Heading). rows_at text (past_first text) h.head h.rows)
  unfolding first_at record_of reached
  walk_by = parsed-some text some_byte ∙ rw (fields_are 6 0 text 0 []) (go (reach_at 6 0 text 0))
    where
      go : (r : Reach) → and_then (span_of r (numbers_at 6 0 text 0)) (λ (f : Span). rows_at text f.next (head_in f.numbers) (count_in f.numbers))
          ≡ and_then (refusing (record_of r (numbers_at 6 0 text 0))) (λ (h : Heading). rows_at text (reached r 0) h.head h.rows)
      go (Ok p) = refl
      go (Err u) = refl

  rows_by : (at : ℕ) (h : Head) (n : ℕ) → rows_at text at h n ≡ and_then (refusing (reach_at (6 * n) 6 text at)) (λ (p : ℕ). whole text p (charted h (numbers_at (6 * n) 6 text at)))
  unfolding rows_at
  rows_by at h n = rw (fields_are (6 * n) 6 text at []) (go (reach_at (6 * n) 6 text at))
    where
      go : (r : Reach) → and_then (span_of r (numbers_at (6 * n) 6 text at)) (λ (rows : Span). whole text rows.next (charted h rows.numbers))
          ≡ and_then (refusing r) (λ (p : ℕ). whole text p (charted h (numbers_at (6 * n) 6 text at)))
      go (Ok p) = refl
      go (Err u) = refl

  walk_first : (u : Unfit) → first_at text 0 ≡ Err u → parsed text ≡ Err (refusal_of u)
  walk_first u e = walk_by ∙ rw e

  module _ (h : Heading) (e : first_at text 0 ≡ Ok h) where
    walk_rows : parsed text
        ≡ and_then (refusing (reach_at (6 * h.rows) 6 text (past_first text))) (λ (p : ℕ). whole text p (charted h.head (row_numbers text)))
    walk_rows = walk_by ∙ rw (e, row_numbers-is text h e) (rows_by (past_first text) h.head h.rows)

    walk_unfit : (u : Unfit) → reach_at (6 * h.rows) 6 text (past_first text) ≡ Err u → parsed text ≡ Err (refusal_of u)
    walk_unfit u d = walk_rows ∙ rw d

    walk_past : (p : ℕ) → reach_at (6 * h.rows) 6 text (past_first text) ≡ Ok p → parsed text ≡ whole text p (charted h.head (row_numbers text))
    walk_past p d = walk_rows ∙ rw d

    rows-many : (p : ℕ) → reach_at (6 * h.rows) 6 text (past_first text) ≡ Ok p → length (row_numbers text) ≡ 6 * h.rows
    rows-many p d = rw (row_numbers-is text h e) (many (6 * h.rows) 6 text (past_first text) p d)

-- ---- the answers of `parse`

-- what is said of an answer, and of the table after it
abbrev pub ParsedAs : List ℕ → Result Heading Unfit → List ℕ → List ℕ → Type 0
ParsedAs text a table after = (refusing a ≡ mapped heading (parsed text)) × (after ≡ laid (row_numbers text) table)

pub parse_none : (text table : List ℕ) (u : Unfit) → Refuses u NoBytes 0 → length text ≡ 0 → ParsedAs text (Err u) table table
unfolding parsed row_numbers first_at record_of reach_at entries_of numbers_at item_at missing
parse_none [] table u e h = (rw e, refl)
parse_none (b ∷ s) table u e h = absurd (omega arith)

module _ (text table : List ℕ) (some_byte : length text ≡ 0 → ⊥) where
  pub parse_first : (u : Unfit) → first_at text 0 ≡ Err u → ParsedAs text (Err u) table table
  unfolding row_numbers entries_of numbers_at
  parse_first u e = (rw (walk_first text some_byte u e), rw e)

  module _ (h : Heading) (e : first_at text 0 ≡ Ok h) (after : List ℕ) (l : after ≡ laid (numbers_at (6 * h.rows) 6 text (past_first text)) table) where
    rows-laid : after ≡ laid (row_numbers text) table
    rows-laid = l ∙ rw (row_numbers-is text h e)

    pub parse_rows : (u : Unfit) → reach_at (6 * h.rows) 6 text (past_first text) ≡ Err u → ParsedAs text (Err u) table after
    parse_rows u d = (rw (walk_unfit text some_byte h e u d), rows-laid)

    pub parse_after : (p : ℕ) (u : Unfit) → Refuses u WrongEnd p → reach_at (6 * h.rows) 6 text (past_first text) ≡ Ok p → p < length text → ParsedAs text (Err u) table after
    parse_after p u i d w = (rw (i, walk_past text some_byte h e p d, whole-after text p (charted h.head (row_numbers text)) w), rows-laid)

    pub parse_chart : (p : ℕ) → reach_at (6 * h.rows) 6 text (past_first text) ≡ Ok p → length text ≤ p → ParsedAs text (Ok h) table after
    parse_chart p d w =
        let z : length (row_numbers text) / 6 ≡ h.rows = omega (arith, rows-many text some_byte h e p d) in
        (rw (walk_past text some_byte h e p d, whole_end text p (charted h.head (row_numbers text)) w, z), rows-laid)

-- what stands in the chart's table, and how much
walk_laid : (text : List ℕ) → OnGiven (λ (C : Chart). (C.table ≡ row_numbers text) × (length C.table ≤ 768)) (parsed text)
unfolding parsed
walk_laid [] = tt
walk_laid (b ∷ t) = go (first_at text 0) refl
  where
    text : List ℕ
    text = b ∷ t

    some_byte : length text ≡ 0 → ⊥
    some_byte e = omega arith

    Laid : Chart → Type 0
    Laid C = (C.table ≡ row_numbers text) × (length C.table ≤ 768)

    on_whole : (p : ℕ) (C : Chart) → Laid C → OnGiven Laid (whole text p C)
    on_whole p C h =
        dite (dec_lt p (length text)) (λ w. rw (whole-after text p C w) tt) (λ w. rw (whole_end text p C (omega arith)) h)

    go : (f : Result Heading Unfit) → first_at text 0 ≡ f → OnGiven Laid (parsed text)
    go (Err u) e = rw (walk_first text some_byte u e) tt
    go (Ok h) e = rows (reach_at (6 * h.rows) 6 text (past_first text)) refl
      where
        rows : (r : Reach) → reach_at (6 * h.rows) 6 text (past_first text) ≡ r → OnGiven Laid (parsed text)
        rows (Err u) d = rw (walk_unfit text some_byte h e u d) tt
        rows (Ok p) d = rw (walk_past text some_byte h e p d) (on_whole p _ (refl, omega (arith, few_rows text h e, rows-many text some_byte h e p d)))

-- ---- the whole reader

-- a text that spells a chart, before its faults are judged
pub record Spelt (text : List ℕ) (h : Heading) : Type 0 where
  pub is : parsed text ≡ Ok (charted h.head (row_numbers text))
  pub rows : length (row_numbers text) ≡ 6 * h.rows
  pub few : length (row_numbers text) ≤ 768

module _ (text : List ℕ) (a : Result Heading Unfit) (is : refusing a ≡ mapped heading (parsed text)) where
  spelt_not : (u : Unfit) → a ≡ Err u → parsed text ≡ Err (refusal_of u)
  spelt_not u e = go (parsed text) (sym is ∙ ap refusing e)
    where
      go : (x : Answer Chart) → mapped heading x ≡ Err (refusal_of u) → x ≡ Err (refusal_of u)
      go (Ok C) e = absurd (different e)
      go (Err s) e = cc

  pub spelt : (h : Heading) → a ≡ Ok h → Spelt text h
  spelt h e = go (parsed text) refl (walk_laid text) (parsed_shows text) (sym is ∙ ap refusing e)
    where
      go : (x : Answer Chart) → parsed text ≡ x → OnGiven (λ (C : Chart). (C.table ≡ row_numbers text) × (length C.table ≤ 768)) x → OnGiven (Spells text) x
          → mapped heading x ≡ Ok h → Spelt text h
      go (Err r) i l w g = absurd (different (sym g))
      go (Ok C) i l w g =
          let p : heading C ≡ h = cc in
          let m : length (row_numbers text) ≡ length C.table = ap length (sym l.0) in
          record {
            is = i ∙ (λ i. Ok (charted (p i).head (l.0 i)));
            rows = m ∙ (w.rows ∙ ap (λ (h : Heading). 6 * h.rows) p);
            few = omega (arith, m, l.1);
          }

-- what the walk leaves at the front of its table are the rows, as many as the chart has
module _ (text rows spare : List ℕ) (h : Heading) (s : Spelt text h) (l : rows ≡ laid (row_numbers text) spare) where
  front : take (6 * h.rows) rows ≡ row_numbers text
  front = rw l (take_at (row_numbers text) _ (6 * h.rows) s.rows)

  front_long : length (take (6 * h.rows) rows) ≡ 6 * h.rows
  front_long = rw front s.rows

module _ (text table : List ℕ) (sized : length table ≡ 768) (a : Result Heading Unfit) (is : refusing a ≡ mapped heading (parsed text)) where
  pub read_unfit : (u : Unfit) → a ≡ Err u → ReadAs (read_into text table) (Err (refusal_of u)) table table
  unfolding read_text
  read_unfit u e = read_refused _ table (refusal_of u) (read_sized text table sized ∙ rw (spelt_not text a is u e))

  module _ (h : Heading) (spare rows : List ℕ) (e : a ≡ Ok h) (l : rows ≡ laid (row_numbers text) spare) where
    abbrev front_chart : Chart
    front_chart = charted h.head (take (6 * h.rows) rows)

    read_judged : read_into text table ≡ unless (refusal front_chart) front_chart
    unfolding read_text
    read_judged =
        let s = spelt text a is h e in
        let w : length (row_numbers text) % 6 ≡ 0 = omega (arith, s.rows) in
        read_sized text table sized ∙ rw (s.is, front text rows spare h s l, whole-rows (charted h.head (row_numbers text)) w)

    pub read_faulty : (r : Refusal) → refusal front_chart ≡ Some r → ReadAs (read_into text table) (Err r) table table
    read_faulty r d = read_refused _ table r (read_judged ∙ rw d)

    pub read_chart : (after : List ℕ) → refusal front_chart ≡ None → after ≡ laid (take (6 * h.rows) rows) table → ReadAs (read_into text table) (Ok h) table after
    unfolding filled
    read_chart after d g =
        let z : length (take (6 * h.rows) rows) / 6 ≡ h.rows = omega (arith, front_long text rows spare h (spelt text a is h e) l) in
        let i : read_into text table ≡ Ok front_chart = read_judged ∙ rw d in
        (rw (i, z), rw i g)
