-- The fields of a chart's text: read to the end they are the chart, and the chart's text has them.
-- Assumes nothing.
use Rattle.std.proofs.Common.{◌≡◌, ℕ, suc, ◌-◌, ◌*◌, ◌/◌, ◌%◌, ◌≤◌, List, [], ◌∷◌, ◌++◌, length, get_or, drop, sym, refl, ap, ◌∙◌, subst, append_assoc, arith, length-drop, drop_of_length-le, eq-eqb, ne_eqb}
use Rattle.std.specs.Prelude.{Option, None, Some, Ok, Err}
use mathlib.Core.Logic.{dite}
use native.Mathlib.Decide.{dec_lt}
use Rattle.base.specs.declared.Refusal.{Refusal}
use Rattle.base.specs.Answers.{Answer}
use Rattle.base.specs.Refusals.{sole, unless}
use Rattle.base.proofs.OnSome.{OnGiven, on_then}
use Rattle.chart.specs.Charts.{Chart, size, charted}
use Rattle.chart.specs.Faults.{fault}
use Rattle.text.specs.Fields.{kind}
use Rattle.text.specs.Spans.{Span, fields_at}
use Rattle.text.specs.Texts.{whole, rows_at, parsed, read_text, head_in, count_in}
use Rattle.text.specs.Written.{decimal, closing, field_text, fields_text, numbers}
use Rattle.text.specs.Files.{U32s}
use Rattle.text.specs.declared.fields.Kind.{Kind}
use Rattle.text.proofs.Numbers.{kind-high}
use Rattle.text.proofs.Spelling.{Fits, bare, Closing, comma, line}
use Rattle.text.proofs.Sequences.{Items, FitAll, items_fit, Shown, fields_show, items_read, items_join, items_split, items_some}
use Rattle.text.proofs.Told.{whole-after, whole_end, parsed-some}

-- ---- a text that is read has the chart's fields

-- what is shown of a chart whose text is read to the end
pub record Spells (text : List ℕ) (C : Chart) : Type 0 where
  pub items : Items 0 (numbers C) text []
  pub rows : length C.table ≡ 6 * size C.table

-- the spares of a first record are 0
first_six : (l : List ℕ) → length l ≡ 6 → FitAll 0 l → l ≡ get_or l 0 0 ∷ get_or l 1 0 ∷ get_or l 2 0 ∷ 0 ∷ 0 ∷ 0 ∷ []
unfolding kind
first_six (a ∷ b ∷ c ∷ d ∷ e ∷ f ∷ []) h g =
    ap (λ (x : ℕ). a ∷ b ∷ c ∷ x ∷ e ∷ f ∷ []) g.1.1.1.1.1.1.1.0
    ∙ ap (λ (x : ℕ). a ∷ b ∷ c ∷ 0 ∷ x ∷ f ∷ []) g.1.1.1.1.1.1.1.1.1.0
    ∙ ap (λ (x : ℕ). a ∷ b ∷ c ∷ 0 ∷ 0 ∷ x ∷ []) g.1.1.1.1.1.1.1.1.1.1.1.0
first_six [] h g = absurd (omega arith)
first_six (a ∷ []) h g = absurd (omega arith)
first_six (a ∷ b ∷ []) h g = absurd (omega arith)
first_six (a ∷ b ∷ c ∷ []) h g = absurd (omega arith)
first_six (a ∷ b ∷ c ∷ d ∷ []) h g = absurd (omega arith)
first_six (a ∷ b ∷ c ∷ d ∷ e ∷ []) h g = absurd (omega arith)
first_six (a ∷ b ∷ c ∷ d ∷ e ∷ f ∷ i ∷ l) h g = absurd (omega arith)

first-is : (l m : List ℕ) (n : ℕ) → m ≡ l → n ≡ get_or m 2 0 → length l ≡ 6 → FitAll 0 l → l ≡ get_or m 0 0 ∷ get_or m 1 0 ∷ n ∷ 0 ∷ 0 ∷ 0 ∷ []
first-is l m n e h w f = first_six l w f ∙ rw (h, e)

module _ (text : List ℕ) where
  whole_shows : (at : ℕ) (C : Chart) → Items 0 (numbers C) text (drop at text) → length C.table ≡ 6 * size C.table → OnGiven (Spells text) (whole text at C)
  whole_shows at C i w =
      dite (dec_lt at (length text)) (λ h. rw (whole-after text at C h) tt)
      (λ n. rw (whole_end text at C (omega arith)) (record { items = subst (Items 0 (numbers C) text) (drop_of_length-le text {i = at} (omega arith)) i; rows = w }))

  rows_show : (s : Span) → Shown 6 0 text 0 [] s → OnGiven (Spells text) (rows_at text s.next (head_in s.numbers) (count_in s.numbers))
  unfolding rows_at
  rows_show s f =
      let fit = items_fit f.numbers 0 text (drop s.next text) f.items in
      on_then (Shown (6 * count_in s.numbers) 6 text s.next []) (Spells text) (fields_at (6 * count_in s.numbers) 6 text s.next []) _
      (fields_show (6 * count_in s.numbers) 6 text s.next [])
      (λ r g.
      let n : length r.numbers ≡ 6 * count_in s.numbers = ap length g.is ∙ g.count in
      let z : length r.numbers / 6 ≡ count_in s.numbers = omega arith in
      let six = first-is f.numbers s.numbers (size r.numbers) f.is z f.count fit in
      whole_shows r.next (charted (head_in s.numbers) r.numbers)
      (items_join (get_or s.numbers 0 0 ∷ get_or s.numbers 1 0 ∷ size r.numbers ∷ 0 ∷ 0 ∷ 0 ∷ []) r.numbers 0 text (drop s.next text) (drop r.next text)
      (subst (λ (l : List ℕ). Items 0 l text (drop s.next text)) six f.items)
      (subst (λ (l : List ℕ). Items 6 l (drop s.next text) (drop r.next text)) (sym g.is) g.items))
      (omega arith))

pub parsed_shows : (text : List ℕ) → OnGiven (Spells text) (parsed text)
unfolding parsed
parsed_shows [] = tt
parsed_shows (b ∷ s) = on_then (Shown 6 0 (b ∷ s) 0 []) (Spells (b ∷ s)) (fields_at 6 0 (b ∷ s) 0 []) _ (fields_show 6 0 (b ∷ s) 0 []) (rows_show (b ∷ s))

-- and the chart is without fault
pub read_shows : (text : List ℕ) → OnGiven (λ (C : Chart). Spells text C × (fault 0 C ≡ None)) (read_text text)
unfolding read_text
read_shows text = on_then (Spells text) (λ (C : Chart). Spells text C × (fault 0 C ≡ None)) (parsed text) _ (parsed_shows text) (λ C h. go C h (fault 0 C) refl)
  where
    go : (C : Chart) → Spells text C → (o : Option Refusal) → fault 0 C ≡ o → OnGiven (λ (C : Chart). Spells text C × (fault 0 C ≡ None)) (unless o C)
    go C h None e = (h, e)
    go C h (Some f) e = tt

-- ---- a text that has the chart's fields is read

-- what the reader says of a chart after whose fields r follows: a byte there is 14
abbrev pub Left : Chart → List ℕ → List ℕ → Answer Chart
Left C text [] = Ok C
Left C text (b ∷ s) = Err (sole 14 (length text - length (b ∷ s)))

whole-left : (C : Chart) (text : List ℕ) (at : ℕ) (r : List ℕ) → drop at text ≡ r → whole text at C ≡ Left C text r
whole-left C text at [] h = whole_end text at C (omega (arith, sym (length-drop at text) ∙ ap length h))
whole-left C text at (b ∷ s) h =
    let n : length text - at ≡ suc (length s) = sym (length-drop at text) ∙ ap length h in
    let z : length text - suc (length s) ≡ at = omega arith in
    whole-after text at C (omega arith) ∙ rw z

-- the six numbers of a chart's first record
abbrev first : Chart → List ℕ
first C = C.head.places ∷ C.head.alarm ∷ size C.table ∷ 0 ∷ 0 ∷ 0 ∷ []

pub spelt_parsed : (C : Chart) (text r : List ℕ) → length C.table ≡ 6 * size C.table → Items 0 (numbers C) text r → parsed text ≡ Left C text r
unfolding rows_at
spelt_parsed C text r w i =
    let h = items_split (first C) C.table 0 text r i in
    let a = items_read (first C) 0 text 0 [] h.between h.first in
    let b = items_read C.table 6 text a.next [] r (subst (λ (s : List ℕ). Items 6 C.table s r) (sym a.left) h.second) in
    let n = items_some (numbers C) 0 text r (omega arith) i in
    parsed-some text (λ e. omega arith) ∙ rw (a.is, ← w, b.is) (whole-left C text b.next r b.left)

-- ---- the text that is written has the chart's fields

closing-is : (k : ℕ) (r : List ℕ) → Closing k (closing k ++ r) r
unfolding closing
closing-is k r =
    dite (dec_lt (k % 6) 5) (λ h. let n : k % 6 ≡ 5 → ⊥ = λ e. omega arith in comma n (rw (ne_eqb _ _ n, closing)))
    (λ h. let e : k % 6 ≡ 5 = omega arith in line e (rw (eq-eqb _ _ e, closing)))

pub fields_items : (l : List ℕ) (k : ℕ) (r : List ℕ) → FitAll k l → Items k l (fields_text k l ++ r) r
unfolding fields_text
fields_items [] k r h = refl
fields_items (x ∷ l) k r h =
    record {
      middle = fields_text (suc k) l ++ r;
      item = record {
        after = closing k ++ (fields_text (suc k) l ++ r);
        field = record { small = h.0; fits = h.1.0; bytes = decimal x; spelt = bare refl; is = append_assoc (field_text k x) (fields_text (suc k) l) r ∙ append_assoc (decimal x) (closing k) (fields_text (suc k) l ++ r) };
        close = closing-is k (fields_text (suc k) l ++ r);
      };
      rest = fields_items l (suc k) r h.1.1;
    }

fit-plain : (l : List ℕ) (k : ℕ) → 6 ≤ k → ((i : ℕ) → get_or l i 0 ≤ 4294967295) → FitAll k l
fit-plain [] k n h = tt
fit-plain (x ∷ l) k n h = (h 0, (subst (λ (s : Kind). Fits s x) (kind-high k (omega arith)) tt, fit-plain l (suc k) (omega arith) (λ i. h (suc i))))

pub chart-fits : (C : Chart) → U32s (numbers C) → size C.table ≤ 128 → FitAll 0 (numbers C)
unfolding kind
chart-fits C u n =
    (u.small 0, (tt, (u.small 1, (tt, (u.small 2, (n, (u.small 3, (refl, (u.small 4, (refl, (u.small 5, (refl, fit-plain C.table 6 (omega arith) (λ i. u.small (suc (suc (suc (suc (suc (suc i)))))))))))))))))))
