-- A text is read as a chart exactly where it is the chart's file: both directions, and the file that is written.
-- Assumes nothing.
use Rattle.std.proofs.Common.{◌≡◌, ℕ, zero, suc, ◌-◌, ◌*◌, ◌%◌, ◌≤◌, List, [], ◌∷◌, ◌++◌, length, get_or, ◌∙◌, subst, append-nil, arith, length-append}
use Rattle.std.specs.Prelude.{None, Ok, Err}
use Rattle.base.specs.Refusals.{sole}
use Rattle.base.proofs.OnSome.{OnGiven}
use Rattle.chart.specs.Charts.{Chart, size}
use Rattle.chart.specs.Faults.{fault, refusal}
use Rattle.chart.proofs.Faultless.{faultless}
use Rattle.text.specs.Texts.{parsed, read_text}
use Rattle.text.specs.Written.{numbers, written}
use Rattle.text.specs.Files.{U32s, FileOf}
use Rattle.text.proofs.Sequences.{Items, FitAll, items_fit}
use Rattle.text.proofs.Grammar.{items_file, file_items}
use Rattle.text.proofs.Told.{whole-rows}
use Rattle.text.proofs.Charts.{Spells, read_shows, spelt_parsed, fields_items, chart-fits}

-- ---- a chart and its numbers

whole-size : (C : Chart) → length C.table % 6 ≡ 0 → length (numbers C) ≡ 6 * suc (size C.table)
whole-size C h = omega arith

fit_small : (l : List ℕ) (k : ℕ) → FitAll k l → (i : ℕ) → get_or l i 0 ≤ 4294967295
fit_small [] k h i = omega arith
fit_small (x ∷ l) k h zero = h.0
fit_small (x ∷ l) k h (suc i) = fit_small l (suc k) h.1.1 i

-- a chart that is not refused, of u32 numbers, fits the fields of its text
pub fits : (C : Chart) → U32s (numbers C) → refusal C ≡ None → FitAll 0 (numbers C)
fits C u h = chart-fits C u (faultless C h).few_rows

-- what is parsed of a text with a chart's fields is judged, and is the chart
judged : (C : Chart) (text : List ℕ) → refusal C ≡ None → parsed text ≡ Ok C → read_text text ≡ Ok C
unfolding read_text
judged C text h e = rw (e, ← whole-rows C (faultless C h).whole, h)

-- ---- both directions

pub file_read : (C : Chart) (text : List ℕ) → FileOf C text → read_text text ≡ Ok C
file_read C text f =
    let w = (faultless C f.faultless).whole in
    judged C text f.faultless
    (spelt_parsed C text [] (omega arith) (file_items (size C.table) (numbers C) text (whole-size C w) (fits C f.u32s f.faultless) f.file))

pub read_file : (C : Chart) (text : List ℕ) → read_text text ≡ Ok C → FileOf C text
read_file C text e =
    let s = subst (OnGiven (λ (C : Chart). Spells text C × (fault 0 C ≡ None))) e (read_shows text) in
    let w : length C.table % 6 ≡ 0 = omega (arith, s.0.rows) in
    record {
      file = items_file (size C.table) (numbers C) text (whole-size C w) s.0.items;
      u32s = record { small = fit_small (numbers C) 0 (items_fit (numbers C) 0 text [] s.0.items) };
      faultless = whole-rows C w ∙ s.1;
    }

-- ---- the text that is written

pub written_items : (C : Chart) → U32s (numbers C) → refusal C ≡ None → Items 0 (numbers C) (written C) []
unfolding written
written_items C u h = subst (λ (s : List ℕ). Items 0 (numbers C) s []) (append-nil (written C)) (fields_items (numbers C) 0 [] (fits C u h))

pub file-written : (C : Chart) → U32s (numbers C) → refusal C ≡ None → FileOf C (written C)
file-written C u h =
    record { file = items_file (size C.table) (numbers C) (written C) (whole-size C (faultless C h).whole) (written_items C u h); u32s = u; faultless = h }

pub byte_more : (C : Chart) (b : ℕ) (s : List ℕ) → U32s (numbers C) → refusal C ≡ None → read_text (written C ++ (b ∷ s)) ≡ Err (sole 14 (length (written C)))
unfolding read_text written
byte_more C b s u h =
    let w = (faultless C h).whole in
    let z : length (written C ++ (b ∷ s)) - length (b ∷ s) ≡ length (written C) = rw (length-append (written C) (b ∷ s)) (omega arith) in
    rw (spelt_parsed C (written C ++ (b ∷ s)) (b ∷ s) (omega arith) (fields_items (numbers C) 0 (b ∷ s) (fits C u h)), z)
