-- What a call of the reader or of the writer says of RFC 4180 files: it follows from the equations that the call meets.
-- Assumes nothing.
use Rattle.std.proofs.Common.{◌≡◌, ℕ, zero, suc, ◌*◌, ◌%◌, ◌≤◌, Bool, true, false, eqb, leb, ◌↔◌, List, ◌++◌, length, get_or, take, drop, sym, refl, ap, ◌∙◌, subst, arith, eqb→eq, take_at}
use Rattle.std.specs.Prelude.{Option, None, Some, Ok, Err}
use Rattle.base.specs.declared.Refusal.{Refusal}
use Rattle.base.specs.Answers.{Answer}
use Rattle.base.specs.Refusals.{sole, unless}
use Rattle.base.proofs.Answers.{different}
use Rattle.base.proofs.Tests.{T_true}
use Rattle.chart.specs.Heads.{Head}
use Rattle.chart.specs.Charts.{Chart, size, charted}
use Rattle.chart.specs.Faults.{refusal}
use Rattle.chart.proofs.Faultless.{faultless}
use Rattle.text.specs.declared.answers.Heading.{Heading}
use Rattle.text.specs.Texts.{read_text, read_into, filled, heading}
use Rattle.text.specs.Written.{numbers, written, writing, printed}
use Rattle.text.specs.Files.{U32s, FileOf, chart_read}
use Rattle.text.proofs.Told.{ReadAs, read_sized, WroteAs}
use Rattle.text.proofs.Theorems.{read_exactly, written-file}

-- ---- the reader

-- the chart D that is answered, with its rows at the front of the table
chart-is : (r : Answer Heading) (after table : List ℕ) (D : Chart) → r ≡ Ok (heading D) → after ≡ D.table ++ drop (length D.table) table → length D.table % 6 ≡ 0 → chart_read r after ≡ Some D
unfolding chart_read
chart-is r after table D t l w =
    let k : take (6 * size D.table) after ≡ D.table = rw l (take_at D.table _ (6 * size D.table) (omega arith)) in
    ap (λ (a : Answer Heading). chart_read a after) t ∙ ap (λ (l : List ℕ). Some (charted D.head l)) k

chart-none : (r : Answer Heading) (after : List ℕ) (s : Refusal) → r ≡ Err s → chart_read r after ≡ None
unfolding chart_read
chart-none r after s t = rw t

not_some : {A : Type 0} {x : A} → ◌≡◌ {A = Option A} None (Some x) → ⊥
not_some e = let z : ◌≡◌ {A = ℕ} 0 1 = cc in omega arith

some_one : {A : Type 0} {x y : A} → ◌≡◌ {A = Option A} (Some x) (Some y) → x ≡ y
some_one e = cc

given-one : {A : Type 0} {x y : A} → ◌≡◌ {A = Answer A} (Ok x) (Ok y) → x ≡ y
given-one e = cc

module _ (text table : List ℕ) where
  -- a chart is read into a table of 768 entries alone
  sized : (D : Chart) → read_into text table ≡ Ok D → length table ≡ 768
  unfolding read_into
  sized D e = go (eqb (length table) 768) refl e
    where
      go : (b : Bool) → eqb (length table) 768 ≡ b → elim b as (λ _. Answer Chart) [ true ↦ read_text text | false ↦ Err (sole 21 0) ] ≡ Ok D → length table ≡ 768
      go true i e = eqb→eq (length table) 768 (T_true i)
      go false i e = absurd (different (sym e))

  filed : (D : Chart) → read_into text table ≡ Ok D → FileOf D text
  filed D e = (read_exactly D text).0 (sym (read_sized text table (sized D e)) ∙ e)

  -- what is answered of a text is a chart exactly where the text is its file
  read_filed : (r : Answer Heading) (after : List ℕ) → ReadAs (read_into text table) r table after → (C : Chart) → (chart_read r after ≡ Some C) ↔ (FileOf C text × (length table ≡ 768))
  unfolding filled
  read_filed r after a C = (to (read_into text table) refl a, from)
    where
      to : (x : Answer Chart) → read_into text table ≡ x → ReadAs x r table after → chart_read r after ≡ Some C → FileOf C text × (length table ≡ 768)
      to (Err s) i a e = absurd (not_some (sym (chart-none r after s a.0) ∙ e))
      to (Ok D) i a e =
          let f = filed D i in
          let z : D ≡ C = some_one (sym (chart-is r after table D a.0 a.1 (faultless D f.faultless).whole) ∙ e) in
          (subst (λ (C : Chart). FileOf C text) z f, sized D i)

      from : FileOf C text × (length table ≡ 768) → chart_read r after ≡ Some C
      from f =
          let i : read_into text table ≡ Ok C = read_sized text table f.1 ∙ (read_exactly C text).1 f.0 in
          let b : ReadAs (Ok C) r table after = subst (λ (x : Answer Chart). ReadAs x r table after) i a in
          chart-is r after table C b.0 b.1 (faultless C f.0.faultless).whole

  -- all that a call says
  pub read_said : (r : Answer Heading) (after : List ℕ) → ReadAs (read_into text table) r table after
      → ReadAs (read_into text table) r table after × ((C : Chart) → (chart_read r after ≡ Some C) ↔ (FileOf C text × (length table ≡ 768)))
  read_said r after a = (a, read_filed r after a)

-- ---- the writer

-- the numbers of a faultless chart whose head and entries are u32
pub u32s : (h : Head) (l : List ℕ) → h.places ≤ 4294967295 → h.alarm ≤ 4294967295 → ((i : ℕ) → get_or l i 0 ≤ 4294967295) → refusal (charted h l) ≡ None → U32s (numbers (charted h l))
u32s h l p q e f = record { small = go }
  where
    go : (i : ℕ) → get_or (numbers (charted h l)) i 0 ≤ 4294967295
    go zero = p
    go (suc zero) = q
    go (suc (suc zero)) = omega (arith, (faultless (charted h l) f).few_rows)
    go (suc (suc (suc zero))) = omega arith
    go (suc (suc (suc (suc zero)))) = omega arith
    go (suc (suc (suc (suc (suc zero))))) = omega arith
    go (suc (suc (suc (suc (suc (suc i)))))) = e i

module _ (h : Head) (l bytes : List ℕ) (p : h.places ≤ 4294967295) (q : h.alarm ≤ 4294967295) (u : (i : ℕ) → get_or l i 0 ≤ 4294967295) where
  -- what is written is the text of a faultless chart
  wrote : (t : List ℕ) → writing (charted h l) (length bytes) ≡ Ok t → (t ≡ written (charted h l)) × (refusal (charted h l) ≡ None)
  unfolding writing
  wrote t e = go (leb 8643 (length bytes)) (refusal (charted h l)) e
    where
      go : (b : Bool) (o : Option Refusal) → elim b as (λ _. Answer (List ℕ)) [ true ↦ unless o (written (charted h l)) | false ↦ Err (sole 21 0) ] ≡ Ok t → (t ≡ written (charted h l)) × (o ≡ None)
      go true None e = (cc, refl)
      go true (Some r) e = absurd (different (sym e))
      go false o e = absurd (different (sym e))

  -- what stands at the front of the bytes is the chart's file
  write_filed : (r : Answer ℕ) (after : List ℕ) → WroteAs (writing (charted h l) (length bytes)) r bytes after → (n : ℕ) → r ≡ Ok n → FileOf (charted h l) (take n after)
  unfolding printed
  write_filed r after a n e = go (writing (charted h l) (length bytes)) refl a
    where
      go : (x : Answer (List ℕ)) → writing (charted h l) (length bytes) ≡ x → WroteAs x r bytes after → FileOf (charted h l) (take n after)
      go (Err s) i a = absurd (different (sym e ∙ a.0))
      go (Ok t) i a =
          let z : n ≡ length t = given-one (sym e ∙ a.0) in
          let w = wrote t i in
          let k : take n after ≡ t = rw a.1 (take_at t _ n (sym z)) in
          rw (k, w.0) (written-file (charted h l) (u32s h l p q u w.1) w.1)

  pub write_said : (r : Answer ℕ) (after : List ℕ) → WroteAs (writing (charted h l) (length bytes)) r bytes after
      → WroteAs (writing (charted h l) (length bytes)) r bytes after × ((n : ℕ) → r ≡ Ok n → FileOf (charted h l) (take n after))
  write_said r after a = (a, write_filed r after a)
