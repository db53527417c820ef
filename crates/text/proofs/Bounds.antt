-- What is read is a faultless chart, what is written has at most 8,643 bytes, and the refusals of both fit.
-- Assumes nothing.
use Rattle.std.proofs.Common.{◌≡◌, ℕ, zero, suc, ◌*◌, ◌≤◌, Bool, true, false, T, eqb, leb, List, [], ◌∷◌, ◌++◌, length, refl, arith}
use Rattle.std.specs.Prelude.{None, Ok, Err}
use mathlib.Core.Logic.{dite}
use native.Mathlib.Decide.{dec_lt}
use Rattle.base.specs.Answers.{Answer}
use Rattle.base.specs.Chains.{and_then}
use Rattle.base.specs.Refusals.{sole, unless}
use Rattle.base.specs.Tests.{within}
use Rattle.base.specs.inner.Fits.{FitsOr}
use Rattle.base.proofs.Fits.{named_fits, unless-fits}
use Rattle.chart.specs.Charts.{Chart}
use Rattle.chart.specs.Faults.{fault, refusal}
use Rattle.chart.specs.Faultless.{FaultlessChart}
use Rattle.chart.proofs.Bounds.{fault-fits, refusal-fits}
use Rattle.chart.proofs.Faultless.{faultless}
use Rattle.base.specs.declared.Reason.{Reason}
use Rattle.base.specs.declared.Reason.TheVariants as because
use Rattle.base.specs.Reasons.{reason_number}
use Rattle.text.specs.Fields.{item_at}
use Rattle.text.specs.Files.{U32s}
use Rattle.text.specs.Spans.{fields_at}
use Rattle.text.specs.Texts.{whole, rows_at, parsed, read_text, read_into, count_in}
use Rattle.text.specs.Written.{numbers, written, writing}
use Rattle.text.proofs.Cases.{by_field}
use Rattle.text.proofs.Lengths.{written_short}
use Rattle.text.proofs.Told.{whole-after, whole_end}
use Rattle.text.proofs.Theorems.{read_exactly, text_positions}

-- ---- the numbers of a text's refusals

-- the number of each reason is one
reason_named : (r : Reason) → T (within 1 255 (reason_number r))
reason_named because.Lacking = tt
reason_named because.Exceeding = tt
reason_named because.AlarmOutside = tt
reason_named because.Straying = tt
reason_named because.Descending = tt
reason_named because.UnknownCode = tt
reason_named because.WrongOperand = tt
reason_named because.Conflicting = tt
reason_named because.NoBytes = tt
reason_named because.BadByte = tt
reason_named because.BadNumber = tt
reason_named because.WrongEnd = tt
reason_named because.WrongCall = tt
reason_named because.Misshapen = tt
reason_named because.BrokenRule = tt

-- a refusal has a number, of the sole chart
abbrev Sole : {A : Type 0} → Answer A → Type 0
Sole (Ok x) = Unit
Sole (Err r) = T (within 1 255 r.number) × (r.chart ≡ 0)

fields_sole : (n k : ℕ) (text : List ℕ) (at : ℕ) (before : List ℕ) → Sole (fields_at n k text at before)
unfolding fields_at
fields_sole zero k text at before = tt
fields_sole (suc n) k text at before =
    by_field Sole (item_at k text at) _ (λ x p e. fields_sole n (suc k) text p (before ++ (x ∷ []))) (λ u e. (reason_named u.reason, refl))

sole_then : {A B : Type 0} (a : Answer A) (f : A → Answer B) → Sole a → ((x : A) → Sole (f x)) → Sole (and_then a f)
sole_then (Ok x) f h g = g x
sole_then (Err r) f h g = h

whole-sole : (text : List ℕ) (at : ℕ) (C : Chart) → Sole (whole text at C)
whole-sole text at C =
    dite (dec_lt at (length text)) (λ h. rw (whole-after text at C h) (tt, refl)) (λ n. rw (whole_end text at C (omega arith)) tt)

parsed-sole : (text : List ℕ) → Sole (parsed text)
unfolding parsed rows_at
parsed-sole [] = (tt, refl)
parsed-sole (b ∷ t) =
    sole_then (fields_at 6 0 (b ∷ t) 0 []) _ (fields_sole 6 0 (b ∷ t) 0 [])
    (λ s. sole_then (fields_at (6 * count_in s.numbers) 6 (b ∷ t) s.next []) _ (fields_sole (6 * count_in s.numbers) 6 (b ∷ t) s.next []) (λ r. whole-sole (b ∷ t) r.next _))

-- ---- answers

judged-fits : (text : List ℕ) (a : Answer Chart) → parsed text ≡ a → Sole a → FitsOr FaultlessChart (and_then a (λ (C : Chart). unless (fault 0 C) C))
unfolding read_text
judged-fits text (Err r) e h =
    record {
      some_number = (named_fits r.number 0 0 h.0 (omega arith) (omega arith)).some_number;
      number = (named_fits r.number 0 0 h.0 (omega arith) (omega arith)).number;
      chart = omega (arith, h.1);
      position = omega (arith, text_positions text r e);
    }
judged-fits text (Ok C) e h =
    unless-fits FaultlessChart (fault 0 C) C (fault-fits 0 (omega arith) C) (λ z. faultless C ((read_exactly C text).0 (rw (e, z))).faultless)

-- Whatever the reader refuses fits; what it reads is faultless.
pub read_fits : (text table : List ℕ) → FitsOr FaultlessChart (read_into text table)
unfolding read_into read_text
read_fits text table = go (eqb (length table) 768)
  where
    go : (t : Bool) → FitsOr FaultlessChart (elim t as (λ _. Answer Chart) [ true ↦ read_text text | false ↦ Err (sole 21 0) ])
    go true = judged-fits text (parsed text) refl (parsed-sole text)
    go false = named_fits 21 0 0 tt (omega arith) (omega arith)

-- a text that fits the bytes that are lent
abbrev pub Short : List ℕ → Type 0
Short t = length t ≤ 8643

-- Whatever the writer refuses fits; what it writes is short.
pub write_fits : (C : Chart) (lent : ℕ) → (refusal C ≡ None → U32s (numbers C)) → FitsOr Short (writing C lent)
unfolding writing
write_fits C lent u = go (leb 8643 lent)
  where
    go : (t : Bool) → FitsOr Short (elim t as (λ _. Answer (List ℕ)) [ true ↦ unless (refusal C) (written C) | false ↦ Err (sole 21 0) ])
    go true = unless-fits Short (refusal C) (written C) (refusal-fits C) (λ e. written_short C (u e) e)
    go false = named_fits 21 0 0 tt (omega arith) (omega arith)
