-- Where a field ends: at most 13 bytes after its start, and one more for the sixth of a record. A refusal's position is there too.
-- Assumes nothing.
use Rattle.std.proofs.Common.{◌≡◌, ℕ, zero, suc, ◌+◌, ◌-◌, ◌*◌, ◌/◌, ◌%◌, ◌<◌, ◌≤◌, Bool, true, false, ◌&&◌, eqb, leb, List, [], ◌∷◌, ◌++◌, length, drop, sym, ap, ◌∙◌, arith, eq-eqb, ne_eqb}
use mathlib.Core.Logic.{dite}
use native.Mathlib.Decide.{dec_lt}
use borrow.Author.Tests.{lt-leb}
use Rattle.base.specs.Answers.{Answer}
use Rattle.std.specs.Prelude.{Ok, Err}
use Rattle.base.specs.declared.Reason.TheVariants as because
use Rattle.text.specs.declared.fields.Kind.{Kind}
use Rattle.text.specs.declared.fields.Kind.TheVariants.{Plain, Count, Spare}
use Rattle.text.specs.Fields.{Field, unfit, byte_at, digits, value, more, kind, judged, bounded, ended, number_of, number_at, followed, field_at, line_end, closed, missing, item_at}
use Rattle.text.specs.Spans.{Span, fields_at}
use Rattle.text.proofs.Cases.{by_test, by_field}
use Rattle.text.proofs.Numbers.{missing-inside}

-- ---- one field

-- the offset that a field or its refusal names
abbrev pub end : Field → ℕ
end (Ok n) = n.next
end (Err u) = u.offset

unfoldable ten : ℕ → ℕ
ten zero = 1
ten (suc k) = 10 * ten k

ten_more : (k j : ℕ) → ten k ≤ ten (k + j)
unfolding ten
ten_more k zero = let z : k + 0 ≡ k = omega arith in rw z (omega arith)
ten_more k (suc j) = let z : k + suc j ≡ suc (k + j) = omega arith in rw (z, ten) (omega (arith, ten_more k j))

value-least : (j x : ℕ) (ds : List ℕ) → ten j ≤ x → ten (j + length ds) ≤ value x ds
unfolding ten value
value-least j x [] h = let z : j + 0 ≡ j = omega arith in rw z h
value-least j x (d ∷ ds) h =
    let z : j + suc (length ds) ≡ suc j + length ds = omega arith in
    rw z (value-least (suc j) (x * 10 + d) ds (omega arith))

-- eleven digits or more are too many
pub number-long : (sort : Kind) (first : ℕ) (ds : List ℕ) → 11 ≤ length ds → number_of sort first ds ≡ unfit because.BadNumber first
unfolding number_of ended bounded ten
number-long sort first [] h = absurd (omega arith)
number-long sort first (d ∷ []) h = absurd (omega arith)
number-long sort first (d ∷ e ∷ ds) h =
    dite (dec_lt 0 d)
    (λ p.
    let l = value-least 0 d (e ∷ ds) p in
    let m = ten_more 10 (length ds + 1 - 10) in
    let z : 10 + (length ds + 1 - 10) ≡ 0 + suc (length ds) = omega arith in
    let g : 4294967295 < value d (e ∷ ds) = omega (arith, rw z at m) in
    rw (ne_eqb d 0 (λ q. omega arith), ended, lt-leb (value d (e ∷ ds)) 4294967295 g, bounded))
    (λ n. let z : d ≡ 0 = omega arith in rw z)

module _ (q : ℕ) where
  -- it ends at q or before
  abbrev Ends : Field → Type 0
  Ends f = end f ≤ q

  judged-ends : (sort : Kind) (first next x : ℕ) → first ≤ q → next ≤ q → Ends (judged sort first next x)
  unfolding judged
  judged-ends Plain first next x h g = g
  judged-ends Count first next x h g = by_test Ends (leb x 128) (λ _. g) (λ _. h)
  judged-ends Spare first next x h g = by_test Ends (eqb x 0) (λ _. g) (λ _. h)

  bounded-ends : (sort : Kind) (first next x : ℕ) → first ≤ q → next ≤ q → Ends (bounded sort first next x)
  unfolding bounded
  bounded-ends sort first next x h g = by_test Ends (leb x 4294967295) (λ _. judged-ends sort first next x h g) (λ _. h)

  short_ends : (sort : Kind) (first : ℕ) (ds : List ℕ) → first + length ds ≤ q → Ends (number_of sort first ds)
  unfolding number_of ended
  short_ends sort first [] h = omega arith
  short_ends sort first (d ∷ ds) h =
      by_test Ends (eqb d 0 && more ds) (λ _. omega arith)
      (λ _. bounded-ends sort first (first + 1 + length ds) (value d ds) (omega arith) (omega arith))

pub number-ends : (sort : Kind) (text : List ℕ) (first : ℕ) → end (number_at sort text first) ≤ first + 10
unfolding number_at
number-ends sort text first =
    dite (dec_lt (length (digits (drop first text))) 11)
    (λ h. short_ends (first + 10) sort first (digits (drop first text)) (omega arith))
    (λ n. rw (number-long sort first (digits (drop first text)) (omega arith)) (omega arith))

pub followed-ends : (b : ℕ) (text : List ℕ) (f : Field) → end (followed b text f) ≤ end f + 1
unfolding followed
followed-ends b text (Err u) = omega arith
followed-ends b text (Ok n) = by_test (Ends (n.next + 1)) (eqb (byte_at text n.next) b) (λ _. omega arith) (λ _. omega arith)

pub field_ends : (sort : Kind) (text : List ℕ) (at : ℕ) → end (field_at sort text at) ≤ at + 12
unfolding field_at
field_ends sort text at =
    by_test (Ends (at + 12)) (eqb (byte_at text at) 34)
    (λ _. omega (arith, followed-ends 34 text (number_at sort text (at + 1)), number-ends sort text (at + 1)))
    (λ _. omega (arith, number-ends sort text at))

pub line-ends : (text : List ℕ) (f : Field) → end (line_end text f) ≤ end f + 2
unfolding line_end
line-ends text (Err u) = omega arith
line-ends text (Ok n) =
    by_test (Ends (n.next + 2)) (leb (length text) n.next) (λ _. omega arith)
    (λ _. omega (arith, followed-ends 10 text (followed 13 text (Ok n)), followed-ends 13 text (Ok n)))

-- the bytes that so many fields from field k on take at most: ten digits, two quotes and a comma each, and one more for each record that ends
abbrev pub reach : ℕ → ℕ → ℕ
reach k n = 13 * n + ((k + n) / 6 - k / 6)

pub closed-ends : (k : ℕ) (text : List ℕ) (f : Field) → end (closed k text f) ≤ end f + 1 + ((k + 1) / 6 - k / 6)
unfolding closed
closed-ends k text f =
    dite (dec_lt (k % 6) 5)
    (λ h. rw (ne_eqb (k % 6) 5 (λ e. omega arith), closed) (omega (arith, followed-ends 44 text f)))
    (λ h. rw (eq-eqb (k % 6) 5 (omega arith), closed) (omega (arith, line-ends text f)))

pub item_ends : (k : ℕ) (text : List ℕ) (at : ℕ) → end (item_at k text at) ≤ at + reach k 1
unfolding item_at
item_ends k text at =
    by_test (Ends (at + reach k 1)) (missing k text at) (λ e. omega (arith, past e))
    (λ _. omega (arith, closed-ends k text (field_at (kind k) text at), field_ends (kind k) text at))
  where
    past : missing k text at ≡ true → length text ≤ at
    past e =
        dite (dec_lt at (length text))
        (λ h. let z : ◌≡◌ {A = Bool} true false = sym e ∙ sym (missing-inside k text at h) in let y : ◌≡◌ {A = ℕ} 0 1 = cc in absurd (omega arith))
        (λ n. omega arith)

-- ---- many fields

-- where an answer of so many fields stops
abbrev pub stops : Answer Span → ℕ
stops (Ok s) = s.next
stops (Err r) = r.position

pub reach_one : (k n : ℕ) → reach k 1 + reach (suc k) n ≡ reach k (suc n)
reach_one k n = omega arith

pub fields_stop : (n k : ℕ) (text : List ℕ) (at : ℕ) (before : List ℕ) → stops (fields_at n k text at before) ≤ at + reach k n
unfolding fields_at
fields_stop zero k text at before = omega arith
fields_stop (suc n) k text at before =
    by_field (λ (r : Answer Span). stops r ≤ at + reach k (suc n)) (item_at k text at) _
    (λ x p e. omega (arith, fields_stop n (suc k) text p (before ++ (x ∷ [])), reach_one k n, item_ends k text at, ap end e))
    (λ u e. omega (arith, reach_one k n, item_ends k text at, ap end e))
