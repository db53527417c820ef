-- What is read of a text that is cut behind the bytes in which it ends or is refused is what is read of it whole.
-- Assumes nothing.
use Rattle.std.proofs.Common.{◌≡◌, ℕ, zero, suc, ◌+◌, ◌-◌, ◌%◌, ◌<◌, ◌≤◌, Bool, true, false, eqb, List, [], ◌∷◌, ◌++◌, length, take, drop, sym, refl, ap, ◌∙◌, arith, length-take-le, take_all, get_or-take, le-leb}
use mathlib.Core.Logic.{dite}
use native.Mathlib.Decide.{dec_lt}
use borrow.Author.Tests.{lt-leb}
use Rattle.std.proofs.lemmas.List.{drop-take}
use Rattle.base.specs.Answers.{Answer}
use Rattle.text.specs.declared.fields.Kind.{Kind}
use Rattle.std.specs.Prelude.{Ok, Err}
use Rattle.text.specs.Fields.{Field, number, byte_at, digit_of, digits, kind, number_of, number_at, followed, field_at, line_end, closed, missing, item_at}
use Rattle.text.specs.Spans.{on_field, fields_at}
use Rattle.text.proofs.Numbers.{missing-inside}
use Rattle.text.proofs.Positions.{end, number-long, number-ends, followed-ends, field_ends, reach, item_ends, reach_one}

digits-take : (k : ℕ) (s : List ℕ) → digits (take k s) ≡ take k (digits s)
unfolding digits
digits-take zero s = refl
digits-take (suc k) [] = refl
digits-take (suc k) (b ∷ s) =
    dite (dec_lt 9 (digit_of b)) (λ h. rw (lt-leb (digit_of b) 9 h, digits))
    (λ n. rw (le-leb (digit_of b) 9 (omega arith), digits) (ap (λ (l : List ℕ). digit_of b ∷ l) (digits-take k s)))

number-take : (sort : Kind) (first k : ℕ) (ds : List ℕ) → 11 ≤ k → number_of sort first (take k ds) ≡ number_of sort first ds
number-take sort first k ds h =
    dite (dec_lt k (length ds))
    (λ l. number-long sort first (take k ds) (rw (length-take-le k ds (omega arith)) h) ∙ sym (number-long sort first ds (omega arith)))
    (λ n. rw (take_all k ds (omega arith)))

either : (t : Bool) {a b c d : Field} → a ≡ b → c ≡ d → ◌≡◌ {A = Field} (elim t as (λ _. Field) [ true ↦ a | false ↦ c ]) (elim t as (λ _. Field) [ true ↦ b | false ↦ d ])
either true e f = e
either false e f = f

module _ (text : List ℕ) (m : ℕ) (long : m ≤ length text) where
  cut_byte : (p : ℕ) → p < m → byte_at (take m text) p ≡ byte_at text p
  cut_byte p h = get_or-take m text p 256 h

  pub cut_length : length (take m text) ≡ m
  cut_length = length-take-le m text long

  cut_number : (sort : Kind) (first : ℕ) → first + 11 ≤ m → number_at sort (take m text) first ≡ number_at sort text first
  unfolding number_at
  cut_number sort first h =
      let z : first + (m - first) ≡ m = omega arith in
      let d : drop first (take m text) ≡ take (m - first) (drop first text) = ap (λ (k : ℕ). drop first (take k text)) (sym z) ∙ drop-take first (m - first) text in
      rw (d, digits-take (m - first) (drop first text)) (number-take sort first (m - first) (digits (drop first text)) (omega arith))

  cut_followed : (b : ℕ) (f : Field) → end f < m → followed b (take m text) f ≡ followed b text f
  unfolding followed
  cut_followed b (Err u) g = refl
  cut_followed b (Ok n) g = rw (cut_byte n.next g, followed)

  cut_field : (sort : Kind) (at : ℕ) → at + 13 ≤ m → field_at sort (take m text) at ≡ field_at sort text at
  unfolding field_at
  cut_field sort at h =
      rw (cut_byte at (omega arith), field_at)
      (either (eqb (byte_at text at) 34)
      (ap (followed 34 (take m text)) (cut_number sort (at + 1) (omega arith)) ∙ cut_followed 34 (number_at sort text (at + 1)) (omega (arith, number-ends sort text (at + 1))))
      (cut_number sort at (omega arith)))

  cut_line : (f : Field) → end f + 1 < m → line_end (take m text) f ≡ line_end text f
  unfolding line_end
  cut_line (Err u) g = refl
  cut_line (Ok n) g =
      rw (cut_length, lt-leb m n.next (omega arith), lt-leb (length text) n.next (omega arith), line_end)
      (ap (followed 10 (take m text)) (cut_followed 13 (Ok n) (omega arith)) ∙ cut_followed 10 (followed 13 text (Ok n)) (omega (arith, followed-ends 13 text (Ok n))))

  cut_closed : (k : ℕ) (f : Field) → end f + 1 < m → closed k (take m text) f ≡ closed k text f
  unfolding closed
  cut_closed k f g = either (eqb (k % 6) 5) (cut_line f g) (cut_followed 44 f (omega arith))

  cut_item : (k at : ℕ) → at + reach k 1 < m → item_at k (take m text) at ≡ item_at k text at
  unfolding item_at
  cut_item k at h =
      let t : missing k (take m text) at ≡ false = sym (missing-inside k (take m text) at (rw cut_length (omega arith))) in
      let u : missing k text at ≡ false = sym (missing-inside k text at (omega arith)) in
      rw (t, u, item_at, cut_field (kind k) at (omega arith)) (cut_closed k (field_at (kind k) text at) (omega (arith, field_ends (kind k) text at)))

  on_same : {A : Type 0} (f : Field) (g h : ℕ → ℕ → Answer A) → ((x p : ℕ) → f ≡ number x p → g x p ≡ h x p) → on_field f g ≡ on_field f h
  on_same (Ok n) g h e = e n.value n.next refl
  on_same (Err u) g h e = refl

  pub cut_fields : (n k at : ℕ) (before : List ℕ) → at + reach k n < m → fields_at n k (take m text) at before ≡ fields_at n k text at before
  unfolding fields_at
  cut_fields zero k at before h = refl
  cut_fields (suc n) k at before h =
      rw (cut_item k at (omega (arith, reach_one k n)))
      (on_same (item_at k text at) _ _ (λ x p e. cut_fields n (suc k) p (before ++ (x ∷ [])) (omega (arith, reach_one k n, item_ends k text at, ap end e))))
