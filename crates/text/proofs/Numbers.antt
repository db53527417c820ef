-- Laws of bytes, digits, numbers and fields.
-- Assumes nothing.
use Rattle.std.proofs.Common.{◌≡◌, ℕ, zero, suc, ◌+◌, ◌-◌, ◌*◌, ◌%◌, ◌^◌, ◌<◌, ◌≤◌, Bool, true, false, not, eqb, leb, List, [], ◌∷◌, length, get_or, drop, sym, refl, ap, ◌∙◌, add-one, arith, drop_of_length-le, drop-cons, eq-eqb, ne_eqb, le-leb, leb-false, leb-true}
use borrow.Author.Tests.{lt-leb, not-true, not-false}
use lib.ListN.{get_or-eq_default}
use Rattle.std.proofs.lemmas.List.{get_or_default}
use Rattle.std.proofs.Math.Bool.{and-true}
use Rattle.base.proofs.Tests.{and_false}
use Rattle.text.specs.declared.causes.Unfit.{Unfit}
use Rattle.base.specs.declared.Reason.{Reason}
use Rattle.base.specs.declared.Reason.TheVariants as because
use Rattle.text.specs.declared.fields.Kind.{Kind}
use Rattle.text.specs.declared.fields.Number.{Number}
use Rattle.std.specs.Prelude.{Ok, Err}
use Rattle.text.specs.Fields.{Field, number, unfit, byte_at, digit_of, digits, value, kind, judged, bounded, ended, number_of, number_at, followed, field_at, line_end, closed, missing, item_at}
use Rattle.text.specs.inner.Digits.{TellsDigit}
use Rattle.text.specs.declared.fields.Kind.TheVariants.{Plain, Count, Spare}
use native.Mathlib.Decide.{dec_lt}
use mathlib.Core.Logic.{dite}

-- u refuses for this reason at this offset
abbrev pub Refuses : Unfit → Reason → ℕ → Type 0
Refuses u reason p = u ≡ record { reason = reason; offset = p }

module _ (text : List ℕ) (at : ℕ) where
  pub byte_here : at < length text → byte_at text at ≡ get_or text at 0
  byte_here h = get_or_default text at 256 0 h

  pub byte_past : length text ≤ at → byte_at text at ≡ 256
  byte_past h = get_or-eq_default text 256 h

-- ---- a digit

pub digit_low : (b : ℕ) → b < 48 → digit_of b ≡ 10
unfolding digit_of
digit_low b h = rw (lt-leb 48 b h, digit_of)

pub digit_high : (b : ℕ) → 57 < b → digit_of b ≡ 10
unfolding digit_of
digit_high b h = let g : 48 ≤ b = omega arith in rw (le-leb 48 b g, lt-leb b 57 h, digit_of)

pub digit_is : (b : ℕ) → 48 ≤ b → b ≤ 57 → digit_of b ≡ b - 48
unfolding digit_of
digit_is b h g = rw (le-leb 48 b h, le-leb b 57 g, digit_of)

-- a byte less 48, wrapped, tells the digit that it is
pub digit_less : (b r : ℕ) → r < 2 ^ 32 → (r + 48) % 2 ^ 32 ≡ b → TellsDigit r b
digit_less b r h e = record { is = is; none = none }
  where
    is : r ≤ 9 → r ≡ digit_of b
    is l = let w : r ≡ b - 48 = omega arith in w ∙ sym (digit_is b (omega arith) (omega arith))

    none : 9 < r → 9 < digit_of b
    none l =
        dite (dec_lt b 48)
        (λ u. let w = digit_low b u in omega arith)
        (λ n. let w = digit_high b (omega arith) in omega arith)

module _ (text : List ℕ) (at : ℕ) where
  pub past_digits : length text ≤ at → 10 ≡ digit_of (byte_at text at)
  past_digits h = rw (byte_past text at h) (sym (digit_high 256 (omega arith)))

  pub digit_past : length text ≤ at → TellsDigit 10 (byte_at text at)
  digit_past h = let e = past_digits h in record { is = λ l. absurd (omega arith); none = λ l. omega arith }

  pub digit_here : (r : ℕ) → at < length text → r < 2 ^ 32 → (r + 48) % 2 ^ 32 ≡ get_or text at 0 → TellsDigit r (byte_at text at)
  digit_here r l h e = rw (byte_here text at l) (digit_less (get_or text at 0) r h e)

  -- ---- the digits at an offset

  pub digit_inside : digit_of (byte_at text at) ≤ 9 → at < length text
  digit_inside h = dite (dec_lt at (length text)) (λ l. l) (λ n. let g = past_digits (omega arith) in absurd (omega arith))

  pub inside_by : (d : ℕ) → TellsDigit d (byte_at text at) → d ≤ 9 → at < length text
  inside_by d t h = let e = t.is h in digit_inside (omega arith)

  pub digits-none : 9 < digit_of (byte_at text at) → digits (drop at text) ≡ []
  unfolding digits
  digits-none h =
      dite (dec_lt at (length text))
      (λ l. rw (drop-cons text at 256 l, lt-leb (digit_of (byte_at text at)) 9 h, digits))
      (λ n. rw (drop_of_length-le text {i = at} (omega arith)))

  pub digits_more : digit_of (byte_at text at) ≤ 9 → digits (drop at text) ≡ digit_of (byte_at text at) ∷ digits (drop (at + 1) text)
  unfolding digits
  digits_more h = rw (add-one at, drop-cons text at 256 (digit_inside h), le-leb (digit_of (byte_at text at)) 9 h, digits)

-- ---- numbers

pub value-most : (x : ℕ) (ds : List ℕ) → x ≤ value x ds
unfolding value
value-most x [] = omega arith
value-most x (d ∷ ds) = omega (arith, value-most (x * 10 + d) ds)

ended_zero : (sort : Kind) (first at d : ℕ) (ds : List ℕ) → unfit because.BadNumber first ≡ ended sort first at 0 (d ∷ ds)
unfolding ended
ended_zero sort first at d ds = refl

ended-above : (sort : Kind) (first at x d : ℕ) (ds : List ℕ) → (x ≡ 0 → ⊥) → 4294967295 < x * 10 + d → unfit because.BadNumber first ≡ ended sort first at x (d ∷ ds)
unfolding ended bounded value
ended-above sort first at x d ds n h =
    rw (ne_eqb x 0 n, ended, lt-leb (value (x * 10 + d) ds) 4294967295 (omega (arith, value-most (x * 10 + d) ds)), bounded)

ended-more : (sort : Kind) (first at x d : ℕ) (ds : List ℕ) → (x ≡ 0 → ⊥) → ended sort first at x (d ∷ ds) ≡ ended sort first (at + 1) (x * 10 + d) ds
unfolding ended value
ended-more sort first at x d ds n =
    let m : x * 10 + d ≡ 0 → ⊥ = λ e. n (omega arith) in
    let l : at + suc (length ds) ≡ at + 1 + length ds = omega arith in
    rw (ne_eqb x 0 n, ne_eqb (x * 10 + d) 0 m, l, ended)

ended-none : (sort : Kind) (first at x : ℕ) → x ≤ 4294967295 → judged sort first at x ≡ ended sort first at x []
unfolding ended bounded value
ended-none sort first at x h = let z : at + 0 ≡ at = omega arith in rw (and_false (eqb x 0), ended, le-leb x 4294967295 h, bounded, z)

-- room for one digit more
pub room_by : (x d : ℕ) (r : Bool) → r ≡ leb (x * 10 + d) 4294967295 → not r ≡ false → x * 10 + d ≤ 4294967295
room_by x d r e f = leb-true (x * 10 + d) 4294967295 (sym e ∙ not-false r f)

-- the number has x up to an offset
pub record Counting (sort : Kind) (text : List ℕ) (first x at : ℕ) : Type 0 where
  pub is : number_at sort text first ≡ ended sort first at x (digits (drop at text))
  pub small : x ≤ 4294967295
  pub inside : at ≤ length text

module _ (sort : Kind) (text : List ℕ) (first x : ℕ) where
  pub number-none : (u : Unfit) → Refuses u because.BadByte first → TellsDigit x (byte_at text first) → 9 < x → Err u ≡ number_at sort text first
  unfolding number_at number_of
  number-none u e t h = rw (e, digits-none text first (t.none h))

  pub number-start : TellsDigit x (byte_at text first) → x ≤ 9 → Counting sort text first x (first + 1)
  unfolding number_at number_of
  number-start t h =
      let e = t.is h in
      let l : first < length text = digit_inside text first (omega arith) in
      record { is = rw (digits_more text first (omega arith), e); small = omega arith; inside = omega arith }

  module _ (at d : ℕ) (c : Counting sort text first x at) (t : TellsDigit d (byte_at text at)) where
    pub number_stop : (r : Field) → 9 < d → r ≡ judged sort first at x → r ≡ number_at sort text first
    number_stop r h j = j ∙ ended-none sort first at x c.small ∙ sym (rw (digits-none text at (t.none h)) at c.is)

    module _ (h : d ≤ 9) where
      here : digit_of (byte_at text at) ≤ 9
      here = let e = t.is h in omega arith

      pub number_zero : (u : Unfit) → Refuses u because.BadNumber first → x ≡ 0 → Err u ≡ number_at sort text first
      number_zero u e z =
          rw (e, c.is, digits_more text at here, z) (ended_zero sort first at (digit_of (byte_at text at)) (digits (drop (at + 1) text)))

      module _ (n : x ≡ 0 → ⊥) (r : Bool) (e : r ≡ leb (x * 10 + d) 4294967295) where
        pub number-above : (u : Unfit) → Refuses u because.BadNumber first → not r ≡ true → Err u ≡ number_at sort text first
        number-above u w f =
            let i = t.is h in
            let g = leb-false (x * 10 + d) 4294967295 (sym e ∙ not-true r f) in
            rw (w, c.is, digits_more text at here) (ended-above sort first at x (digit_of (byte_at text at)) (digits (drop (at + 1) text)) n (omega arith))

        pub number_more : not r ≡ false → Counting sort text first (x * 10 + d) (at + 1)
        number_more f =
            let l : at < length text = digit_inside text at here in
            record {
              is = rw (c.is, digits_more text at here, t.is h) (ended-more sort first at x (digit_of (byte_at text at)) (digits (drop (at + 1) text)) n);
              small = room_by x d r e f;
              inside = omega arith;
            }

-- ---- what a field may hold

module _ (sort s : Kind) (first : ℕ) (n : Number) (i : s ≡ sort) where
  pub judge_plain : s ≡ Plain → Ok n ≡ judged sort first n.next n.value
  unfolding judged
  judge_plain e = rw (← i, e)

  pub judge_count : s ≡ Count → n.value ≤ 128 → Ok n ≡ judged sort first n.next n.value
  unfolding judged
  judge_count e h = rw (← i, e, le-leb n.value 128 h, judged)

  pub judge_many : (u : Unfit) → Refuses u because.Exceeding first → s ≡ Count → 128 < n.value → Err u ≡ judged sort first n.next n.value
  unfolding judged
  judge_many u w e h = rw (w, ← i, e, lt-leb n.value 128 h, judged)

  pub judge_spare : s ≡ Spare → n.value ≡ 0 → Ok n ≡ judged sort first n.next n.value
  unfolding judged
  judge_spare e h = rw (← i, e, eq-eqb n.value 0 h, judged)

  pub judge_used : (u : Unfit) → Refuses u because.BadNumber first → s ≡ Spare → (n.value ≡ 0 → ⊥) → Err u ≡ judged sort first n.next n.value
  unfolding judged
  judge_used u w e h = rw (w, ← i, e, ne_eqb n.value 0 h, judged)

-- ---- what follows a number

module _ (b : ℕ) (text : List ℕ) (n : Number) where
  pub follow_past : (u : Unfit) → Refuses u because.BadByte n.next → b < 256 → length text ≤ n.next → Err u ≡ followed b text (Ok n)
  unfolding followed
  follow_past u e s h = rw (e, byte_past text n.next h, ne_eqb 256 b (omega arith), followed)

  pub follow-is : n.next < length text → get_or text n.next 0 ≡ b → number n.value (n.next + 1) ≡ followed b text (Ok n)
  unfolding followed
  follow-is l h = rw (byte_here text n.next l, eq-eqb _ _ h, followed)

  pub follow_not : (u : Unfit) → Refuses u because.BadByte n.next → n.next < length text → (get_or text n.next 0 ≡ b → ⊥) → Err u ≡ followed b text (Ok n)
  unfolding followed
  follow_not u e l h = rw (e, byte_here text n.next l, ne_eqb _ _ h, followed)

-- what follows a refusal is it
module _ (text : List ℕ) (u : Unfit) where
  pub followed_unfit : (b : ℕ) → Err u ≡ followed b text (Err u)
  unfolding followed
  followed_unfit b = refl

  pub closed_unfit : (k : ℕ) → Err u ≡ closed k text (Err u)
  unfolding closed followed line_end
  closed_unfit k = go (eqb (k % 6) 5)
    where
      go : (b : Bool) → Err u ≡ elim b as (λ _. Field) [ true ↦ line_end text (Err u) | false ↦ followed 44 text (Err u) ]
      go true = refl
      go false = refl

module _ (text : List ℕ) (n : Number) where
  pub end_text : length text ≤ n.next → Ok n ≡ line_end text (Ok n)
  unfolding line_end
  end_text h = rw (le-leb _ _ h, line_end)

  pub end_line : (f r : Field) → n.next < length text → f ≡ followed 13 text (Ok n) → r ≡ followed 10 text f → r ≡ line_end text (Ok n)
  unfolding line_end
  end_line f r h i j = rw (lt-leb _ _ h, line_end) (j ∙ ap (followed 10 text) i)

-- ---- a field

pub field_past : (sort : Kind) (text : List ℕ) (at : ℕ) (u : Unfit) → Refuses u because.BadByte at → length text ≤ at → Err u ≡ field_at sort text at
unfolding field_at
field_past sort text at u e h = rw (byte_past text at h, field_at) (number-none sort text at 10 u e (digit_past text at h) (omega arith))

module _ (sort : Kind) (text : List ℕ) (at : ℕ) (r : Field) where
  pub field_bare : at < length text → (get_or text at 0 ≡ 34 → ⊥) → r ≡ number_at sort text at → r ≡ field_at sort text at
  unfolding field_at
  field_bare l h e = rw (byte_here text at l, ne_eqb _ _ h, field_at) e

  pub field_quoted : (f : Field) (d : ℕ) → at < length text → get_or text at d ≡ 34 → f ≡ number_at sort text (at + 1) → r ≡ followed 34 text f → r ≡ field_at sort text at
  unfolding field_at
  field_quoted f d l h i e = rw (get_or_default text at 256 d l, eq-eqb _ _ h, field_at) (e ∙ ap (followed 34 text) i)

-- ---- a field of a text, by its number

pub kind-count : (k : ℕ) → k ≡ 2 → Count ≡ kind k
unfolding kind
kind-count k h = rw h

pub kind_spare : (k : ℕ) → 3 ≤ k → k ≤ 5 → Spare ≡ kind k
unfolding kind
kind_spare zero h g = absurd (omega arith)
kind_spare (suc zero) h g = absurd (omega arith)
kind_spare (suc (suc zero)) h g = absurd (omega arith)
kind_spare (suc (suc (suc zero))) h g = refl
kind_spare (suc (suc (suc (suc zero)))) h g = refl
kind_spare (suc (suc (suc (suc (suc zero))))) h g = refl
kind_spare (suc (suc (suc (suc (suc (suc k)))))) h g = absurd (omega arith)

pub kind-low : (k : ℕ) → k < 2 → Plain ≡ kind k
unfolding kind
kind-low zero h = refl
kind-low (suc zero) h = refl
kind-low (suc (suc k)) h = absurd (omega arith)

pub kind-high : (k : ℕ) → 5 < k → Plain ≡ kind k
unfolding kind
kind-high zero h = absurd (omega arith)
kind-high (suc zero) h = absurd (omega arith)
kind-high (suc (suc zero)) h = absurd (omega arith)
kind-high (suc (suc (suc zero))) h = absurd (omega arith)
kind-high (suc (suc (suc (suc zero)))) h = absurd (omega arith)
kind-high (suc (suc (suc (suc (suc zero))))) h = absurd (omega arith)
kind-high (suc (suc (suc (suc (suc (suc k)))))) h = refl

module _ (k : ℕ) (text : List ℕ) (n : Number) (r : Field) where
  pub close_line : k % 6 ≡ 5 → r ≡ line_end text (Ok n) → r ≡ closed k text (Ok n)
  unfolding closed
  close_line h i = rw (eq-eqb _ _ h, closed) i

  pub close_comma : (k % 6 ≡ 5 → ⊥) → r ≡ followed 44 text (Ok n) → r ≡ closed k text (Ok n)
  unfolding closed
  close_comma h i = rw (ne_eqb _ _ h, closed) i

module _ (k : ℕ) (text : List ℕ) (at : ℕ) where
  pub missing_past : length text ≤ at → eqb (k % 6) 0 ≡ missing k text at
  unfolding missing
  missing_past h = rw (le-leb _ _ h, missing, and-true (eqb (k % 6) 0))

  pub missing-inside : at < length text → false ≡ missing k text at
  unfolding missing
  missing-inside h = rw (lt-leb _ _ h, missing, and_false (eqb (k % 6) 0))

  pub item_missing : (m : Bool) (u : Unfit) → Refuses u because.WrongEnd (length text) → m ≡ missing k text at → m ≡ true → Err u ≡ item_at k text at
  unfolding item_at
  item_missing m u w e h = rw (w, sym e ∙ h, item_at)

  pub item_there : (m : Bool) (f r : Field) → m ≡ missing k text at → m ≡ false → f ≡ field_at (kind k) text at → r ≡ closed k text f → r ≡ item_at k text at
  unfolding item_at
  item_there m f r e h g i = rw (sym e ∙ h, item_at, ← g) i
