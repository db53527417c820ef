-- Laws of the writer: bytes that are put one after the other.
-- Assumes nothing.
use Rattle.std.proofs.Common.{◌≡◌, ℕ, suc, ◌+◌, ◌-◌, ◌/◌, ◌%◌, ◌<◌, ◌≤◌, List, [], ◌∷◌, ◌++◌, length, get_or, drop, set, sym, refl, ap, ◌∙◌, append_assoc, add-one, arith, length-append, length-set, drop_of_length-le, drop-cons, eq-eqb, ne_eqb}
use mathlib.Core.Logic.{dite}
use native.Mathlib.Decide.{dec_lt}
use lib.Seq.{sets, length-sets}
use Rattle.chart.specs.Charts.{Chart, size}
use Rattle.text.specs.Written.{decimal, closing, field_text, fields_text, written}
use Rattle.text.specs.inner.Puts.{room, Put}
use Rattle.text.proofs.Decimals.{decimal-one, decimal-more, decimal_ten}

-- ---- stores that follow one another

pub sets-append : (l : List ℕ) (i : ℕ) (vs ws : List ℕ) → sets l i (vs ++ ws) ≡ sets (sets l i vs) (i + length vs) ws
sets-append l i [] ws = let z : i + 0 ≡ i = omega arith in rw z
sets-append l i (v ∷ vs) ws = let z : i + suc (length vs) ≡ suc i + length vs = omega arith in rw z (sets-append (set l i v) (suc i) vs ws)

pub put_byte : (before : List ℕ) (at b : ℕ) (after : List ℕ) (r : ℕ) → r ≡ at + 1 → after ≡ set before at b → Put before at (b ∷ []) after r
put_byte before at b after r e h = record { is = h; next = e }

pub put_then : {before : List ℕ} {at : ℕ} {vs middle : List ℕ} {p : ℕ} {ws after : List ℕ} {r : ℕ} → Put before at vs middle p → Put middle p ws after r → Put before at (vs ++ ws) after r
put_then {before} {at} {vs} {middle} {p} {ws} {after} {r} f g =
    record {
      is = g.is ∙ rw (f.is, f.next) (sym (sets-append before at vs ws));
      next = g.next ∙ rw (length-append vs ws) (omega (arith, f.next));
    }

pub put-length : {before : List ℕ} {at : ℕ} {vs after : List ℕ} {r : ℕ} → Put before at vs after r → length after ≡ length before
put-length {before} {at} {vs} {after} {r} f = ap length f.is ∙ length-sets before at vs

-- ---- a number is put

module _ (before : List ℕ) (at x : ℕ) where
  pub number-first : x < 10 → at + length (decimal x) ≤ length before → at < length before
  number-first h g = let e : length (decimal x) ≡ 1 = ap length (decimal-one x h) in omega arith

  pub number-front : 10 ≤ x → at + length (decimal x) ≤ length before → at + length (decimal (x / 10)) ≤ length before
  number-front h g = let e = ap length (decimal-more x h) ∙ length-append (decimal (x / 10)) ((48 + x % 10) ∷ []) in omega arith

  pub number-room : (middle : List ℕ) (p : ℕ) → Put before at (decimal (x / 10)) middle p → 10 ≤ x → at + length (decimal x) ≤ length before → p < length middle
  number-room middle p f h g =
      let e = ap length (decimal-more x h) ∙ length-append (decimal (x / 10)) ((48 + x % 10) ∷ []) in
      let l = put-length f in
      omega (arith, f.next)

  pub number-one : (b : ℕ) (after : List ℕ) (r : ℕ) → x < 10 → b ≡ 48 + x % 10 → (r ≡ at + 1) × (after ≡ set before at b) → Put before at (decimal x) after r
  number-one b after r h e f = rw (decimal-one x h, ← e) (put_byte before at b after r f.0 f.1)

  pub number_more : (middle : List ℕ) (p b : ℕ) (after : List ℕ) (r : ℕ) → 10 ≤ x → Put before at (decimal (x / 10)) middle p → b ≡ 48 + x % 10 → (r ≡ p + 1) × (after ≡ set middle p b)
      → Put before at (decimal x) after r
  number_more middle p b after r h f e g = rw (decimal-more x h, ← e) (put_then f (put_byte middle p b after r g.0 g.1))

-- ---- a field is put

closing-line : (k : ℕ) → k % 6 ≡ 5 → closing k ≡ 13 ∷ 10 ∷ []
unfolding closing
closing-line k h = rw (eq-eqb _ _ h, closing)

closing_comma : (k : ℕ) → (k % 6 ≡ 5 → ⊥) → closing k ≡ 44 ∷ []
unfolding closing
closing_comma k h = rw (ne_eqb _ _ h, closing)

-- what closes a field is one byte, and one more where a record ends
pub closing-length : (k : ℕ) → length (closing k) ≡ 1 + ((k + 1) / 6 - k / 6)
closing-length k =
    dite (dec_lt (k % 6) 5) (λ h. rw (closing_comma k (λ e. omega arith)) (omega arith)) (λ h. rw (closing-line k (omega arith)) (omega arith))

module _ (before : List ℕ) (at k : ℕ) (fits : at + length (closing k) ≤ length before) where
  pub line_first : k % 6 ≡ 5 → at < length before
  line_first h = omega (arith, ap length (closing-line k h))

  pub line_second : (middle : List ℕ) (p : ℕ) → k % 6 ≡ 5 → (p ≡ at + 1) × (middle ≡ set before at 13) → p < length middle
  line_second middle p h f = omega (arith, ap length (closing-line k h), f.0, ap length f.1 ∙ length-set before at 13)

  pub comma_first : (k % 6 ≡ 5 → ⊥) → at < length before
  comma_first h = omega (arith, ap length (closing_comma k h))

module _ (before : List ℕ) (at k : ℕ) where
  pub line-put : (middle : List ℕ) (p : ℕ) (after : List ℕ) (r : ℕ) → k % 6 ≡ 5 → (p ≡ at + 1) × (middle ≡ set before at 13) → (r ≡ p + 1) × (after ≡ set middle p 10) → Put before at (closing k) after r
  line-put middle p after r h f g =
      rw (closing-line k h) (put_then (put_byte before at 13 middle p f.0 f.1) (put_byte middle p 10 after r g.0 g.1))

  pub comma_put : (after : List ℕ) (r : ℕ) → (k % 6 ≡ 5 → ⊥) → (r ≡ at + 1) × (after ≡ set before at 44) → Put before at (closing k) after r
  comma_put after r h f = rw (closing_comma k h) (put_byte before at 44 after r f.0 f.1)

  pub field_room : (x : ℕ) (middle : List ℕ) (p : ℕ) → x ≤ 4294967295 → at + room k 1 ≤ length before → Put before at (decimal x) middle p → p + length (closing k) ≤ length middle
  field_room x middle p s h f = omega (arith, decimal_ten x s, closing-length k, f.next, put-length f)

  pub field_put : (x : ℕ) (middle : List ℕ) (p : ℕ) (after : List ℕ) (r : ℕ) → x ≤ 4294967295 → Put before at (decimal x) middle p → Put middle p (closing k) after r
      → (Put before at (field_text k x) after r) × (r ≤ at + room k 1)
  field_put x middle p after r s f g = (put_then f g, omega (arith, decimal_ten x s, closing-length k, f.next, g.next))

-- ---- fields are put

-- i of the numbers are put, and what is put of the others after them is put as it should
pub record Putting (before : List ℕ) (at k : ℕ) (l after : List ℕ) (p i : ℕ) : Type 0 where
  pub rest : {last : List ℕ} {r : ℕ} → Put after p (fields_text (k + i) (drop i l)) last r → Put before at (fields_text k l) last r
  pub most : i ≤ length l
  pub short : p ≤ at + room k i
  pub long : length after ≡ length before

module _ (before : List ℕ) (at k : ℕ) (l after : List ℕ) (p i : ℕ) (c : Putting before at k l after p i) where
  pub putting_more : (last : List ℕ) (r : ℕ) → i < length l → (Put after p (field_text (k + i) (get_or l i 0)) last r) × (r ≤ p + room (k + i) 1) → Putting before at k l last r (i + 1)
  unfolding fields_text
  putting_more last r h g =
      let z : k + (i + 1) ≡ suc (k + i) = omega arith in
      record {
        rest = λ f. c.rest (rw (drop-cons l i 0 h, fields_text) (put_then g.0 (rw (z, add-one i) at f)));
        most = omega arith;
        short = omega (arith, c.short, g.1);
        long = put-length g.0 ∙ c.long;
      }

  pub putting_done : length l ≤ i → Put before at (fields_text k l) after p
  unfolding fields_text
  putting_done h = c.rest (rw (drop_of_length-le l {i = i} h, fields_text) (record { is = refl; next = omega arith }))

-- ---- a chart is put

fields_append : (l m : List ℕ) (k : ℕ) → fields_text k (l ++ m) ≡ fields_text k l ++ fields_text (k + length l) m
unfolding fields_text
fields_append [] m k = let z : k + 0 ≡ k = omega arith in rw z
fields_append (x ∷ l) m k =
    let z : k + suc (length l) ≡ suc k + length l = omega arith in
    rw (fields_append l m (suc k), z) (sym (append_assoc (field_text k x) (fields_text (suc k) l) (fields_text (suc k + length l) m)))

pub chart-put : (C : Chart) (before middle : List ℕ) (p : ℕ) (after : List ℕ) (r : ℕ) → length C.table ≤ 768
    → (Put before 0 (fields_text 0 (C.head.places ∷ C.head.alarm ∷ size C.table ∷ 0 ∷ 0 ∷ 0 ∷ [])) middle p) × (p ≤ 0 + room 0 6)
    → (Put middle p (fields_text 6 C.table) after r) × (r ≤ p + room 6 (length C.table)) → (Put before 0 (written C) after r) × (r ≤ 8643)
unfolding written
chart-put C before middle p after r h f g =
    (rw (fields_append (C.head.places ∷ C.head.alarm ∷ size C.table ∷ 0 ∷ 0 ∷ 0 ∷ []) C.table 0) (put_then f.0 g.0), omega (arith, f.1, g.1))
