-- Fields that follow one another in records of six, and the files of RFC 4180.
-- Assumes nothing.
use Rattle.std.proofs.Common.{◌≡◌, ℕ, zero, suc, ◌+◌, ◌*◌, ◌%◌, ◌<◌, ◌≤◌, List, [], ◌∷◌, ◌++◌, map, length, take, drop, sym, refl, ap, ◌∙◌, subst, append_assoc, append-nil, arith, length-drop, take-append-drop, drop_of_length-le, length-take-le}
use Rattle.text.specs.Written.{digits_of, decimal}
use Rattle.text.specs.Rfc4180.{high, NonEscaped, plain_end, plain, Within, inner_end, inner, inner_comma, inner_cr, inner_lf, inner_quotes, Field, escaped, non_escaped, Record, last_field, next_field, Records, last_record, next_record, File, unclosed, closed}
use Rattle.text.specs.Files.{sixes, contents}
use Rattle.text.proofs.Decimals.{Nines, spells}
use Rattle.text.proofs.Spelling.{Spelt, bare, quoted, Closing, comma, line, over}
use Rattle.text.proofs.Sequences.{Items, FitAll, items_join, Halves, items_split, items_some}

-- ---- fields

-- digits as bytes
abbrev Digital : List ℕ → Type 0
Digital [] = Unit
Digital (b ∷ s) = ((48 ≤ b) × (b ≤ 57)) × Digital s

digital : (x : ℕ) → Digital (decimal x)
unfolding decimal
digital x = go (digits_of x) (spells x).nines
  where
    go : (ds : List ℕ) → Nines ds → Digital (map (λ (d : ℕ). 48 + d) ds)
    go [] h = tt
    go (d ∷ ds) h = let k : d ≤ 9 = h.0 in ((omega arith, omega arith), go ds h.1)

digital_plain : (c : List ℕ) → Digital c → NonEscaped c
digital_plain [] h = plain_end
digital_plain (b ∷ c) h = plain (high {b = b} (omega (arith, h.0.0)) (omega (arith, h.0.1))) (digital_plain c h.1)

digital_within : (c : List ℕ) → Digital c → Within c c
digital_within [] h = inner_end
digital_within (b ∷ c) h = inner (high {b = b} (omega (arith, h.0.0)) (omega (arith, h.0.1))) (digital_within c h.1)

within_digital : {t c : List ℕ} → Within t c → Digital c → t ≡ c
within_digital inner_end h = refl
within_digital (inner {b} d w) h = ap (λ (l : List ℕ). b ∷ l) (within_digital w h.1)
within_digital (inner_comma w) h = absurd (omega (arith, h.0.0))
within_digital (inner_cr w) h = absurd (omega (arith, h.0.0))
within_digital (inner_lf w) h = absurd (omega (arith, h.0.0))
within_digital (inner_quotes w) h = absurd (omega (arith, h.0.0))

spelt_field : {s c : List ℕ} → Digital c → Spelt s c → Field s c
spelt_field {s} {c} h (bare e) = non_escaped (rw e (digital_plain c h)) e
spelt_field {s} {c} h (quoted e) = escaped (digital_within c h) e

field_spelt : {s c : List ℕ} → Digital c → Field s c → Spelt s c
field_spelt {s} {c} h (non_escaped n e) = bare e
field_spelt {s} {c} h (escaped w e) = quoted (rw (within_digital w h) at e)

-- ---- one record

-- what ends a record, before the bytes r: CRLF, or the end of the text
pub data End (s r : List ℕ) : Type 0 where
  crlf : s ≡ 13 ∷ 10 ∷ r → End s r
  text : s ≡ [] → r ≡ [] → End s r

-- the numbers are a record at the front of s, and after its end r follows
pub record Recorded (l s r : List ℕ) : Type 0 where
  pub bytes : List ℕ
  pub rule : Record bytes (map decimal l)
  pub tail : List ℕ
  pub is : s ≡ bytes ++ tail
  pub ends : End tail r

closing_end : (k : ℕ) (s r : List ℕ) → k % 6 ≡ 5 → Closing k s r → End s r
closing_end k s r h (comma n e) = absurd (n h)
closing_end k s r h (line n e) = crlf e
closing_end k s r h (over n e f) = text e f

closing_comma : (k : ℕ) (s r : List ℕ) → (k % 6 ≡ 5 → ⊥) → Closing k s r → s ≡ 44 ∷ r
closing_comma k s r h (comma n e) = e
closing_comma k s r h (line n e) = absurd (h n)
closing_comma k s r h (over n e f) = absurd (h n)

-- bytes, and after a separator further bytes
parted : (s b after t d tail sep : List ℕ) → s ≡ b ++ after → after ≡ sep ++ t → t ≡ d ++ tail → s ≡ (b ++ (sep ++ d)) ++ tail
parted s b after t d tail sep e f g =
    e ∙ ap (λ (l : List ℕ). b ++ l) (f ∙ ap (λ (l : List ℕ). sep ++ l) g ∙ sym (append_assoc sep d tail)) ∙ sym (append_assoc b (sep ++ d) tail)

-- the fields up to the end of a record are one
items_record : (l : List ℕ) (k : ℕ) (s r : List ℕ) → 0 < length l → k % 6 + length l ≡ 6 → Items k l s r → Recorded l s r
items_record [] k s r n h i = absurd (omega arith)
items_record (x ∷ []) k s r n h i =
    let f = i.item.field in
    record {
      bytes = f.bytes;
      rule = last_field (spelt_field (digital x) f.spelt);
      tail = i.item.after;
      is = f.is;
      ends = closing_end k i.item.after r (omega arith) (rw i.rest at i.item.close);
    }
items_record (x ∷ y ∷ l) k s r n h i =
    let f = i.item.field in
    let g = items_record (y ∷ l) (suc k) i.middle r (omega arith) (omega arith) i.rest in
    let c : i.item.after ≡ 44 ∷ i.middle = closing_comma k i.item.after i.middle (λ e. omega arith) i.item.close in
    record {
      bytes = f.bytes ++ (44 ∷ g.bytes);
      rule = next_field (spelt_field (digital x) f.spelt) g.rule refl;
      tail = g.tail;
      is = parted s f.bytes i.item.after i.middle g.bytes g.tail (44 ∷ []) f.is c g.is;
      ends = g.ends;
    }

end_closing : (k : ℕ) (s r : List ℕ) → k % 6 ≡ 5 → End s r → Closing k s r
end_closing k s r h (crlf e) = line h e
end_closing k s r h (text e f) = over h e f

cons_first : {A : Type 0} {a b : A} {l m : List A} → a ∷ l ≡ b ∷ m → a ≡ b
cons_first e = cc

cons_rest : {A : Type 0} {a b : A} {l m : List A} → a ∷ l ≡ b ∷ m → l ≡ m
cons_rest e = cc

no_fields : {s : List ℕ} {cs : List (List ℕ)} → Record s cs → cs ≡ [] → ⊥
no_fields (last_field f) e = let z : ◌≡◌ {A = ℕ} 1 0 = ap length e in omega arith
no_fields (next_field {cs = cs} f n q) e = let z : suc (length cs) ≡ 0 = ap length e in omega arith

absurd_lists : {A : Type 0} (l m : List (List ℕ)) → l ≡ m → (length l ≡ length m → ⊥) → A
absurd_lists l m e h = absurd (h (ap length e))

-- a record gives its fields
record_items : {s : List ℕ} {cs : List (List ℕ)} → Record s cs → (l : List ℕ) → cs ≡ map decimal l → (k : ℕ) → k % 6 + length l ≡ 6 → FitAll k l → (tail r : List ℕ) → End tail r → Items k l (s ++ tail) r
record_items (last_field f) [] e k h g tail r w = absurd_lists _ _ e (λ z. omega arith)
record_items {s} (last_field f) (x ∷ []) e k h g tail r w =
    let c = cons_first e in
    record {
      middle = r;
      item = record {
        after = tail;
        field = record { small = g.0; fits = g.1.0; bytes = s; spelt = field_spelt (digital x) (rw c at f); is = refl };
        close = end_closing k tail r (omega arith) w;
      };
      rest = refl;
    }
record_items (last_field f) (x ∷ y ∷ l) e k h g tail r w = absurd_lists _ _ e (λ z. omega arith)
record_items (next_field f n q) [] e k h g tail r w = absurd_lists _ _ e (λ z. omega arith)
record_items (next_field f n q) (x ∷ []) e k h g tail r w = absurd (no_fields n (cons_rest e))
record_items {s} (next_field {t = t} {u = u} f n q) (x ∷ y ∷ l) e k h g tail r w =
    let c = cons_first e in
    record {
      middle = u ++ tail;
      item = record {
        after = 44 ∷ (u ++ tail);
        field = record { small = g.0; fits = g.1.0; bytes = t; spelt = field_spelt (digital x) (rw c at f); is = rw q (append_assoc t (44 ∷ u) tail) };
        close = comma (λ z. omega arith) refl;
      };
      rest = record_items n (y ∷ l) (cons_rest e) (suc k) (omega arith) g.1.1 tail r w;
    }

-- ---- many records

-- the numbers are records at the front of s, up to its end
pub record Filed (m : ℕ) (l s : List ℕ) : Type 0 where
  pub bytes : List ℕ
  pub rule : Records bytes (contents m l)
  pub tail : List ℕ
  pub is : s ≡ bytes ++ tail
  pub ends : End tail []

end_crlf : (s r : List ℕ) → 0 < length r → End s r → s ≡ 13 ∷ 10 ∷ r
end_crlf s r h (crlf e) = e
end_crlf s r h (text e f) = absurd (omega (arith, ap length f))

module _ (k : ℕ) (l s r : List ℕ) where
  six_first : 6 ≤ length l → Items k l s r → Halves k (take 6 l) (drop 6 l) s r
  six_first h i = items_split (take 6 l) (drop 6 l) k s r (rw (take-append-drop 6 l) i)

items_filed : (m : ℕ) (l : List ℕ) (k : ℕ) (s : List ℕ) → length l ≡ 6 * suc m → k % 6 ≡ 0 → Items k l s [] → Filed (suc m) l s
unfolding sixes
items_filed zero l k s h z i =
    let a = six_first k l s [] (omega arith) i in
    let w : length (take 6 l) ≡ 6 = length-take-le 6 l (omega arith) in
    let d : drop 6 l ≡ [] = drop_of_length-le l {i = 6} (omega arith) in
    let b : a.between ≡ [] = subst (λ (e : List ℕ). Items (k + length (take 6 l)) e a.between []) d a.second in
    let g = items_record (take 6 l) k s a.between (omega arith) (omega arith) a.first in
    record { bytes = g.bytes; rule = last_record g.rule; tail = g.tail; is = g.is; ends = subst (λ (e : List ℕ). End g.tail e) b g.ends }
items_filed (suc m) l k s h z i =
    let a = six_first k l s [] (omega arith) i in
    let w : length (take 6 l) ≡ 6 = length-take-le 6 l (omega arith) in
    let d : length (drop 6 l) ≡ 6 * suc m = length-drop 6 l ∙ omega arith in
    let g = items_record (take 6 l) k s a.between (omega arith) (omega arith) a.first in
    let o = items_filed m (drop 6 l) (k + length (take 6 l)) a.between d (omega arith) a.second in
    let n = items_some (drop 6 l) (k + length (take 6 l)) a.between [] (omega arith) a.second in
    record {
      bytes = g.bytes ++ (13 ∷ 10 ∷ o.bytes);
      rule = next_record g.rule o.rule refl;
      tail = o.tail;
      is = parted s g.bytes g.tail a.between o.bytes o.tail (13 ∷ 10 ∷ []) g.is (end_crlf g.tail a.between n g.ends) o.is;
      ends = o.ends;
    }

fit_split : (l m : List ℕ) (k : ℕ) → FitAll k (l ++ m) → FitAll k l × FitAll (k + length l) m
fit_split [] m k h = let z : k + 0 ≡ k = omega arith in (tt, rw z h)
fit_split (x ∷ l) m k h =
    let z : k + suc (length l) ≡ suc k + length l = omega arith in
    let g = fit_split l m (suc k) h.1.1 in
    ((h.0, (h.1.0, g.0)), rw z g.1)

no_records : {s : List ℕ} {rs : List (List (List ℕ))} → Records s rs → rs ≡ [] → ⊥
no_records (last_record f) e = let z : ◌≡◌ {A = ℕ} 1 0 = ap length e in omega arith
no_records (next_record {rs = rs} f n q) e = let z : suc (length rs) ≡ 0 = ap length e in omega arith

records_items : {s : List ℕ} {rs : List (List (List ℕ))} → Records s rs → (m : ℕ) (l : List ℕ) → rs ≡ contents (suc m) l → length l ≡ 6 * suc m → (k : ℕ) → k % 6 ≡ 0 → FitAll k l → (tail : List ℕ) → End tail [] → Items k l (s ++ tail) []
unfolding sixes
records_items {s} (last_record f) zero l e h k z g tail w =
    let v : length (take 6 l) ≡ 6 = length-take-le 6 l (omega arith) in
    let d : drop 6 l ≡ [] = drop_of_length-le l {i = 6} (omega arith) in
    let p = fit_split (take 6 l) (drop 6 l) k (rw (take-append-drop 6 l) g) in
    subst (λ (e : List ℕ). Items k e (s ++ tail) []) (take-append-drop 6 l)
    (items_join (take 6 l) (drop 6 l) k (s ++ tail) [] []
    (record_items f (take 6 l) (cons_first e) k (omega arith) p.0 tail [] w)
    (rw d refl))
records_items (last_record f) (suc m) l e h k z g tail w = let y : ◌≡◌ {A = ℕ} 1 (suc (suc (length (contents m (drop 6 (drop 6 l)))))) = ap length e in absurd (omega arith)
records_items (next_record f n q) zero l e h k z g tail w = absurd (no_records n (cons_rest e))
records_items {s} (next_record {t = t} {u = u} f n q) (suc m) l e h k z g tail w =
    let v : length (take 6 l) ≡ 6 = length-take-le 6 l (omega arith) in
    let d : length (drop 6 l) ≡ 6 * suc m = length-drop 6 l ∙ omega arith in
    let p = fit_split (take 6 l) (drop 6 l) k (rw (take-append-drop 6 l) g) in
    let i : s ++ tail ≡ t ++ (13 ∷ 10 ∷ (u ++ tail)) = rw q (append_assoc t (13 ∷ 10 ∷ u) tail) in
    subst (λ (e : List ℕ). Items k e (s ++ tail) []) (take-append-drop 6 l)
    (items_join (take 6 l) (drop 6 l) k (s ++ tail) (u ++ tail) []
    (rw i (record_items f (take 6 l) (cons_first e) k (omega arith) p.0 (13 ∷ 10 ∷ (u ++ tail)) (u ++ tail) (crlf refl)))
    (records_items n m (drop 6 l) (cons_rest e) d (k + length (take 6 l)) (omega arith) p.1 tail w))

-- ---- files

filed_file : (m : ℕ) (l s : List ℕ) → Filed m l s → File s (contents m l)
filed_file m l s f = go f.ends
  where
    go : End f.tail [] → File s (contents m l)
    go (crlf e) = closed f.rule (f.is ∙ rw e)
    go (text e _) = unclosed (subst (λ (b : List ℕ). Records b (contents m l)) (sym (f.is ∙ rw (e, append-nil f.bytes))) f.rule)

-- Numbers that stand in a text as its fields, up to its end, are a file of records of six.
pub items_file : (m : ℕ) (l s : List ℕ) → length l ≡ 6 * suc m → Items 0 l s [] → File s (contents (suc m) l)
items_file m l s h i = filed_file (suc m) l s (items_filed m l 0 s h (omega arith) i)

-- And such a file has them as its fields.
pub file_items : (m : ℕ) (l s : List ℕ) → length l ≡ 6 * suc m → FitAll 0 l → File s (contents (suc m) l) → Items 0 l s []
file_items m l s h g (unclosed r) = subst (λ (t : List ℕ). Items 0 l t []) (append-nil s) (records_items r m l refl h 0 (omega arith) g [] (text refl refl))
file_items m l s h g (closed {t = t} r e) = rw e (records_items r m l refl h 0 (omega arith) g (13 ∷ 10 ∷ []) (crlf refl))
