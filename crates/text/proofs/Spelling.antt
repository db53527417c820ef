-- What a field that is read says of the text's bytes, and the other way round: bytes that spell a field are read as it.
-- Assumes nothing.
use Rattle.std.proofs.Common.{◌≡◌, ℕ, suc, ◌+◌, ◌-◌, ◌*◌, ◌%◌, ◌<◌, ◌≤◌, Bool, true, false, ◌&&◌, eqb, leb, List, [], ◌∷◌, ◌++◌, map, length, get_or, drop, sym, refl, ap, ◌∙◌, subst, append_assoc, add-one, arith, length-append, length-drop, drop_of_length-le, get_or-drop, drop-cons, drop-drop, eq-eqb, ne_eqb, eqb-true, le-leb, leb-true}
use mathlib.Core.Logic.{dite}
use Rattle.std.specs.Prelude.{Option, None, Some, Ok, Err}
use native.Mathlib.Decide.{dec_lt}
use borrow.Author.Tests.{lt-leb, eqb-false}
use lib.ListN.{length-map}
use lib.Seq.{drop-append_seam}
use Rattle.base.proofs.OnSome.{OnSome, on_map}
use Rattle.text.specs.declared.fields.Kind.{Kind}
use Rattle.text.specs.declared.fields.Kind.TheVariants.{Plain, Count, Spare}
use Rattle.text.specs.Fields.{Field, number, byte_at, digit_of, digits, value, more, kind, judged, bounded, ended, number_of, number_at, followed, field_at, line_end, closed, missing, item_at}
use Rattle.text.specs.Written.{digits_of, decimal}
use Rattle.text.proofs.Cases.{by_test}
use Rattle.text.proofs.Numbers.{byte_past, digit_is, digit_low, digit_high, digits-none, missing-inside}
use Rattle.text.proofs.Decimals.{Nines, Leads, Spells, spells, decimal-one, decimal-value}

-- ---- what a field shows

-- the number and the offset after it, if there is one
abbrev pub shown : Field → Option (ℕ × ℕ)
shown (Ok n) = Some (n.value, n.next)
shown (Err u) = None

-- P of these
abbrev pub OnNumber : (ℕ → ℕ → Type 0) → Field → Type 0
OnNumber P f = OnSome (λ (n : ℕ × ℕ). P n.0 n.1) (shown f)

-- what a field may hold
abbrev pub Fits : Kind → ℕ → Type 0
Fits Plain x = Unit
Fits Count x = x ≤ 128
Fits Spare x = x ≡ 0

-- the bytes of a field with these contents: as they are, or within quotes
pub data Spelt (s c : List ℕ) : Type 0 where
  bare : s ≡ c → Spelt s c
  quoted : s ≡ 34 ∷ (c ++ (34 ∷ [])) → Spelt s c

-- the bytes that close field k, before the bytes r: where the text ends after a record, none
pub data Closing (k : ℕ) (s r : List ℕ) : Type 0 where
  comma : (k % 6 ≡ 5 → ⊥) → s ≡ 44 ∷ r → Closing k s r
  line : k % 6 ≡ 5 → s ≡ 13 ∷ 10 ∷ r → Closing k s r
  over : k % 6 ≡ 5 → s ≡ [] → r ≡ [] → Closing k s r

-- a number stands at the front of s, and t follows it
pub record Numbered (sort : Kind) (s : List ℕ) (x : ℕ) (t : List ℕ) : Type 0 where
  pub small : x ≤ 4294967295
  pub fits : Fits sort x
  pub is : s ≡ decimal x ++ t

pub record Fielded (sort : Kind) (s : List ℕ) (x : ℕ) (t : List ℕ) : Type 0 where
  pub small : x ≤ 4294967295
  pub fits : Fits sort x
  pub bytes : List ℕ
  pub spelt : Spelt bytes (decimal x)
  pub is : s ≡ bytes ++ t

-- field k stands at the front of s, closed, and r follows it
pub record Item (k : ℕ) (s : List ℕ) (x : ℕ) (r : List ℕ) : Type 0 where
  pub after : List ℕ
  pub field : Fielded (kind k) s x after
  pub close : Closing k after r

-- ---- from the reading to the bytes

digits_nine : (s : List ℕ) → Nines (digits s)
unfolding digits
digits_nine [] = tt
digits_nine (b ∷ s) =
    dite (dec_lt 9 (digit_of b)) (λ h. rw (lt-leb (digit_of b) 9 h, digits) tt)
    (λ n. let h : digit_of b ≤ 9 = omega arith in rw (le-leb (digit_of b) 9 h, digits) (h, digits_nine s))

digit_byte : (b : ℕ) → digit_of b ≤ 9 → b ≡ 48 + digit_of b
unfolding digit_of
digit_byte b h =
    dite (dec_lt b 48) (λ l. let e = digit_low b l in absurd (omega arith))
    (λ n. dite (dec_lt 57 b) (λ l. let e = digit_high b l in absurd (omega arith)) (λ m. omega (arith, digit_is b (omega arith) (omega arith))))

digits-front : (s : List ℕ) → s ≡ map (λ (d : ℕ). 48 + d) (digits s) ++ drop (length (digits s)) s
unfolding digits
digits-front [] = refl
digits-front (b ∷ s) =
    dite (dec_lt 9 (digit_of b)) (λ h. rw (lt-leb (digit_of b) 9 h, digits))
    (λ n. let h : digit_of b ≤ 9 = omega arith in rw (le-leb (digit_of b) 9 h, digits) (ap (λ (c : ℕ). c ∷ s) (digit_byte b h) ∙ ap (λ (l : List ℕ). (48 + digit_of b) ∷ l) (digits-front s)))

-- the number of these digits
record Read (sort : Kind) (first : ℕ) (ds : List ℕ) (x p : ℕ) : Type 0 where
  pub small : x ≤ 4294967295
  pub fits : Fits sort x
  pub spells : decimal x ≡ map (λ (d : ℕ). 48 + d) ds
  pub next : p ≡ first + length ds

no_zero : (d : ℕ) (ds : List ℕ) → (eqb d 0 && more ds) ≡ false → d ≤ 9 → Nines ds → decimal (value d ds) ≡ map (λ (d : ℕ). 48 + d) (d ∷ ds)
unfolding value
no_zero d [] t h g = let m : d % 10 ≡ d = omega arith in decimal-one d (omega arith) ∙ rw m
no_zero d (e ∷ ds) t h g =
    dite (dec_lt 0 d)
    (λ p. let m : d % 10 ≡ d = omega arith in decimal-value d (e ∷ ds) p g ∙ rw (decimal-one d (omega arith), m))
    (λ n. let z : d ≡ 0 = omega arith in let y : ◌≡◌ {A = Bool} true false = (rw (eq-eqb d 0 z) at t) in let w : ◌≡◌ {A = ℕ} 0 1 = cc in absurd (omega arith))

judged_read : (sort : Kind) (first next x : ℕ) (ds : List ℕ) → x ≤ 4294967295 → decimal x ≡ map (λ (d : ℕ). 48 + d) ds → next ≡ first + length ds → OnNumber (Read sort first ds) (judged sort first next x)
unfolding judged
judged_read Plain first next x ds s e n = record { small = s; fits = tt; spells = e; next = n }
judged_read Count first next x ds s e n =
    by_test (OnNumber (Read Count first ds)) (leb x 128) (λ h. record { small = s; fits = leb-true x 128 h; spells = e; next = n }) (λ _. tt)
judged_read Spare first next x ds s e n =
    by_test (OnNumber (Read Spare first ds)) (eqb x 0) (λ h. record { small = s; fits = eqb-true x 0 h; spells = e; next = n }) (λ _. tt)

number_read : (sort : Kind) (first : ℕ) (ds : List ℕ) → Nines ds → OnNumber (Read sort first ds) (number_of sort first ds)
unfolding number_of ended bounded
number_read sort first [] g = tt
number_read sort first (d ∷ ds) g =
    by_test (OnNumber (Read sort first (d ∷ ds))) (eqb d 0 && more ds) (λ _. tt)
    (λ t. by_test (OnNumber (Read sort first (d ∷ ds))) (leb (value d ds) 4294967295)
    (λ h. judged_read sort first (first + 1 + length ds) (value d ds) (d ∷ ds) (leb-true _ _ h) (no_zero d ds t g.0 g.1) (omega arith))
    (λ _. tt))

on_number_lem : (P Q : ℕ → ℕ → Type 0) (f : Field) → ((x p : ℕ) → P x p → Q x p) → OnNumber P f → OnNumber Q f
on_number_lem P Q f g = on_map (λ (n : ℕ × ℕ). P n.0 n.1) (λ (n : ℕ × ℕ). Q n.0 n.1) (shown f) (λ n. g n.0 n.1)

pub number_shows : (sort : Kind) (text : List ℕ) (at : ℕ) → OnNumber (λ x p. Numbered sort (drop at text) x (drop p text)) (number_at sort text at)
unfolding number_at
number_shows sort text at =
    on_number_lem (Read sort at (digits (drop at text))) (λ x p. Numbered sort (drop at text) x (drop p text)) (number_of sort at (digits (drop at text)))
    (λ x p r. record {
      small = r.small;
      fits = r.fits;
      is = digits-front (drop at text) ∙ rw (r.spells, r.next, drop-drop (length (digits (drop at text))) at text);
    })
    (number_read sort at (digits (drop at text)) (digits_nine (drop at text)))

module _ (text : List ℕ) where
  -- a byte that is there is the first of what follows
  pub byte_front : (p b : ℕ) → b < 256 → byte_at text p ≡ b → drop p text ≡ b ∷ drop (p + 1) text
  byte_front p b h e =
      dite (dec_lt p (length text)) (λ l. rw (add-one p, drop-cons text p 256 l, e))
      (λ n. let z = byte_past text p (omega arith) in absurd (omega arith))

  followed_shows : (P Q : ℕ → ℕ → Type 0) (b : ℕ) (f : Field) → b < 256 → ((x p : ℕ) → P x p → drop p text ≡ b ∷ drop (p + 1) text → Q x (p + 1)) → OnNumber P f → OnNumber Q (followed b text f)
  unfolding followed
  followed_shows P Q b (Err u) h g w = tt
  followed_shows P Q b (Ok n) h g w =
      by_test (OnNumber Q) (eqb (byte_at text n.next) b) (λ e. g n.value n.next w (byte_front n.next b h (eqb-true (byte_at text n.next) b e))) (λ _. tt)

  field_shows : (sort : Kind) (at : ℕ) → OnNumber (λ x p. Fielded sort (drop at text) x (drop p text)) (field_at sort text at)
  unfolding field_at
  field_shows sort at =
      by_test (OnNumber (λ x p. Fielded sort (drop at text) x (drop p text))) (eqb (byte_at text at) 34)
      (λ e. followed_shows (λ x p. Numbered sort (drop (at + 1) text) x (drop p text)) (λ x p. Fielded sort (drop at text) x (drop p text)) 34 (number_at sort text (at + 1)) (omega arith)
      (λ x p n q. record {
        small = n.small;
        fits = n.fits;
        bytes = 34 ∷ (decimal x ++ (34 ∷ []));
        spelt = quoted refl;
        is = byte_front at 34 (omega arith) (eqb-true (byte_at text at) 34 e) ∙ ap (λ (l : List ℕ). 34 ∷ l) (n.is ∙ rw q (sym (append_assoc (decimal x) (34 ∷ []) (drop (p + 1) text))));
      })
      (number_shows sort text (at + 1)))
      (λ _. on_number_lem (λ x p. Numbered sort (drop at text) x (drop p text)) (λ x p. Fielded sort (drop at text) x (drop p text)) (number_at sort text at)
      (λ x p n. record { small = n.small; fits = n.fits; bytes = decimal x; spelt = bare refl; is = n.is })
      (number_shows sort text at))

  line_shows : (P Q : ℕ → ℕ → Type 0) (f : Field) → ((x p : ℕ) → P x p → drop p text ≡ [] → Q x p) → ((x p : ℕ) → P x p → drop p text ≡ 13 ∷ 10 ∷ drop (p + 1 + 1) text → Q x (p + 1 + 1))
      → OnNumber P f → OnNumber Q (line_end text f)
  unfolding line_end
  line_shows P Q (Err u) g h w = tt
  line_shows P Q (Ok n) g h w =
      by_test (OnNumber Q) (leb (length text) n.next) (λ e. g n.value n.next w (drop_of_length-le text {i = n.next} (leb-true _ _ e)))
      (λ _. followed_shows (λ y q. (y ≡ n.value) × ((q ≡ n.next + 1) × (drop n.next text ≡ 13 ∷ drop (n.next + 1) text))) Q 10 (followed 13 text (Ok n)) (omega arith)
      (λ y q i j. subst (λ (z : ℕ). Q z (q + 1)) (sym i.0) (subst (λ (z : ℕ). Q n.value (z + 1)) (sym i.1.0) (h n.value n.next w (i.1.1 ∙ ap (λ (l : List ℕ). 13 ∷ l) (subst (λ (z : ℕ). drop z text ≡ 10 ∷ drop (z + 1) text) i.1.0 j)))))
      (followed_shows (λ y q. (y ≡ n.value) × (q ≡ n.next)) (λ y q. (y ≡ n.value) × ((q ≡ n.next + 1) × (drop n.next text ≡ 13 ∷ drop (n.next + 1) text))) 13 (Ok n) (omega arith)
      (λ y q i j. (i.0, (ap (λ (z : ℕ). z + 1) i.1, subst (λ (z : ℕ). drop z text ≡ 13 ∷ drop (z + 1) text) i.1 j)))
      (refl, refl)))

  pub item_shows : (k at : ℕ) → OnNumber (λ x p. Item k (drop at text) x (drop p text)) (item_at k text at)
  unfolding item_at closed
  item_shows k at =
      by_test (OnNumber (λ x p. Item k (drop at text) x (drop p text))) (missing k text at) (λ _. tt)
      (λ _. by_test (OnNumber (λ x p. Item k (drop at text) x (drop p text))) (eqb (k % 6) 5)
      (λ e. line_shows (λ x p. Fielded (kind k) (drop at text) x (drop p text)) (λ x p. Item k (drop at text) x (drop p text)) (field_at (kind k) text at)
      (λ x p f n. record { after = drop p text; field = f; close = over (eqb-true (k % 6) 5 e) n n })
      (λ x p f n. record { after = drop p text; field = f; close = line (eqb-true (k % 6) 5 e) n })
      (field_shows (kind k) at))
      (λ e. followed_shows (λ x p. Fielded (kind k) (drop at text) x (drop p text)) (λ x p. Item k (drop at text) x (drop p text)) 44 (field_at (kind k) text at) (omega arith)
      (λ x p f n. record { after = drop p text; field = f; close = comma (eqb-false (k % 6) 5 e) n })
      (field_shows (kind k) at)))

-- ---- from the bytes to the reading

-- a number x is read, and s is left
pub record Reads (text : List ℕ) (f : Field) (x : ℕ) (s : List ℕ) : Type 0 where
  pub next : ℕ
  pub is : f ≡ number x next
  pub left : drop next text ≡ s

digits_spelt : (ds u : List ℕ) → Nines ds → digits u ≡ [] → digits (map (λ (d : ℕ). 48 + d) ds ++ u) ≡ ds
unfolding digits
digits_spelt [] u h g = g
digits_spelt (d ∷ ds) u h g =
    let k : d ≤ 9 = h.0 in
    let e : digit_of (48 + d) ≡ d = digit_is (48 + d) (omega arith) (omega arith) ∙ omega arith in
    let g9 : digit_of (48 + d) ≤ 9 = omega arith in
    rw (le-leb (digit_of (48 + d)) 9 g9, digits, e) (ap (λ (l : List ℕ). d ∷ l) (digits_spelt ds u h.1 g))

number-leads : (sort : Kind) (first : ℕ) (ds : List ℕ) → Leads ds → number_of sort first ds ≡ bounded sort first (first + length ds) (value 0 ds)
unfolding number_of ended value
number-leads sort first [] h = absurd h
number-leads sort first (d ∷ ds) h =
    let n : d ≡ 0 → ⊥ = λ e. omega arith in
    let z : 0 * 10 + d ≡ d = omega arith in
    let l : first + 1 + length ds ≡ first + suc (length ds) = omega arith in
    rw (ne_eqb d 0 n, ended, z, l)

number_spelt : (sort : Kind) (first x : ℕ) (ds : List ℕ) → Spells x ds → number_of sort first ds ≡ bounded sort first (first + length ds) x
unfolding number_of ended value
number_spelt sort first x ds s =
    dite (dec_lt 0 x) (λ h. rw (number-leads sort first ds (s.leads h), s.says))
    (λ n. let z : x ≡ 0 = omega arith in let l : first + 1 + 0 ≡ first + 1 = omega arith in rw (s.one z, z, l))

judged-kept : (sort : Kind) (first next x : ℕ) → Fits sort x → judged sort first next x ≡ number x next
unfolding judged
judged-kept Plain first next x h = refl
judged-kept Count first next x h = rw (le-leb x 128 h, judged)
judged-kept Spare first next x h = rw (eq-eqb x 0 h, judged)

-- no number is written without a digit
pub some_digit : (x : ℕ) → digits_of x ≡ [] → ⊥
some_digit x h =
    dite (dec_lt 0 x) (λ p. subst Leads h ((spells x).leads p))
    (λ n. let e : 0 ≡ 1 = ap length (sym h ∙ (spells x).one (omega arith)) in omega arith)

module _ (text : List ℕ) (at : ℕ) where
  pub moved : (l s : List ℕ) → drop at text ≡ l ++ s → drop (at + length l) text ≡ s
  moved l s h = sym (drop-drop (length l) at text) ∙ ap (drop (length l)) h ∙ drop-append_seam l s

  pub byte_is : (b : ℕ) (s : List ℕ) → drop at text ≡ b ∷ s → byte_at text at ≡ b
  byte_is b s h = let z : at + 0 ≡ at = omega arith in sym (rw z at (get_or-drop at text 0 256)) ∙ ap (λ (l : List ℕ). get_or l 0 256) h

  pub in_text : (b : ℕ) (s : List ℕ) → drop at text ≡ b ∷ s → at < length text
  in_text b s h =
      dite (dec_lt at (length text)) (λ l. l)
      (λ n. let e : 0 ≡ suc (length s) = ap length (sym (drop_of_length-le text {i = at} (omega arith)) ∙ h) in absurd (omega arith))

  pub out_text : drop at text ≡ [] → length text ≤ at
  out_text h = let e : length text - at ≡ 0 = sym (length-drop at text) ∙ ap length h in omega arith

module _ (sort : Kind) (text : List ℕ) (at x : ℕ) (small : x ≤ 4294967295) (fits : Fits sort x) where
  digits_read : (s : List ℕ) → digits s ≡ [] → drop at text ≡ decimal x ++ s → digits (drop at text) ≡ digits_of x
  unfolding decimal
  digits_read s n h = ap digits h ∙ digits_spelt (digits_of x) s (spells x).nines n

  reads-number : (s : List ℕ) → digits s ≡ [] → drop at text ≡ decimal x ++ s → Reads text (number_at sort text at) x s
  unfolding number_at decimal bounded
  reads-number s n h =
      let l : at + length (decimal x) ≡ at + length (digits_of x) = ap (λ (k : ℕ). at + k) (length-map (digits_of x) (λ (d : ℕ). 48 + d)) in
      record {
        next = at + length (digits_of x);
        is = rw (digits_read s n h, number_spelt sort at x (digits_of x) (spells x), le-leb x 4294967295 small, bounded) (judged-kept sort at (at + length (digits_of x)) x fits);
        left = rw l at (moved text at (decimal x) s h);
      }

module _ (text : List ℕ) (x : ℕ) where
  reads_followed : (f : Field) (b : ℕ) (s : List ℕ) → Reads text f x (b ∷ s) → Reads text (followed b text f) x s
  unfolding followed
  reads_followed f b s r =
      record { next = r.next + 1; is = rw (r.is, eq-eqb _ _ (byte_is text r.next b s r.left), followed); left = moved text r.next (b ∷ []) s r.left }

  reads-line : (f : Field) (s : List ℕ) → Reads text f x (13 ∷ 10 ∷ s) → Reads text (line_end text f) x s
  unfolding line_end
  reads-line f s r =
      let g : Reads text (number x r.next) x (13 ∷ 10 ∷ s) = record { next = r.next; is = refl; left = r.left } in
      rw (r.is, lt-leb _ _ (in_text text r.next 13 (10 ∷ s) r.left), line_end)
      (reads_followed (followed 13 text (number x r.next)) 10 s (reads_followed (number x r.next) 13 (10 ∷ s) g))

  reads_over : (f : Field) → Reads text f x [] → Reads text (line_end text f) x []
  unfolding line_end
  reads_over f r = record { next = r.next; is = rw (r.is, le-leb _ _ (out_text text r.next r.left), line_end); left = r.left }

module _ (sort : Kind) (text : List ℕ) (at x : ℕ) (small : x ≤ 4294967295) (fits : Fits sort x) where
  reads-bare : (s : List ℕ) → digits s ≡ [] → drop at text ≡ decimal x ++ s → Reads text (field_at sort text at) x s
  unfolding field_at
  reads-bare s n h =
      let q : byte_at text at ≡ 34 → ⊥ =
      λ k. some_digit x (sym (digits_read sort text at x small fits s n h) ∙ digits-none text at (rw k (omega (arith, digit_low 34 (omega arith))))) in
      rw (ne_eqb (byte_at text at) 34 q, field_at) (reads-number sort text at x small fits s n h)

  reads_quoted : (s : List ℕ) → drop at text ≡ 34 ∷ (decimal x ++ (34 ∷ s)) → Reads text (field_at sort text at) x s
  unfolding field_at digits digit_of
  reads_quoted s h =
      rw (eq-eqb _ _ (byte_is text at 34 _ h), field_at)
      (reads_followed text x (number_at sort text (at + 1)) 34 s (reads-number sort text (at + 1) x small fits (34 ∷ s) refl (moved text at (34 ∷ []) (decimal x ++ (34 ∷ s)) h)))

  pub reads_field : (bytes s : List ℕ) → Spelt bytes (decimal x) → digits s ≡ [] → drop at text ≡ bytes ++ s → Reads text (field_at sort text at) x s
  reads_field bytes s (bare e) n h = reads-bare s n (rw e at h)
  reads_field bytes s (quoted e) n h = reads_quoted s (h ∙ rw e (ap (λ (l : List ℕ). 34 ∷ l) (append_assoc (decimal x) (34 ∷ []) s)))

closing-digits : (k : ℕ) (s r : List ℕ) → Closing k s r → digits s ≡ []
unfolding digits digit_of
closing-digits k s r (comma n e) = rw e
closing-digits k s r (line n e) = rw e
closing-digits k s r (over n e f) = rw e

module _ (k : ℕ) (text : List ℕ) (x : ℕ) where
  reads-closed : (f : Field) (s r : List ℕ) → Closing k s r → Reads text f x s → Reads text (closed k text f) x r
  unfolding closed
  reads-closed f s r (comma n e) g = rw (ne_eqb _ _ n, closed) (reads_followed text x f 44 r (rw e at g))
  reads-closed f s r (line n e) g = rw (eq-eqb _ _ n, closed) (reads-line text x f r (rw e at g))
  reads-closed f s r (over n e h) g = rw (eq-eqb _ _ n, closed, h) (reads_over text x f (rw e at g))

-- the bytes of a field are some
pub spelt_some : (bytes : List ℕ) (x : ℕ) → Spelt bytes (decimal x) → 0 < length bytes
unfolding decimal
spelt_some bytes x (bare e) =
    dite (dec_lt 0 (length bytes)) (λ h. h)
    (λ n. let z : length (digits_of x) ≡ 0 = sym (length-map (digits_of x) (λ (d : ℕ). 48 + d)) ∙ ap length (sym e) ∙ omega arith in absurd (some_digit x (length_none (digits_of x) z)))
  where
    length_none : (l : List ℕ) → length l ≡ 0 → l ≡ []
    length_none [] h = refl
    length_none (y ∷ l) h = absurd (omega arith)
spelt_some bytes x (quoted e) = omega (arith, ap length e)

pub item_reads : (k : ℕ) (text : List ℕ) (at x : ℕ) (r : List ℕ) → Item k (drop at text) x r → Reads text (item_at k text at) x r
unfolding item_at
item_reads k text at x r i =
    let f = i.field in
    let l : at < length text = omega (arith, spelt_some f.bytes x f.spelt, ap length f.is, length-drop at text, length-append f.bytes i.after) in
    rw (sym (missing-inside k text at l), item_at)
    (reads-closed k text x (field_at (kind k) text at) i.after r i.close
    (reads_field (kind k) text at x f.small f.fits f.bytes i.after f.spelt (closing-digits k i.after r i.close) f.is))
