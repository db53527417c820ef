-- Fields that follow one another: what they show of the bytes when they are read, and that such bytes are read.
-- Assumes nothing.
use Rattle.std.proofs.Common.{◌≡◌, ℕ, zero, suc, ◌+◌, ◌<◌, ◌≤◌, List, [], ◌∷◌, ◌++◌, length, drop, sym, refl, ap, ◌∙◌, subst, append_assoc, append-nil, arith, length-append}
use Rattle.base.specs.Answers.{Answer}
use Rattle.std.specs.Prelude.{Ok}
use Rattle.base.proofs.OnSome.{OnGiven, on_given}
use Rattle.text.specs.Fields.{kind, item_at}
use Rattle.text.specs.Spans.{Span, fields_at}
use Rattle.text.proofs.Cases.{by_field}
use Rattle.text.proofs.Spelling.{OnNumber, Fits, Item, item_shows, item_reads, spelt_some}

-- field k is x, and P holds of what follows it
pub record Then (k : ℕ) (s : List ℕ) (x : ℕ) (P : List ℕ → Type 0) : Type 0 where
  pub middle : List ℕ
  pub item : Item k s x middle
  pub rest : P middle

-- the numbers stand at the front of s as the fields from field k on, and r follows them
abbrev pub Items : ℕ → List ℕ → List ℕ → List ℕ → Type 0
Items k [] s r = s ≡ r
Items k (x ∷ l) s r = Then k s x (λ (t : List ℕ). Items (suc k) l t r)

-- each number fits its field
abbrev pub FitAll : ℕ → List ℕ → Type 0
FitAll k [] = Unit
FitAll k (x ∷ l) = (x ≤ 4294967295) × (Fits (kind k) x × FitAll (suc k) l)

pub items_fit : (l : List ℕ) (k : ℕ) (s r : List ℕ) → Items k l s r → FitAll k l
items_fit [] k s r i = tt
items_fit (x ∷ l) k s r i = (i.item.field.small, (i.item.field.fits, items_fit l (suc k) i.middle r i.rest))

-- ---- from the reading to the bytes

pub record Shown (n k : ℕ) (text : List ℕ) (at : ℕ) (before : List ℕ) (s : Span) : Type 0 where
  pub numbers : List ℕ
  pub is : s.numbers ≡ before ++ numbers
  pub count : length numbers ≡ n
  pub items : Items k numbers (drop at text) (drop s.next text)

pub fields_show : (n k : ℕ) (text : List ℕ) (at : ℕ) (before : List ℕ) → OnGiven (Shown n k text at before) (fields_at n k text at before)
unfolding fields_at
fields_show zero k text at before = record { numbers = []; is = sym (append-nil before); count = refl; items = refl }
fields_show (suc n) k text at before =
    by_field (OnGiven (Shown (suc n) k text at before)) (item_at k text at) _
    (λ x p e. on_given (Shown n (suc k) text p (before ++ (x ∷ []))) (Shown (suc n) k text at before) (fields_at n (suc k) text p (before ++ (x ∷ [])))
    (λ s h. record {
      numbers = x ∷ h.numbers;
      is = h.is ∙ append_assoc before (x ∷ []) h.numbers;
      count = ap suc h.count;
      items = record { middle = drop p text; item = subst (OnNumber (λ x p. Item k (drop at text) x (drop p text))) e (item_shows text k at); rest = h.items };
    })
    (fields_show n (suc k) text p (before ++ (x ∷ []))))
    (λ u e. tt)

-- ---- from the bytes to the reading

-- the numbers are read, and r is left
pub record ReadsAll (text : List ℕ) (a : Answer Span) (l r : List ℕ) : Type 0 where
  pub next : ℕ
  pub is : a ≡ Ok (record { numbers = l; next = next })
  pub left : drop next text ≡ r

pub items_read : (l : List ℕ) (k : ℕ) (text : List ℕ) (at : ℕ) (before r : List ℕ) → Items k l (drop at text) r → ReadsAll text (fields_at (length l) k text at before) (before ++ l) r
unfolding fields_at
items_read [] k text at before r h = record { next = at; is = rw (append-nil before); left = h }
items_read (x ∷ l) k text at before r h =
    let i = item_reads k text at x h.middle h.item in
    let a = items_read l (suc k) text i.next (before ++ (x ∷ [])) r (rw i.left h.rest) in
    record { next = a.next; is = rw i.is (a.is ∙ rw (append_assoc before (x ∷ []) l)); left = a.left }

-- ---- sequences joined and split

pub items_join : (l m : List ℕ) (k : ℕ) (s t r : List ℕ) → Items k l s t → Items (k + length l) m t r → Items k (l ++ m) s r
items_join [] m k s t r h g = let z : k + 0 ≡ k = omega arith in rw h (rw z at g)
items_join (x ∷ l) m k s t r h g =
    let z : k + suc (length l) ≡ suc k + length l = omega arith in
    record { middle = h.middle; item = h.item; rest = items_join l m (suc k) h.middle t r h.rest (rw z at g) }

pub record Halves (k : ℕ) (l m s r : List ℕ) : Type 0 where
  pub between : List ℕ
  pub first : Items k l s between
  pub second : Items (k + length l) m between r

pub items_split : (l m : List ℕ) (k : ℕ) (s r : List ℕ) → Items k (l ++ m) s r → Halves k l m s r
items_split [] m k s r h = let z : k + 0 ≡ k = omega arith in record { between = s; first = refl; second = rw z h }
items_split (x ∷ l) m k s r h =
    let z : k + suc (length l) ≡ suc k + length l = omega arith in
    let g = items_split l m (suc k) h.middle r h.rest in
    record { between = g.between; first = record { middle = h.middle; item = h.item; rest = g.first }; second = rw z g.second }

-- some numbers take some bytes
pub items_some : (l : List ℕ) (k : ℕ) (s r : List ℕ) → 0 < length l → Items k l s r → 0 < length s
items_some [] k s r h i = absurd (omega arith)
items_some (x ∷ l) k s r h i =
    let f = i.item.field in
    omega (arith, spelt_some f.bytes x f.spelt, ap length f.is, length-append f.bytes i.item.after)
