-- Laws of decimals: the digits of a number, what they say, and how many they are.
-- Assumes nothing.
use Rattle.std.proofs.Common.{◌≡◌, ℕ, zero, suc, ◌+◌, ◌*◌, ◌/◌, ◌%◌, ◌<◌, ◌≤◌, List, [], ◌∷◌, ◌++◌, map, length, sym, refl, ap, ◌∙◌, append_assoc, append-nil, arith, length-append, le-ltb, lt-ltb}
use mathlib.Core.List.{map-append}
use mathlib.Core.Logic.{dite}
use native.Mathlib.Decide.{dec_lt}
use Rattle.text.specs.Fields.{value}
use Rattle.text.specs.Written.{digits_in, digits_of, decimal}

digits_enough : (k j x : ℕ) → x ≤ k → x ≤ j → digits_in k x ≡ digits_in j x
unfolding digits_in
digits_enough zero zero x a b = refl
digits_enough zero (suc j) x a b = rw (lt-ltb x 10 (omega arith), digits_in)
digits_enough (suc k) zero x a b = rw (lt-ltb x 10 (omega arith), digits_in)
digits_enough (suc k) (suc j) x a b =
    dite (dec_lt x 10) (λ l. rw (lt-ltb x 10 l, digits_in))
    (λ n. let g : 10 ≤ x = omega arith in rw (le-ltb x 10 g, digits_in) (ap (λ (l : List ℕ). l ++ (x % 10 ∷ [])) (digits_enough k j (x / 10) (omega arith) (omega arith))))

pub decimal-one : (x : ℕ) → x < 10 → decimal x ≡ (48 + x % 10) ∷ []
unfolding decimal digits_of digits_in
decimal-one zero h = refl
decimal-one (suc x) h = let m : suc x % 10 ≡ suc x = omega arith in rw (lt-ltb (suc x) 10 h, digits_in, m)

pub decimal-more : (x : ℕ) → 10 ≤ x → decimal x ≡ decimal (x / 10) ++ ((48 + x % 10) ∷ [])
unfolding decimal digits_of digits_in
decimal-more zero h = absurd (omega arith)
decimal-more (suc x) h =
    rw (le-ltb (suc x) 10 h, digits_in, digits_enough x (suc x / 10) (suc x / 10) (omega arith) (omega arith))
    (map-append (λ (d : ℕ). 48 + d) (digits_in (suc x / 10) (suc x / 10)) (suc x % 10 ∷ []))

-- a number of at most k + 1 digits
unfoldable pub tens : ℕ → ℕ
tens zero = 10
tens (suc k) = 10 * tens k

pub decimal-length : (k x : ℕ) → x < tens k → length (decimal x) ≤ suc k
unfolding tens
decimal-length zero x h = rw (decimal-one x h) (omega arith)
decimal-length (suc k) x h =
    dite (dec_lt x 10) (λ l. rw (decimal-one x l) (omega arith))
    (λ n. let i = decimal-length k (x / 10) (omega arith) in rw (decimal-more x (omega arith), length-append) (omega arith))

-- a number below 2^32 has at most 10 digits
pub decimal_ten : (x : ℕ) → x ≤ 4294967295 → length (decimal x) ≤ 10
unfolding tens
decimal_ten x h = decimal-length 9 x (omega arith)

-- each is at most 9
abbrev pub Nines : List ℕ → Type 0
Nines [] = Unit
Nines (d ∷ ds) = (d ≤ 9) × Nines ds

nines_snoc : (l : List ℕ) (d : ℕ) → Nines l → d ≤ 9 → Nines (l ++ (d ∷ []))
nines_snoc [] d h g = (g, tt)
nines_snoc (e ∷ l) d h g = (h.0, nines_snoc l d h.1 g)

-- the first is not 0
abbrev pub Leads : List ℕ → Type 0
Leads [] = ⊥
Leads (d ∷ ds) = 0 < d

leads_snoc : (l : List ℕ) (d : ℕ) → Leads l → Leads (l ++ (d ∷ []))
leads_snoc [] d h = absurd h
leads_snoc (e ∷ l) d h = h

value_snoc : (x : ℕ) (l : List ℕ) (d : ℕ) → value x (l ++ (d ∷ [])) ≡ value x l * 10 + d
unfolding value
value_snoc x [] d = refl
value_snoc x (e ∷ l) d = value_snoc (x * 10 + e) l d

-- what is to be known of the digits of x
pub record Spells (x : ℕ) (ds : List ℕ) : Type 0 where
  pub nines : Nines ds
  pub leads : 0 < x → Leads ds
  pub says : value 0 ds ≡ x
  pub one : x ≡ 0 → ds ≡ 0 ∷ []

spells_one : (x : ℕ) → x < 10 → Spells x (x ∷ [])
unfolding value
spells_one x h = record { nines = (omega arith, tt); leads = λ g. g; says = omega arith; one = λ e. rw e }

spells_more : (x : ℕ) (l : List ℕ) → 10 ≤ x → Spells (x / 10) l → Spells x (l ++ (x % 10 ∷ []))
spells_more x l h s =
    record {
      nines = nines_snoc l (x % 10) s.nines (omega arith);
      leads = λ _. leads_snoc l (x % 10) (s.leads (omega arith));
      says = value_snoc 0 l (x % 10) ∙ (let e = s.says in omega arith);
      one = λ e. absurd (omega arith);
    }

spells_in : (k x : ℕ) → x ≤ k → Spells x (digits_in k x)
unfolding digits_in
spells_in zero x h = spells_one x (omega arith)
spells_in (suc k) x h =
    dite (dec_lt x 10) (λ l. rw (lt-ltb x 10 l, digits_in) (spells_one x l))
    (λ n. let g : 10 ≤ x = omega arith in rw (le-ltb x 10 g, digits_in) (spells_more x (digits_in k (x / 10)) g (spells_in k (x / 10) (omega arith))))

pub spells : (x : ℕ) → Spells x (digits_of x)
unfolding digits_of
spells x = spells_in x x (omega arith)

-- digits after a number that is not 0 are its last ones
pub decimal-value : (x : ℕ) (ds : List ℕ) → 0 < x → Nines ds → decimal (value x ds) ≡ decimal x ++ map (λ (d : ℕ). 48 + d) ds
unfolding value
decimal-value x [] h g = sym (append-nil (decimal x))
decimal-value x (d ∷ ds) h g =
    let k : d ≤ 9 = g.0 in
    let q : (x * 10 + d) / 10 ≡ x = omega arith in
    let m : (x * 10 + d) % 10 ≡ d = omega arith in
    decimal-value (x * 10 + d) ds (omega arith) g.1
    ∙ rw (decimal-more (x * 10 + d) (omega arith), q, m) (append_assoc (decimal x) ((48 + d) ∷ []) (map (λ (d : ℕ). 48 + d) ds))
