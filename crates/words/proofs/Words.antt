-- Members of sets of pairs: added, removed, and listed. Assumes nothing.
use mathlib.Core.Path.{◌≡◌, refl, ap, ◌∙◌}
use mathlib.Core.Bool.{Bool, true, false}
use mathlib.Core.Logic.{◌↔◌, dite}
use mathlib.Core.List.{List}
use Prim.Native.Nat.{ℕ, zero, suc, ◌+◌, ◌*◌, ◌/◌, ◌%◌, ◌^◌, ◌≤◌, ◌<◌}
use native.Mathlib.Decide.{ℕ_discrete}
use native.Mathlib.Omega.{arith}
use borrow.Author.Tests.{eqb-true}
use lib.Pow.{pow-lt}
use lib.ListN.{length, get_or, set, length-set}
use lib.Seq.{set-get_or, get_or-set_same, get_or-set_other}
use Rattle.sets.specs.Sets.{bit, alone, joined, with, without, meets, holds_all}
use Rattle.sets.proofs.Sets.{bit-none, joined-left, joined-right, alone-here, alone_only, with-here, with-old, without-kept, meet_some, meet_none, holds_all_lem}
use Rattle.words.specs.inner.Words.{Member, added, removed, gathered, Listed, listed}

-- ---- added and removed
module _ (w : List ℕ) (n : ℕ) where
  pub add_is : {x : ℕ} → x ≡ with (get_or w (n / 64) 0) (n % 64) → set w (n / 64) x ≡ added w n
  unfolding added
  add_is e = ap (set w (n / 64)) e

  pub remove_is : {x : ℕ} → x ≡ without (get_or w (n / 64) 0) (n % 64) → set w (n / 64) x ≡ removed w n
  unfolding removed
  remove_is e = ap (set w (n / 64)) e

  pub length-added : length (added w n) ≡ length w
  unfolding added
  length-added = length-set w (n / 64) _

  pub length_removed : length (removed w n) ≡ length w
  unfolding removed
  length_removed = length-set w (n / 64) _

  else_added : (p : ℕ) → (p ≡ n / 64 → ⊥) → get_or (added w n) p 0 ≡ get_or w p 0
  unfolding added
  else_added p f = get_or-set_other w (n / 64) p _ 0 f

  else_removed : (p : ℕ) → (p ≡ n / 64 → ⊥) → get_or (removed w n) p 0 ≡ get_or w p 0
  unfolding removed
  else_removed p f = get_or-set_other w (n / 64) p _ 0 f

  -- who is a member already is not added
  pub added_had : get_or w (n / 64) 0 < 2 ^ 64 → Member w n → added w n ≡ w
  unfolding added with joined alone holds_all
  added_had l m =
      let s = get_or w (n / 64) 0 in
      let h = holds_all_lem s (2 ^ (n % 64)) l (pow-lt {j = 64} (omega arith)) (λ i k p. rw (alone_only i (n % 64) p) m) in
      ap (set w (n / 64)) (eqb-true _ s h) ∙ set-get_or w (n / 64) 0

  module _ (l : 64 ≤ length w) (b : n < 4096) where
    here-added : get_or (added w n) (n / 64) 0 ≡ with (get_or w (n / 64) 0) (n % 64)
    unfolding added
    here-added = get_or-set_same w (n / 64) _ 0 (omega arith)

    -- the pair is a member now
    pub added-here : Member (added w n) n
    added-here = rw here-added (with-here (n % 64) (get_or w (n / 64) 0) (n % 64))

    -- and whoever was one
    pub added-old : (i : ℕ) → Member w i → Member (added w n) i
    added-old i m =
        dite (ℕ_discrete (i / 64) (n / 64))
        (λ e. rw (e, here-added) (with-old (i % 64) (get_or w (n / 64) 0) (n % 64) (rw e at m)))
        (λ f. rw (else_added (i / 64) f) m)

  module _ (l : n / 64 < length w) where
    here-removed : get_or (removed w n) (n / 64) 0 ≡ without (get_or w (n / 64) 0) (n % 64)
    unfolding removed
    here-removed = get_or-set_same w (n / 64) _ 0 l

    -- whoever else was a member still is one
    pub removed_other : (i : ℕ) → (i ≡ n → ⊥) → Member w i → Member (removed w n) i
    removed_other i f m =
        dite (ℕ_discrete (i / 64) (n / 64))
        (λ e. rw (e, here-removed) (without-kept (i % 64) (get_or w (n / 64) 0) (n % 64) (omega arith) (omega arith) (λ h. f (omega arith)) (rw e at m)))
        (λ g. rw (else_removed (i / 64) g) m)

-- ---- lists: 65 words
module _ (w : List ℕ) (n : ℕ) where
  pub list_is : {w' : List ℕ} {x : ℕ} → w' ≡ added w n → x ≡ with (get_or w' 64 0) (n / 64) → set w' 64 x ≡ listed w n
  unfolding listed
  list_is {w'} e f = ap (set w' 64) f ∙ ap (λ (y : List ℕ). set y 64 (with (get_or y 64 0) (n / 64))) e

  pub length-listed : length (listed w n) ≡ length w
  unfolding listed
  length-listed = length-set (added w n) 64 _ ∙ length-added w n

  module _ (l : length w ≡ 65) (b : n < 4096) where
    -- the last word is that of the list with one bit more
    last-listed : get_or (listed w n) 64 0 ≡ with (get_or w 64 0) (n / 64)
    unfolding listed
    last-listed = get_or-set_same (added w n) 64 _ 0 (omega (arith, length-added w n)) ∙ ap (λ (x : ℕ). with x (n / 64)) (else_added w n 64 (λ e. omega arith))

    -- the others have the same members as without it
    member_listed : (i : ℕ) → i < 4096 → Member (added w n) i → Member (listed w n) i
    unfolding listed
    member_listed i c m = rw (get_or-set_other (added w n) 64 (i / 64) (with (get_or (added w n) 64 0) (n / 64)) 0 (λ e. omega arith)) m

    -- the pair is in the list now
    pub listed_here : Listed (listed w n) n
    listed_here = (member_listed n b (added-here w n (omega arith) b), rw last-listed (with-here (n / 64) (get_or w 64 0) (n / 64)))

    -- and whoever was
    pub listed-old : (i : ℕ) → i < 4096 → Listed w i → Listed (listed w n) i
    listed-old i c m =
        (member_listed i c (added-old w n (omega arith) b i m.0), rw last-listed (with-old (i / 64) (get_or w 64 0) (n / 64) m.1))

    -- whoever else was in a list still is when the pair has left its word: the last word stays
    pub unlisted_other : (i : ℕ) → i < 4096 → (i ≡ n → ⊥) → Listed w i → Listed (removed w n) i
    unlisted_other i c f m = (removed_other w n (omega arith) i f m.0, rw (else_removed w n 64 (λ e. omega arith)) m.1)

-- ---- whether a pair is a member, as a test
module _ (y q : ℕ) {x : ℕ} {b : Bool} (l : y < 2 ^ 64) (a : x ≡ alone q) (e : b ≡ meets y x) where
  bit_is : (b ≡ true) ↔ (bit y q ≡ 1)
  bit_is = rw (e, a) (there, go (meets y (alone q)) refl)
    where
      there : meets y (alone q) ≡ true → bit y q ≡ 1
      there t = let s = meet_some y (alone q) l t in rw (alone_only s.0 q s.3) at s.2

      go : (b : Bool) → meets y (alone q) ≡ b → bit y q ≡ 1 → b ≡ true
      go true f m = refl
      go false f m = absurd (meet_none y (alone q) q f m (alone-here q))

pub has-is : (w : List ℕ) (p q : ℕ) {x : ℕ} {b : Bool} → q < 64 → get_or w p 0 < 2 ^ 64 → x ≡ alone q → b ≡ meets (get_or w p 0) x
    → (b ≡ true) ↔ Member w (64 * p + q)
has-is w p q k l a e =
    let i : (64 * p + q) / 64 ≡ p = omega arith in
    let j : (64 * p + q) % 64 ≡ q = omega arith in
    rw (i, j) (bit_is (get_or w p 0) q l a e)

-- ---- the bits that some word has
-- those of the first p words are in all
pub record Gathering (w : List ℕ) (all p : ℕ) : Type 0 where
  pub most : p ≤ length w
  pub is : all ≡ gathered w p

pub gathering_none : (w : List ℕ) → Gathering w 0 0
unfolding gathered
gathering_none w = record { most = omega arith; is = refl }

module _ {w : List ℕ} {all p : ℕ} (G : Gathering w all p) where
  pub gathering_more : {x : ℕ} → p < length w → x ≡ joined all (get_or w p 0) → Gathering w x (p + 1)
  unfolding gathered
  gathering_more l e = let z : suc p ≡ p + 1 = omega arith in record { most = omega arith; is = e ∙ ap (λ (n : ℕ). joined n (get_or w p 0)) G.is ∙ ap (gathered w) z }

-- a member's is one
pub gathered-has : (w : List ℕ) (n i : ℕ) → i / 64 < n → Member w i → bit (gathered w n) (i % 64) ≡ 1
unfolding gathered
gathered-has w zero i l m = absurd (omega arith)
gathered-has w (suc n) i l m =
    dite (ℕ_discrete (i / 64) n) (λ e. joined-right (i % 64) (gathered w n) (get_or w n 0) (rw e at m))
    (λ e. joined-left (i % 64) (gathered w n) (get_or w n 0) (gathered-has w n i (omega arith) m))

-- ---- a bit that its word lacks is no member
pub not_at : (w : List ℕ) (p i : ℕ) → i / 64 ≡ p → bit (get_or w p 0) (i % 64) ≡ 0 → Member w i → ⊥
not_at w p i e z m = let y : bit (get_or w (i / 64) 0) (i % 64) ≡ 0 = ap (λ (q : ℕ). bit (get_or w q 0) (i % 64)) e ∙ z in omega (arith, m, y)

-- a word that is 0 has none
pub none_in : (w : List ℕ) (i : ℕ) → get_or w (i / 64) 0 ≡ 0 → Member w i → ⊥
none_in w i e = not_at w (i / 64) i refl (ap (λ (n : ℕ). bit n (i % 64)) e ∙ bit-none (i % 64))
