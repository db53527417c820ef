-- Laws of walks over a list: what a pass leaves at an index, and what the first index that passes is. Assumes nothing.
use mathlib.Core.Path.{◌≡◌, refl, sym, ap, ◌∙◌}
use mathlib.Core.Bool.{Bool, true, false}
use mathlib.Core.List.{List, [], ◌∷◌}
use Rattle.std.specs.Prelude.{None, Some}
use Rattle.std.proofs.lemmas.Option.{none-some, same_Some}
use Prim.Native.Nat.{ℕ, zero, suc, ◌+◌, ◌≤◌, ◌<◌}
use native.Mathlib.Numerals.{add-one}
use native.Mathlib.Omega.{arith}
use native.Mathlib.Decide.{ℕ_discrete}
use lib.ListN.{length, get_or, set, drop, replicate, drop_of_length-le}
use lib.Seq.{ext_get_or, drop-cons}
use Rattle.base.specs.Walks.{pass, first_from}

-- what holds at i and passes from each number to the next holds at j
pub up_to : (P : ℕ → Type 0) {i : ℕ} (j : ℕ) → i ≤ j → P i → ((k : ℕ) → i ≤ k → k < j → P k → P (k + 1)) → P j
up_to P {i} zero l p f = let e : i ≡ 0 = omega arith in rw e at p
up_to P {i} (suc j) l p f = go (ℕ_discrete i (suc j)) (λ h. up_to P j h p (λ k a b. f k a (omega arith)))
  where
    go : Dec (i ≡ suc j) → (i ≤ j → P j) → P (suc j)
    go (yes e) ih = rw e at p
    go (no e) ih = let z : j + 1 ≡ suc j = omega arith in rw z at (f j (omega arith) (omega arith) (ih (omega arith)))

-- ---- a pass
pub length-pass : (f : ℕ → ℕ → ℕ) (i : ℕ) (l : List ℕ) → length (pass f i l) ≡ length l
unfolding pass
length-pass f i [] = refl
length-pass f i (x ∷ l) = ap suc (length-pass f (i + 1) l)

pass-from : (f : ℕ → ℕ → ℕ) (i : ℕ) (l : List ℕ) (j : ℕ) → j < length l → get_or (pass f i l) j 0 ≡ f (i + j) (get_or l j 0)
unfolding pass
pass-from f i [] j h = absurd (omega arith)
pass-from f i (x ∷ l) zero h = let e : i + 0 ≡ i = omega arith in rw e
pass-from f i (x ∷ l) (suc j) h = let e : i + 1 + j ≡ i + suc j = omega arith in pass-from f (i + 1) l j (omega arith) ∙ rw e

pub pass_at : (f : ℕ → ℕ → ℕ) (l : List ℕ) (j : ℕ) → j < length l → get_or (pass f 0 l) j 0 ≡ f j (get_or l j 0)
pass_at f l j h = let z : 0 + j ≡ j = omega arith in pass-from f 0 l j h ∙ rw z

-- stores that make the same list as a pass
pub pass-is : (f : ℕ → ℕ → ℕ) (l d : List ℕ) → length d ≡ length l → ((j : ℕ) → j < length l → get_or d j 0 ≡ f j (get_or l j 0)) → d ≡ pass f 0 l
pass-is f l d e h = ext_get_or 0 d (pass f 0 l) (e ∙ sym (length-pass f 0 l)) (λ j k. h j (omega arith) ∙ sym (pass_at f l j (omega arith)))

pub small-pass : (k : ℕ) (f : ℕ → ℕ → ℕ) → 0 < k → ((i x : ℕ) → x < k → f i x < k)
    → (i : ℕ) (l : List ℕ) → ((j : ℕ) → get_or l j 0 < k) → (j : ℕ) → get_or (pass f i l) j 0 < k
unfolding pass
small-pass k f z b i [] h j = z
small-pass k f z b i (x ∷ l) h zero = b i x (h zero)
small-pass k f z b i (x ∷ l) h (suc j) = small-pass k f z b (i + 1) l (λ n. h (suc n)) j

-- ---- bounds of all elements
pub small-set : (k : ℕ) (l : List ℕ) (n u : ℕ) → u < k → ((i : ℕ) → get_or l i 0 < k) → (i : ℕ) → get_or (set l n u) i 0 < k
small-set k [] n u b h i = h i
small-set k (x ∷ l) zero u b h zero = b
small-set k (x ∷ l) zero u b h (suc i) = h (suc i)
small-set k (x ∷ l) (suc n) u b h zero = h zero
small-set k (x ∷ l) (suc n) u b h (suc i) = small-set k l n u b (λ j. h (suc j)) i

pub zeros_at : (n i : ℕ) → ◌≡◌ {A = ℕ} (get_or (replicate n 0) i 0) 0
zeros_at zero i = refl
zeros_at (suc n) zero = refl
zeros_at (suc n) (suc i) = zeros_at n i

pub same_at : (n v i : ℕ) → i < n → get_or (replicate n v) i 0 ≡ v
same_at zero v i l = absurd (omega arith)
same_at (suc n) v zero l = refl
same_at (suc n) v (suc i) l = same_at n v i (omega arith)

-- ---- the first index that passes
first_not : (p : ℕ → ℕ → Bool) (i x : ℕ) (l : List ℕ) → p i x ≡ false → first_from p i (x ∷ l) ≡ first_from p (i + 1) l
unfolding first_from
first_not p i x l e = rw (e, first_from)

first-here : (p : ℕ → ℕ → Bool) (i x : ℕ) (l : List ℕ) → p i x ≡ true → first_from p i (x ∷ l) ≡ Some i
unfolding first_from
first-here p i x l e = rw (e, first_from)

-- it is an index of the list, it passes, and none before it does
pub record First (p : ℕ → ℕ → Bool) (l : List ℕ) (n : ℕ) : Type 0 where
  pub below : n < length l
  pub passes : p n (get_or l n 0) ≡ true
  pub lowest : (k : ℕ) → k < n → p k (get_or l k 0) ≡ false

module _ (p : ℕ → ℕ → Bool) where
  record FirstFrom (l : List ℕ) (i n k : ℕ) : Type 0 where
    at : n ≡ i + k
    below : k < length l
    passes : p (i + k) (get_or l k 0) ≡ true
    lowest : (j : ℕ) → j < k → p (i + j) (get_or l j 0) ≡ false

  passes_from : (l : List ℕ) (i n : ℕ) → first_from p i l ≡ Some n → (k : ℕ) × FirstFrom l i n k
  unfolding first_from
  passes_from [] i n e = absurd (none-some n e)
  passes_from (x ∷ l) i n e = go (passes_from l (i + 1) n) (p i x) refl
    where
      same : i + 0 ≡ i
      same = omega arith

      go : (first_from p (i + 1) l ≡ Some n → (k : ℕ) × FirstFrom l (i + 1) n k) → (b : Bool) → p i x ≡ b → (k : ℕ) × FirstFrom (x ∷ l) i n k
      go ih true f =
          let q : i ≡ n = same_Some i n (sym (first-here p i x l f) ∙ e) in
          (0, record { at = omega arith; below = omega arith; passes = rw same f; lowest = λ j l. absurd (omega arith) })
      go ih false f =
          let (k, r) = ih (sym (first_not p i x l f) ∙ e) in
          let up : (j : ℕ) → i + 1 + j ≡ i + suc j = λ j. omega arith in
          (suc k, record { at = omega (arith, r.at); below = omega (arith, r.below); passes = rw (← up k) r.passes; lowest = low k r.lowest })
        where
          low : (k : ℕ) → ((j : ℕ) → j < k → p (i + 1 + j) (get_or l j 0) ≡ false) → (j : ℕ) → j < suc k → p (i + j) (get_or (x ∷ l) j 0) ≡ false
          low k h zero m = rw same f
          low k h (suc j) m = let up : i + 1 + j ≡ i + suc j = omega arith in rw (← up) (h j (omega arith))

  pub first-is : (l : List ℕ) (n : ℕ) → first_from p 0 l ≡ Some n → First p l n
  first-is l n e =
      let (k, r) = passes_from l 0 n e in
      let z : (j : ℕ) → 0 + j ≡ j = λ j. omega arith in
      let q : k ≡ n = omega (arith, r.at) in
      record {
        below = omega (arith, r.below);
        passes = rw (z k, q) at r.passes;
        lowest = λ j m. rw (z j) at (r.lowest j (omega arith));
      }

  none_from : (l : List ℕ) (i : ℕ) → first_from p i l ≡ None → (j : ℕ) → j < length l → p (i + j) (get_or l j 0) ≡ false
  unfolding first_from
  none_from [] i e j m = absurd (omega arith)
  none_from (x ∷ l) i e j m = go (none_from l (i + 1)) (p i x) refl j m
    where
      go : (first_from p (i + 1) l ≡ None → (j : ℕ) → j < length l → p (i + 1 + j) (get_or l j 0) ≡ false) → (b : Bool) → p i x ≡ b
          → (j : ℕ) → j < suc (length l) → p (i + j) (get_or (x ∷ l) j 0) ≡ false
      go ih true f j m = absurd (none-some i (sym e ∙ first-here p i x l f))
      go ih false f zero m = let z : i + 0 ≡ i = omega arith in rw z f
      go ih false f (suc j) m = let up : i + 1 + j ≡ i + suc j = omega arith in rw (← up) (ih (sym (first_not p i x l f) ∙ e) j (omega arith))

  -- where none is found, none passes
  pub none_passes : (l : List ℕ) → first_from p 0 l ≡ None → (j : ℕ) → j < length l → p j (get_or l j 0) ≡ false
  none_passes l e j m = let z : 0 + j ≡ j = omega arith in rw z at (none_from l 0 e j m)

  -- ---- the loop that looks for it
  pub skip_at : (l : List ℕ) (i : ℕ) → i < length l → p i (get_or l i 0) ≡ false → first_from p i (drop i l) ≡ first_from p (i + 1) (drop (i + 1) l)
  skip_at l i b e = rw (drop-cons l i 0) (first_not p i (get_or l i 0) (drop (suc i) l) e ∙ rw (add-one i) refl)

  pub stop_at : (l : List ℕ) (i : ℕ) → i < length l → p i (get_or l i 0) ≡ true → first_from p i (drop i l) ≡ Some i
  stop_at l i b e = rw (drop-cons l i 0) (first-here p i (get_or l i 0) (drop (suc i) l) e)

  pub end_at : (l : List ℕ) (i : ℕ) → length l ≤ i → first_from p i (drop i l) ≡ None
  unfolding first_from
  end_at l i b = rw (drop_of_length-le l b) refl
