-- The look for the lowest waiting pair, in the form in which the code meets it. Assumes nothing.
use mathlib.Core.Path.{◌≡◌, refl, sym, ap, ◌∙◌}
use mathlib.Core.Bool.{not}
use mathlib.Core.Logic.{dite}
use mathlib.Core.List.{List}
use Rattle.std.specs.Prelude.{None, Some}
use Prim.Native.Nat.{ℕ, zero, suc, ◌+◌, ◌*◌, ◌/◌, ◌%◌, ◌≤◌, ◌<◌}
use native.Mathlib.Numerals.{add-one}
use native.Mathlib.Decide.{ℕ_discrete, dec_lt}
use native.Mathlib.Omega.{arith}
use borrow.Author.Tests.{eq-eqb, ne_eqb}
use lib.Dec.{eqb}
use lib.ListN.{length, get_or, set, drop, length-set}
use lib.Seq.{get_or-set_same, get_or-set_other}
use Rattle.base.specs.Walks.{first_from}
use Rattle.base.proofs.Walks.{skip_at, stop_at, end_at}
use Rattle.sets.specs.Sets.{bit, without}
use Rattle.sets.proofs.Sets.{bit-none, without-kept}
use Rattle.words.specs.inner.Words.{Member, Listed, LowestFrom, removed}
use Rattle.words.proofs.Words.{length_removed, unlisted_other}
use Rattle.graph.specs.inner.Tracks.{Lists}
use Rattle.detector.specs.Turns.{lowest}
use Rattle.detector.specs.inner.Lowest.{LowestOf}

-- ---- the pairs of one old place
module _ (w : List ℕ) (p : ℕ) (b : p < 64) where
  module _ {l : List ℕ} (L : Lists l w) where
    -- a pair whose bit its word lacks does not wait
    lacks : (q : ℕ) → q < 64 → bit (get_or l p 0) q ≡ 0 → get_or w (64 * p + q) 0 ≡ 0
    lacks q c e =
        dite (ℕ_discrete (get_or w (64 * p + q) 0) 0)
        (λ z. z) (λ z. absurd (omega (arith, e, has (L.each (64 * p + q) (omega arith) (omega arith)).0)))
      where
        has : Member l (64 * p + q) → bit (get_or l p 0) q ≡ 1
        has m =
            let y : (64 * p + q) / 64 ≡ p = omega arith in
            let z : (64 * p + q) % 64 ≡ q = omega arith in
            rw (y, z) at m

    -- the lowest bit waits: it is the lowest pair that does. Below it none has a bit
    pub word_found : {x q : ℕ} → x ≡ get_or l p 0 → q < 64 → LowestFrom x 0 q → (get_or w (64 * p + q) 0 ≡ 0 → ⊥)
        → LowestOf w p (Some (64 * p + q))
    word_found {x} {q} f c M s = (omega arith, omega arith, below)
      where
        below : (i : ℕ) → 64 * p ≤ i → i < 64 * p + q → get_or w i 0 ≡ 0
        below i d h =
            let z : i ≡ 64 * p + i % 64 = omega arith in
            rw z (lacks (i % 64) (omega arith) (ap (λ (x : ℕ). bit x (i % 64)) (sym f) ∙ M.none (i % 64) (omega arith) (omega arith)))

    pub word_empty : {x : ℕ} → x ≡ get_or l p 0 → x ≡ 0 → LowestOf w p None
    word_empty f e i c d =
        let z : i ≡ 64 * p + i % 64 = omega arith in
        rw z (lacks (i % 64) (omega arith) (ap (λ (y : ℕ). bit y (i % 64)) (sym f ∙ e) ∙ bit-none (i % 64)))

  -- what is left of the word is what the list has, whose last word is k. The bit in hand waits no more, and is dropped
  pub word_on : {l : List ℕ} {k x y q : ℕ} → Lists l w × (x ≡ get_or l p 0) × (get_or l 64 0 ≡ k) → q < 64
      → get_or w (64 * p + q) 0 ≡ 0 → y ≡ without x q
      → Lists (removed l (64 * p + q)) w × (y ≡ get_or (removed l (64 * p + q)) p 0) × (get_or (removed l (64 * p + q)) 64 0 ≡ k)
  unfolding removed
  word_on {l} {k} {y = y} {q} (L, f, g) c e z = go (64 * p + q) (omega arith) (omega arith) e
    where
      go : (n : ℕ) → n / 64 ≡ p → n % 64 ≡ q → get_or w n 0 ≡ 0
          → Lists (removed l n) w × (y ≡ get_or (removed l n) p 0) × (get_or (removed l n) 64 0 ≡ k)
      go n u v e = (
        record {
          long = length_removed l n ∙ L.long;
          each = λ i d s. unlisted_other l n L.long (omega arith) i d (λ h. omega (arith, e, rw h at s)) (L.each i d s);
        },
        rw (u, v, get_or-set_same l p (without (get_or l p 0) q) 0 (omega (arith, L.long))) (z ∙ ap (λ (x : ℕ). without x q) f),
        get_or-set_other l (n / 64) 64 _ 0 (λ h. omega arith) ∙ g,
      )

-- ---- all pairs
module _ (w : List ℕ) (long : length w ≡ 4096) where
  -- none waits below where the look stands
  look_from : (k : ℕ) → k ≤ 4096 → ((i : ℕ) → i < k → get_or w i 0 ≡ 0) → lowest w ≡ first_from (λ k x. not (eqb x 0)) k (drop k w)
  unfolding lowest
  look_from zero l h = refl
  look_from (suc k) l h =
      look_from k (omega arith) (λ i b. h i (omega arith))
      ∙ (skip_at (λ k x. not (eqb x 0)) w k (omega arith) (rw (eq-eqb (get_or w k 0) 0 (h k (omega arith)))) ∙ rw (add-one k) refl)

  lowest-is : (n : ℕ) → n < 4096 → 0 < get_or w n 0 → ((i : ℕ) → i < n → get_or w i 0 ≡ 0) → Some n ≡ lowest w
  lowest-is n b s h =
      sym (look_from n (omega arith) h
      ∙ stop_at (λ k x. not (eqb x 0)) w n (omega arith) (rw (ne_eqb (get_or w n 0) 0 (λ e. omega arith))))

  module _ {l : List ℕ} (L : Lists l w) where
    -- a pair of an old place that the list's last word lacks does not wait
    idle : (i : ℕ) → i < 4096 → bit (get_or l 64 0) (i / 64) ≡ 0 → get_or w i 0 ≡ 0
    idle i b e = dite (ℕ_discrete (get_or w i 0) 0) (λ z. z) (λ z. absurd (omega (arith, e, (L.each i b (omega arith)).1)))

    module _ {x : ℕ} (f : x ≡ get_or l 64 0) where
      pub look_end : x ≡ 0 → None ≡ lowest w
      look_end e =
          sym (look_from 4096 (omega arith) (λ i b. idle i b (ap (λ (x : ℕ). bit x (i / 64)) (sym f ∙ e) ∙ bit-none (i / 64)))
          ∙ end_at (λ k x. not (eqb x 0)) w 4096 (omega arith))

      -- p is the lowest place that the last word has
      module _ {p : ℕ} (b : p < 64) (M : LowestFrom x 0 p) where
        -- no pair of an earlier one waits
        before : (i : ℕ) → i < 64 * p → get_or w i 0 ≡ 0
        before i b = idle i (omega arith) (ap (λ (x : ℕ). bit x (i / 64)) (sym f) ∙ M.none (i / 64) (omega arith) (omega arith))

        -- a pair was found there
        pub look_here : {n : ℕ} → LowestOf w p (Some n) → Some n ≡ lowest w
        look_here {n} (a, s, h) =
            lowest-is n (omega arith) s (λ i b. dite (dec_lt i (64 * p)) (λ d. before i d) (λ d. h i (omega arith) b))

  -- none was: the place is dropped
  pub look_on : {l : List ℕ} {p k x y z : ℕ} → p < 64 → LowestOf w p None → Lists l w → get_or l 64 0 ≡ k → x ≡ k
      → y ≡ without x p → z ≡ without (get_or l 64 0) p → Lists (set l 64 z) w × (y ≡ get_or (set l 64 z) 64 0)
  look_on {l} {p} {z = z} c nobody L g f d e = (
    record { long = length-set l 64 z ∙ L.long; each = each },
    d ∙ ap (λ (x : ℕ). without x p) (f ∙ sym g) ∙ sym e ∙ sym (get_or-set_same l 64 z 0 (omega (arith, L.long))),
  )
    where
      other : (i : ℕ) → i / 64 ≡ p → get_or w i 0 ≡ 0
      other i h = nobody i (omega arith) (omega arith)

      each : (i : ℕ) → i < 4096 → 0 < get_or w i 0 → Listed (set l 64 z) i
      each i b s =
          let o = L.each i b s in (
            rw (get_or-set_other l 64 (i / 64) z 0 (λ h. omega arith)) o.0,
            rw (get_or-set_same l 64 z 0 (omega (arith, L.long)), e)
                (without-kept (i / 64) (get_or l 64 0) p (omega arith) c (λ h. omega (arith, other i h)) o.1),
          )
