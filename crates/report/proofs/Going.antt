-- Laws of a portion: the transitions of pairs that follow one another.
-- Assumes nothing.
use mathlib.Core.Path.{◌≡◌, refl, sym, ap, ◌∙◌}
use mathlib.Core.List.{List, [], ◌∷◌, ◌++◌, append_assoc}
use Prim.Native.Nat.{ℕ, ◌+◌, ◌≤◌, ◌<◌}
use native.Mathlib.Numerals.{add-one}
use native.Mathlib.Omega.{arith}
use native.Mathlib.Decide.{dec_lt}
use native.Mathlib.Nat.{min-le_left}
use mathlib.Core.Logic.{dite}
use lib.ListN.{length, take, length-take, drop_of_length-le}
use lib.Seq.{take_all, slice, slice-cons}
use Rattle.text.specs.inner.Puts.{Put}
use Rattle.text.proofs.Puts.{put_then, put-length}
use Rattle.records.specs.Records.{Graph, mark}
use Rattle.report.specs.Transitions.{of_pair, of_pairs, remaining}
use Rattle.report.specs.Portions.{Portioned}
use Rattle.report.proofs.Fronts.{put-none, front-put}

-- the transitions from a pair on are its own, and then those from the next one on
pub remaining-next : (t : List ℕ) (G : Graph) (n : ℕ) → length G.marks ≡ 4160 → n < 4096
    → of_pair t G n (mark G n) ++ remaining t G (n + 1) ≡ remaining t G n
unfolding remaining of_pairs
remaining-next t G n l h =
    sym (ap (of_pairs t G n) (slice-cons n 4096 G.marks 0 h (omega arith) ∙ ap (λ (i : ℕ). mark G n ∷ slice i 4096 G.marks) (sym (add-one n))))

-- past the last pair there is nothing
pub remaining_end : (t : List ℕ) (G : Graph) (n : ℕ) → 4096 ≤ n → remaining t G n ≡ []
unfolding remaining of_pairs
remaining_end t G n h =
    let l : length (take 4096 G.marks) ≤ n = omega (arith, length-take 4096 G.marks, min-le_left 4096 (length G.marks)) in
    ap (of_pairs t G n) (drop_of_length-le (take 4096 G.marks) {i = n} l)

-- the pairs from the first on, up to n, are put
pub record Going (t : List ℕ) (G : Graph) (pair : ℕ) (before after : List ℕ) (n at : ℕ) : Type 0 where
  pub bytes : List ℕ
  pub put : Put before 0 bytes after at
  pub rest : bytes ++ remaining t G n ≡ remaining t G pair
  pub low : pair ≤ n
  pub moved : pair ≡ n → at ≡ 0
  pub short : at ≤ 1024
  pub long : length before ≡ 1024
  pub same : length after ≡ 1024

module _ (t : List ℕ) (G : Graph) (pair : ℕ) (before : List ℕ) where
  pub going_start : length before ≡ 1024 → Going t G pair before before pair 0
  going_start l =
      record { bytes = []; put = put-none before 0; rest = refl; low = omega arith; moved = λ h. refl; short = omega arith; long = l; same = l }

  module _ (after : List ℕ) (n at : ℕ) (c : Going t G pair before after n at) where
    pub going_more : (last : List ℕ) (r : ℕ) → length G.marks ≡ 4160 → n < 4096 → at ≤ 934
        → (Put after at (of_pair t G n (mark G n)) last r) × (r ≤ at + 90)
        → Going t G pair before last (n + 1) r
    going_more last r l h s p =
        let own = of_pair t G n (mark G n) in
        record {
          bytes = c.bytes ++ own;
          put = put_then c.put p.0;
          rest =
              append_assoc c.bytes own (remaining t G (n + 1))
              ∙ ap (λ (b : List ℕ). c.bytes ++ b) (remaining-next t G n l h)
              ∙ c.rest;
          low = omega (arith, c.low);
          moved = λ g. absurd (omega (arith, c.low));
          short = omega (arith, p.1);
          long = c.long;
          same = put-length p.0 ∙ c.same;
        }

    -- where bytes are put, a pair was passed
    pub going_moved : 0 < at → pair < n
    going_moved h = dite (dec_lt pair n) (λ l. l) (λ l. absurd (omega (arith, c.moved (omega (arith, c.low)))))

    -- a portion ends behind the first pair, or where there are no more pairs
    pub going_done : (pair < 4096 → pair < n) → Portioned t G pair before after n at
    going_done f =
        record {
          bytes = c.bytes;
          front = front-put before c.bytes after at c.put (omega (arith, c.short, c.long));
          rest = c.rest;
          onward = f;
        }

    -- past the last pair nothing is left to put
    pub going_end : 4096 ≤ n → (m : ℕ) → 4096 ≤ m → Portioned t G pair before after m at
    going_end h m l =
        record {
          bytes = c.bytes;
          front = front-put before c.bytes after at c.put (omega (arith, c.short, c.long));
          rest = ap (λ (b : List ℕ). c.bytes ++ b) (remaining_end t G m l ∙ sym (remaining_end t G n h)) ∙ c.rest;
          onward = λ k. omega arith;
        }

-- a table of fewer than 768 entries is looked at whole
pub portion_whole : {t : List ℕ} {G : Graph} {before after : List ℕ} {n next r : ℕ} → length t < 768 → Portioned t G n before after next r
    → Portioned (take 768 t) G n before after next r
portion_whole {t} l p = rw (take_all 768 t (omega arith)) p
