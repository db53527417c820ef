-- A loop that acts at what is found, and ends where nothing is, does what `repeated` says, where a number falls with each turn. Assumes nothing.
use mathlib.Core.Path.{◌≡◌, refl, sym, ◌∙◌}
use Rattle.std.specs.Prelude.{Option, None, Some}
use Prim.Native.Nat.{ℕ, zero, suc, ◌≤◌, ◌<◌}
use native.Mathlib.Omega.{arith}
use Rattle.base.specs.Repeat.{repeated}

module _ {S : Type 0} (find : S → Option ℕ) (act : S → ℕ → S) where
  pub none_found : (k : ℕ) (s : S) → find s ≡ None → repeated find act k s ≡ s
  unfolding repeated
  none_found zero s e = refl
  none_found (suc k) s e = rw (e, repeated)

  pub one_more : (k : ℕ) (s : S) (n : ℕ) → find s ≡ Some n → repeated find act (suc k) s ≡ repeated find act k (act s n)
  unfolding repeated
  one_more k s n e = rw (e, repeated)

-- where the work stands: what is left to do leads to the whole
pub record Going {S : Type 0} (find : S → Option ℕ) (act : S → ℕ → S) (weight : S → ℕ) (Good : S → Type 0) (whole s : S) : Type 0 where
  pub good : Good s
  pub turns : ℕ
  pub enough : weight s ≤ turns
  pub same : whole ≡ repeated find act turns s

-- a turn keeps what is good, and its weight falls
pub record Falls {S : Type 0} (find : S → Option ℕ) (act : S → ℕ → S) (weight : S → ℕ) (Good : S → Type 0) : Type 0 where
  pub keeps : (s : S) (n : ℕ) → Good s → find s ≡ Some n → Good (act s n)
  pub less : (s : S) (n : ℕ) → Good s → find s ≡ Some n → weight (act s n) < weight s

module _ {S : Type 0} (find : S → Option ℕ) (act : S → ℕ → S) (weight : S → ℕ) (Good : S → Type 0) (falls : Falls find act weight Good) where
  -- with as many turns as the weight, nothing is found at the end
  pub rests : (k : ℕ) (s : S) → Good s → weight s ≤ k → find (repeated find act k s) ≡ None
  rests zero s h l = go (find s) refl
    where
      go : (f : Option ℕ) → find s ≡ f → find (repeated find act zero s) ≡ None
      go None e = rw (none_found find act zero s e) e
      go (Some n) e = absurd (omega (arith, falls.less s n h e))
  rests (suc k) s h l = go (λ n. rests k (act s n)) (find s) refl
    where
      go : ((n : ℕ) → Good (act s n) → weight (act s n) ≤ k → find (repeated find act k (act s n)) ≡ None)
          → (f : Option ℕ) → find s ≡ f → find (repeated find act (suc k) s) ≡ None
      go ih None e = rw (none_found find act (suc k) s e) e
      go ih (Some n) e = rw (one_more find act k s n e) (ih n (falls.keeps s n h e) (omega (arith, falls.less s n h e)))

  pub less_by : {n : ℕ} {s t : S} → Good s → find s ≡ Some n → t ≡ act s n → weight t < weight s
  less_by {n} {s} h e q = rw q (falls.less s n h e)

  pub again_by : {n : ℕ} {s t whole : S} → Going find act weight Good whole s → find s ≡ Some n → t ≡ act s n → Going find act weight Good whole t
  again_by {n} {s} {t} {whole} g e q = rw q (go g.turns g.enough g.same)
    where
      go : (k : ℕ) → weight s ≤ k → whole ≡ repeated find act k s → Going find act weight Good whole (act s n)
      go zero b c = absurd (omega (arith, falls.less s n g.good e))
      go (suc k) b c =
          record {
            good = falls.keeps s n g.good e;
            turns = k;
            enough = omega (arith, falls.less s n g.good e);
            same = c ∙ one_more find act k s n e;
          }

  pub done_by : {s whole : S} → Going find act weight Good whole s → find s ≡ None → s ≡ whole
  done_by {s} g e = sym (g.same ∙ none_found find act g.turns s e)

-- what holds at the start and is kept by each turn holds at the end
pub repeated-keeps : {S : Type 0} (find : S → Option ℕ) (act : S → ℕ → S) (P : S → Type 0)
    → ((s : S) (n : ℕ) → P s → find s ≡ Some n → P (act s n))
    → (k : ℕ) (s : S) → P s → P (repeated find act k s)
unfolding repeated
repeated-keeps find act P h zero s p = p
repeated-keeps find act P h (suc k) s p = go (λ n. repeated-keeps find act P h k (act s n)) (find s) refl
  where
    go : ((n : ℕ) → P (act s n) → P (repeated find act k (act s n))) → (f : Option ℕ) → find s ≡ f → P (repeated find act (suc k) s)
    go ih None e = rw (none_found find act (suc k) s e) p
    go ih (Some n) e = rw (one_more find act k s n e) (ih n (h s n p e))
