-- 64 rows are enough to follow: a walk is never cut short, it fails only where it comes to a place twice. Assumes nothing.
use mathlib.Core.Path.{◌≡◌, refl, sym, ap, ◌∙◌}
use mathlib.Core.Bool.{Bool, true, false}
use mathlib.Core.Logic.{dite}
use Rattle.std.specs.Prelude.{Option, None, Some}
use Prim.Native.Nat.{ℕ, zero, suc, ◌+◌, ◌-◌, ◌^◌, ◌≤◌, ◌<◌}
use native.Mathlib.Decide.{ℕ_discrete}
use native.Mathlib.Omega.{arith}
use lib.Bits.{or_zero_l}
use Rattle.base.proofs.OnSome.{on_at}
use Rattle.chart.specs.Faultless.{FaultlessChart}
use Rattle.chart.specs.Compared.{Compared}
use Rattle.align.specs.declared.spots.Spot.{Spot}
use Rattle.sets.specs.Sets.{bit, alone, joined, with, meets}
use Rattle.align.specs.Steps.{onward, follow, followed}
use Rattle.sets.proofs.Sets.{In, bit-none, bit_or_lem, bit-pow_other, alone-here, with-here, meet_none}
use Rattle.align.proofs.Moves.{follow-ends, follow_twice, follow_on, onward-below}

-- how many of the first k places have not been come to
unmet : ℕ → ℕ → ℕ
unmet zero met = 0
unmet (suc k) met = unmet k met + (1 - bit met k)

unmet_none : (k : ℕ) → unmet k 0 ≡ k
unfolding unmet
unmet_none zero = refl
unmet_none (suc k) = omega (arith, unmet_none k, bit-none k)

-- a place more leaves the others as they were
other_bit : (met v i : ℕ) → (i ≡ v → ⊥) → bit (with met v) i ≡ bit met i
unfolding with joined alone
other_bit met v i n = omega (arith, bit_or_lem met (2 ^ v) i, bit-pow_other v i n)

unmet_same : (k met v : ℕ) → k ≤ v → unmet k (with met v) ≡ unmet k met
unfolding unmet
unmet_same zero met v l = refl
unmet_same (suc k) met v l = omega (arith, unmet_same k met v (omega arith), other_bit met v k (λ e. omega arith))

unmet_less : (k met v : ℕ) → v < k → (In v met → ⊥) → unmet k (with met v) + 1 ≡ unmet k met
unfolding unmet
unmet_less zero met v l n = absurd (omega arith)
unmet_less (suc k) met v l n =
    dite (ℕ_discrete k v)
    (λ e. let h : bit (with met v) k ≡ 1 = rw e (with-here 0 met v) in let m : bit met k ≡ 1 → ⊥ = rw e n in omega (arith, unmet_same k met v (omega arith)))
    (λ e. omega (arith, unmet_less k met v (omega arith) n, other_bit met v k e))

module _ (X : Compared) (F : FaultlessChart X.old) where
  -- one row more or less, where the rest of the walk is the same
  further : (n k met : ℕ) (h : Spot) → ((h' : Spot) → onward X h ≡ Some h' → meets met (alone h'.place.0) ≡ false
      → follow X k (with met h'.place.0) h' ≡ follow X n (with met h'.place.0) h') → follow X (suc k) met h ≡ follow X (suc n) met h
  further n k met h rest = go (onward X h) refl
    where
      came : (h' : Spot) → onward X h ≡ Some h' → (b : Bool) → meets met (alone h'.place.0) ≡ b → follow X (suc k) met h ≡ follow X (suc n) met h
      came h' e true t = sym (follow_twice X k met h h' refl e t) ∙ follow_twice X n met h h' refl e t
      came h' e false t = follow_on X k met h h' refl e t ∙ rest h' e t ∙ sym (follow_on X n met h h' refl e t)

      go : (o : Option Spot) → onward X h ≡ o → follow X (suc k) met h ≡ follow X (suc n) met h
      go None e = sym (follow-ends X k met h refl e) ∙ follow-ends X n met h refl e
      go (Some h') e = came h' e (meets met (alone h'.place.0)) refl

  longer : (n d met : ℕ) (h : Spot) → unmet 64 met < n → follow X (n + d) met h ≡ follow X n met h
  longer zero d met h l = absurd (omega arith)
  longer (suc n) d met h l =
      let e : suc n + d ≡ suc (n + d) = omega arith in
      ap (λ (k : ℕ). follow X k met h) e
      ∙ further n (n + d) met h (λ h' o t. longer n d (with met h'.place.0) h'
      (omega (arith, unmet_less 64 met h'.place.0 (on_at _ (onward-below X F h) o) (λ i. meet_none met (alone h'.place.0) h'.place.0 t i (alone-here h'.place.0)))))

  -- however many rows may be followed beyond 64, the walk is the same
  pub enough : (d : ℕ) (h : Spot) → h.place.0 < 64 → follow X (64 + d) (alone h.place.0) h ≡ followed X h
  unfolding followed with joined
  enough d h l =
      let z : with 0 h.place.0 ≡ alone h.place.0 = or_zero_l (alone h.place.0) in
      let u = unmet_less 64 0 h.place.0 l (λ i. let b = bit-none h.place.0 in omega arith) in
      let v : unmet 64 (with 0 h.place.0) < 64 = omega (arith, unmet_none 64) in
      longer 64 d (alone h.place.0) h (rw z at v)
