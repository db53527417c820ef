-- Laws of the number that an answer makes: it gives back the parts of the answer, so that no two answers make the same
-- one. Assumes nothing.
use mathlib.Core.Path.{◌≡◌, sym, ap, ◌∙◌}
use Prim.Native.Nat.{ℕ, ◌/◌, ◌%◌, ◌^◌, ◌≤◌, ◌<◌}
use native.Mathlib.Omega.{arith}
use Rattle.base.specs.Answers.{Answer}
use Rattle.std.specs.Prelude.{Ok, Err}
use Rattle.base.specs.declared.Refusal.{Refusal}
use Rattle.base.specs.inner.Fits.{Fits, FitsOr}
use Rattle.picker.specs.declared.Four.{Four}
use Rattle.picker.specs.Numbers.{number}
use Rattle.picker.specs.inner.Below.{Below}

-- ---- four numbers
module _ (f : Four) (h : Below f) where
  pub given-low : number (Ok f) < 2 ^ 56
  given-low = omega arith

  pub first : f.a ≡ number (Ok f) % 2 ^ 14
  first = omega arith

  second : f.b ≡ number (Ok f) / 2 ^ 14 % 2 ^ 14
  second = omega arith

  third : f.c ≡ number (Ok f) / 2 ^ 28 % 2 ^ 14
  third = omega arith

  fourth : f.d ≡ number (Ok f) / 2 ^ 42
  fourth = omega arith

-- ---- a refusal
module _ (r : Refusal) (h : Fits r) where
  pub refused-high : 2 ^ 56 ≤ number (Err r)
  refused-high = omega arith

  its_number : r.number ≡ number (Err r) / 2 ^ 56
  its_number = omega arith

  its_chart : r.chart ≡ number (Err r) / 2 ^ 48 % 2 ^ 8
  its_chart = omega arith

  its_position : r.position ≡ number (Err r) % 2 ^ 48
  its_position = omega arith

-- Answers that make the same number are the same.
pub number-one : (x y : Answer Four) → FitsOr Below x → FitsOr Below y → number x ≡ number y → x ≡ y
number-one (Ok f) (Ok g) h k e =
    let a : f.a ≡ g.a = first f h ∙ ap (λ (n : ℕ). n % 2 ^ 14) e ∙ sym (first g k) in
    let b : f.b ≡ g.b = second f h ∙ ap (λ (n : ℕ). n / 2 ^ 14 % 2 ^ 14) e ∙ sym (second g k) in
    let c : f.c ≡ g.c = third f h ∙ ap (λ (n : ℕ). n / 2 ^ 28 % 2 ^ 14) e ∙ sym (third g k) in
    let d : f.d ≡ g.d = fourth f h ∙ ap (λ (n : ℕ). n / 2 ^ 42) e ∙ sym (fourth g k) in
    λ i. Ok (record { a = a i; b = b i; c = c i; d = d i })
number-one (Ok f) (Err r) h k e = absurd (omega (arith, given-low f h, refused-high r k))
number-one (Err r) (Ok g) h k e = absurd (omega (arith, given-low g k, refused-high r h))
number-one (Err r) (Err q) h k e =
    let a : r.number ≡ q.number = its_number r h ∙ ap (λ (n : ℕ). n / 2 ^ 56) e ∙ sym (its_number q k) in
    let b : r.chart ≡ q.chart = its_chart r h ∙ ap (λ (n : ℕ). n / 2 ^ 48 % 2 ^ 8) e ∙ sym (its_chart q k) in
    let c : r.position ≡ q.position = its_position r h ∙ ap (λ (n : ℕ). n % 2 ^ 48) e ∙ sym (its_position q k) in
    λ i. Err (record { number = a i; chart = b i; position = c i })
