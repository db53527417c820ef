-- What each call answers fits its place in one number, and which number it makes. Assumes nothing.
use mathlib.Core.Path.{◌≡◌, refl, sym, ap, subst, ◌∙◌}
use mathlib.Core.List.{List}
use Rattle.std.specs.Prelude.{Option, None, Some, Ok, Err}
use Rattle.std.specs.Result.{IsOkAnd, MatchResult, result_err}
use Prim.Native.Nat.{ℕ, ◌%◌, ◌^◌, ◌≤◌, ◌<◌}
use native.Mathlib.Omega.{arith}
use lib.ListN.{length, get_or}
use Rattle.base.specs.Answers.{Answer}
use Rattle.base.specs.Chains.{mapped}
use Rattle.base.specs.declared.Refusal.{Refusal}
use Rattle.base.specs.Refusals.{unless}
use Rattle.base.specs.inner.Fits.{Fits, FitsOr}
use Rattle.base.proofs.Fits.{unless-fits, mapped-fits}
use Rattle.base.proofs.OnSome.{OnSome}
use Rattle.chart.specs.Charts.{Chart, charted}
use Rattle.chart.specs.Faultless.{FaultlessChart}
use Rattle.text.specs.declared.answers.Heading.{Heading}
use Rattle.text.specs.Texts.{heading, read_into}
use Rattle.text.specs.Written.{writing}
use Rattle.text.proofs.Bounds.{read_fits, Short, write_fits}
use Rattle.text.proofs.Filed.{u32s}
use Rattle.records.specs.Records.{record_of, Record}
use Rattle.checker.specs.Checks.{refusal}
use Rattle.graph.specs.Buffers.{Buffers}
use Rattle.paper.specs.Returned.{Returned}
use Rattle.condition.specs.declared.Summary.{Summary}
use Rattle.builder.specs.Answers.{answered}
use Rattle.builder.specs.inner.Small.{Small}
use Rattle.builder.proofs.Bounds.{build_fits}
use Rattle.picker.specs.declared.Four.{Four}
use Rattle.picker.specs.Numbers.{chart_of, number, one, of_chart, of_text, zeros, of_build}
use Rattle.picker.specs.inner.Below.{Below, of_heading}
use Rattle.picker.proofs.Numbers.{first, refused-high}
use Rattle.chart.specs.Compared.{Compared, compared, both_heads, both}
use Rattle.chart.specs.Heads.{Head}
use Rattle.chart.specs.declared.charts.Heads.{Heads}
use Rattle.checker.specs.Promise.{Promise}

-- the code's answer x is y, which fits
pub record Answers (x y : Answer Four) : Type 0 where
  pub is : x ≡ y
  pub fits : FitsOr Below y

module _ {x y : Answer Four} (A : Answers x y) where
  pub packs : FitsOr Below x
  packs = subst (FitsOr Below) (sym A.is) A.fits

  pub makes : {n : ℕ} → n ≡ number x → n ≡ number y
  makes e = e ∙ ap number A.is

-- what the code makes of an answer by a function that gives f
pub made : {A B : Type 0} (f : A → B) (a : Answer A) (x : Answer B) → MatchResult a (λ y. IsOkAnd x (λ z. z ≡ f y)) (λ r. x ≡ Err r) → x ≡ mapped f a
made {B = B} f (Ok y) (Ok z) h = ap (λ (z : B). Ok z) h
made f (Ok y) (Err r) h = absurd h
made f (Err r) x h = h

-- the case that the code comes upon
pub given_below : {x : Answer Four} {f : Four} → x ≡ Ok f → FitsOr Below x → Below f
given_below e h = rw e at h

pub refused-fits : {x : Answer Four} {r : Refusal} → x ≡ Err r → FitsOr Below x → Fits r
refused-fits e h = rw e at h

pub one_below : (n : ℕ) → n < 2 ^ 14 → Below (one n)
one_below n h = record { a = h; b = omega arith; c = omega arith; d = omega arith }

-- ---- a chart that is read
twice : (a : Answer Chart) → mapped of_heading (mapped heading a) ≡ mapped of_chart a
twice (Ok C) = refl
twice (Err r) = refl

pub read_answers : (text table : List ℕ) {x : Answer Four} {h : Answer Heading} → h ≡ mapped heading (read_into text table) → x ≡ mapped of_heading h
    → Answers x (mapped of_chart (read_into text table))
read_answers text table e i =
    record {
      is = i ∙ ap (mapped of_heading) e ∙ twice (read_into text table);
      fits =
          mapped-fits FaultlessChart Below (read_into text table) of_chart (read_fits text table)
          (λ C f. record { a = omega (arith, f.few_places); b = omega (arith, f.few_places, f.alarm_below); c = omega (arith, f.few_rows); d = omega arith });
    }

-- ---- a text that is written
counted : (a : Answer (List ℕ)) → mapped one (mapped length a) ≡ mapped of_text a
counted (Ok t) = refl
counted (Err r) = refl

module _ (places alarm : ℕ) (rows : List ℕ) (lent : ℕ) where
  pub write_answers : places ≤ 4294967295 → alarm ≤ 4294967295 → ((i : ℕ) → get_or rows i 0 ≤ 4294967295) → {x : Answer Four} {b : Answer ℕ}
      → b ≡ mapped length (writing (chart_of places alarm rows) lent) → x ≡ mapped one b → Answers x (mapped of_text (writing (chart_of places alarm rows) lent))
  write_answers p q u e i =
      let C = chart_of places alarm rows in
      record {
        is = i ∙ ap (mapped one) e ∙ counted (writing C lent);
        fits =
            mapped-fits Short Below (writing C lent) of_text (write_fits C lent (u32s (record { places = places; alarm = alarm }) rows p q u))
            (λ t s. one_below (length t) (omega arith));
      }

-- ---- a refusal that may be due
passed : (a : Answer Unit) → mapped (λ (_ : Unit). zeros) a ≡ unless (result_err a) zeros
passed (Ok _) = refl
passed (Err r) = refl

pub due_answers : {p : Option Refusal} → OnSome Fits p → {x : Answer Four} (a : Answer Unit) → result_err a ≡ p → x ≡ mapped (λ (_ : Unit). zeros) a → Answers x (unless p zeros)
due_answers {p} h a e i =
    record { is = i ∙ passed a ∙ ap (λ (o : Option Refusal). unless o zeros) e; fits = unless-fits Below p zeros h (λ _. one_below 0 (omega arith)) }

-- the number is 0 only where none is due
pub none-due : (p : Option Refusal) → OnSome Fits p → number (unless p zeros) ≡ 0 → p ≡ None
none-due None h e = refl
none-due (Some r) h e = absurd (omega (arith, refused-high r h))

-- ---- two charts, whose heads are made of the numbers lent
pub lent_is : (edition : ℕ) (o n : Head) (t u : List ℕ) {h : Heads} → h ≡ both_heads edition o n → compared h t u ≡ both edition (charted o t) (charted n u)
lent_is edition o n t u e = ap (λ (h : Heads). compared h t u) e

pub lent_promise : (edition : ℕ) (o n : Head) (t u : List ℕ) (R : Record) {h : Heads} → h ≡ both_heads edition o n → Promise (compared h t u) R → Promise (both edition (charted o t) (charted n u)) R
lent_promise edition o n t u R e p = subst (λ (X : Compared). Promise X R) (lent_is edition o n t u e) p

-- ---- a build
module _ (X : Compared) (g : Buffers) where
  pub build_answers : {x : Answer Four} {b : Answer Summary} → b ≡ answered X g → x ≡ mapped of_build b → Answers x (mapped of_build (answered X g))
  build_answers e i =
      record {
        is = i ∙ ap (mapped of_build) e;
        fits =
            mapped-fits Small Below (answered X g) of_build (build_fits X g)
            (λ s f. record { a = omega (arith, f.start); b = omega (arith, f.opened); c = omega (arith, f.kept); d = omega (arith, f.covered) });
      }

-- what is below 2^56 tells the start
module _ {b : Answer Summary} {x : Answer Four} (i : x ≡ mapped of_build b) (h : FitsOr Below x) {n : ℕ} (e : n ≡ number x) (l : n < 2 ^ 56) where
  told-start : (P : ℕ → Type 0) → ((s : Summary) → b ≡ Ok s → P s.start) → P (n % 2 ^ 14)
  told-start P f = go b refl i h
    where
      go : (a : Answer Summary) → b ≡ a → x ≡ mapped of_build a → FitsOr Below x → P (n % 2 ^ 14)
      go (Ok s) c i h = let j = e ∙ ap number i in subst P (first (of_build s) (rw i at h) ∙ ap (λ (n : ℕ). n % 2 ^ 14) (sym j)) (f s c)
      go (Err r) c i h = let j = e ∙ ap number i in absurd (omega (arith, refused-high r (rw i at h)))

  module _ (X : Compared) (marks targets sets : List ℕ) where
    pub built_passes : ((s : Summary) → b ≡ Ok s → refusal X (record_of s.start marks targets sets) ≡ None)
        → refusal X (record_of (n % 2 ^ 14) marks targets sets) ≡ None
    built_passes = told-start (λ (k : ℕ). refusal X (record_of k marks targets sets) ≡ None)

    pub built-returned : ((s : Summary) → b ≡ Ok s → Returned X (record_of s.start marks targets sets))
        → Returned X (record_of (n % 2 ^ 14) marks targets sets)
    built-returned = told-start (λ (k : ℕ). Returned X (record_of k marks targets sets))
