-- The refusals of the check fit: a position is at most 8,192. Assumes nothing.
use Rattle.std.proofs.Common.{ℕ, ◌^◌, ◌<◌, Bool, true, false, not, ◌&&◌, eqb, List, arith}
use Rattle.std.specs.Prelude.{Option, None, Some}
use Rattle.base.specs.Options.{when, first_of}
use Rattle.base.specs.Refusals.{due}
use Rattle.base.specs.Says.{bool}
use Rattle.base.specs.inner.Fits.{Fits}
use Rattle.base.proofs.Fits.{named_fits, due-fits}
use Rattle.base.proofs.OnSome.{OnSome, when_on, or_on, first_on}
use Rattle.chart.specs.Charts.{can_be_taken, leaving}
use Rattle.chart.specs.Compared.{Compared, heads_of}
use Rattle.chart.specs.Faults.{judged}
use Rattle.chart.specs.Places.{new_of}
use Rattle.chart.proofs.Bounds.{judged-fits}
use Rattle.records.specs.Records.{Graph, Record, mark, index}
use Rattle.checker.specs.Rules.{shaped, start_fits, row_fits}
use Rattle.checker.specs.Checks.{sized, rule_at, target_fault, rows_fault, pair_fault, broken, rule_fault, record_fault, refusal}

-- a position
abbrev Near : ℕ → Type 0
Near i = i < 2 ^ 32

module _ (X : Compared) (G : Graph) where
  target-near : (m : ℕ) (rows : List ℕ) (k : ℕ) → m < 4096 → k < 2 → OnSome Near (target_fault X G m rows k)
  unfolding target_fault
  target-near m rows k l h = when_on Near (can_be_taken rows k && not (bool (row_fits X G m rows k))) (index m k) (omega arith)

  rows-near : (m : ℕ) (rows : List ℕ) → m < 4096 → OnSome Near (rows_fault X G m rows)
  unfolding rows_fault
  rows-near m rows l =
      or_on Near (target_fault X G m rows 0) (target_fault X G m rows 1) (target-near m rows 0 l (omega arith))
      (λ _. target-near m rows 1 l (omega arith))

  pair-near : (m : ℕ) → m < 4096 → OnSome Near (pair_fault X G m)
  unfolding pair_fault
  pair-near m l = go (eqb (mark G m) 0)
    where
      go : (b : Bool) → OnSome Near (elim b as (λ _. Option ℕ) [ true ↦ None | false ↦ rows_fault X G m (leaving X.new.table (new_of m).0) ])
      go true = tt
      go false = rows-near m (leaving X.new.table (new_of m).0) l

rule_fits : (o : Option ℕ) → OnSome Near o → OnSome Fits (rule_at o)
rule_fits None h = tt
rule_fits (Some i) h = named_fits 32 0 i tt (omega arith) h

module _ (X : Compared) (R : Record) where
  broken-near : OnSome Near (broken X R)
  unfolding broken
  broken-near =
      let starts = not (bool (start_fits (heads_of X) R.start R.graph.marks)) in
      or_on Near (when starts 8192) (first_of 4096 (pair_fault X R.graph)) (when_on Near starts 8192 (omega arith))
      (λ _. first_on Near 4096 (pair_fault X R.graph) (λ m l. pair-near X R.graph m l))

  record_fits : OnSome Fits (record_fault X R)
  unfolding record_fault rule_fault
  record_fits =
      let shape = not (bool (shaped (heads_of X) R.start R.graph.marks R.graph.targets)) in
      or_on Fits (due shape 31 0) (rule_fault X R) (due-fits 0 shape 31 0 tt (omega arith) (omega arith))
      (λ _. rule_fits (broken X R) broken-near)

  -- whatever the check refuses
  pub refusal-fits : OnSome Fits (refusal X R)
  unfolding refusal
  refusal-fits =
      let lent = bool (sized R.graph) in
      or_on Fits (judged lent X) (record_fault X R) (judged-fits lent X) (λ _. record_fits)
