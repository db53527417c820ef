-- Row i of the new chart at a pair whose new place it leaves: which of the place's two it is, its target, and the rule
-- for it. Assumes nothing.
use Rattle.std.proofs.Common.{◌≡◌, ℕ, ◌%◌, ◌<◌, true, false, not, ◌≢◌, sym, ap, ◌∙◌, subst, subst₂, arith}
use Rattle.base.specs.Says.{Says}
use Rattle.operations.specs.declared.Operation.{Operation}
use Rattle.operations.specs.Trials.{never_holds}
use Rattle.chart.specs.Charts.{Chart, size, from, to, operation, can_be_taken, leaving}
use Rattle.chart.specs.Compared.{Compared}
use Rattle.chart.specs.Faultless.{FaultlessChart}
use Rattle.chart.proofs.Parts.{before, stands, same_row, two_at_most}
use Rattle.chart.proofs.Takable.{by_test}
use Rattle.chart.proofs.Words.{Words}
use Rattle.records.specs.Records.{Graph, Record, mark, target, read_target, target_of}
use Rattle.records.proofs.Reading.{read_other}
use Rattle.checker.specs.Rules.{ranked, leads, row_fits}
use Rattle.checker.proofs.Passed.{Passed}

module _ (new : Chart) (m i : ℕ) (inside : i < size new.table) (leaves : from new.table i ≡ m % 64) where
  -- so many rows of the pair's new place stand before it
  abbrev pub earlier : ℕ
  earlier = before new.table (m % 64) i

  pub earlier_two : FaultlessChart new → Words new.table → earlier < 2
  earlier_two F words = omega (arith, stands new.table (m % 64) i inside leaves, two_at_most new F words.small (m % 64))

  module _ (can : never_holds (operation new.table i) ≡ false) where
    pub can_there : can_be_taken (leaving new.table (m % 64)) earlier ≡ true
    can_there =
        by_test (leaving new.table (m % 64)) earlier (stands new.table (m % 64) i inside leaves)
        ∙ ap not (ap never_holds (same_row new.table (m % 64) i inside leaves).operation-same ∙ can)

    -- readers take what the record has
    pub read_there : (G : Graph) → target_of new G m i ≡ target G m earlier
    read_there G =
        ap (λ (p : ℕ). read_target new.table G m (before new.table p i)) leaves
        ∙ read_other new.table G m earlier (ap never_holds (same_row new.table (m % 64) i inside leaves).operation-same ∙ can)

-- the rule for its target, if it can be taken
module _ (X : Compared) (words : Words X.new.table) (R : Record) (ok : Passed X R) where
  pub rule : (m i : ℕ) → m < 4096 → mark R.graph m ≢ 0 → i < size X.new.table → from X.new.table i ≡ m % 64 → never_holds (operation X.new.table i) ≡ false
      → Says (leads X R.graph m (operation X.new.table i) (record { 0 = to X.new.table i }) (target_of X.new R.graph m i))
      × Says (ranked R.graph.marks m (target_of X.new R.graph m i))
  unfolding row_fits
  rule m i l n u e c =
      let G = R.graph in
      let t = X.new.table in
      let k = earlier X.new m i u e in
      let S = same_row t (m % 64) i u e in
      let b = sym (read_there X.new m i u e c G) in
      let q = ok.rules m k l n (earlier_two X.new m i u e ok.new-faultless words) (can_there X.new m i u e c) in (
        subst (λ (x : ℕ). Says (leads X G m (operation t i) (record { 0 = to t i }) x)) b
            (subst₂ (λ (o : Operation) (p : ℕ). Says (leads X G m o (record { 0 = p }) (target G m k))) S.operation-same S.to_same q.0),
        subst (λ (x : ℕ). Says (ranked G.marks m x)) b q.1,
      )
