-- A row that never holds, like one that is not there, has target 65535 in every record that is built. Assumes nothing.
use mathlib.Core.Path.{◌≡◌, refl, ap, ◌∙◌}
use mathlib.Core.Bool.{Bool, true, false, not}
use mathlib.Core.Logic.{inr}
use Prim.Native.Nat.{ℕ, ◌<◌}
use native.Mathlib.Omega.{arith}
use Rattle.base.proofs.Walks.{same_at}
use Rattle.operations.specs.Trials.{never_holds}
use Rattle.chart.specs.Charts.{size, operation, can_be_taken}
use Rattle.chart.specs.Compared.{Compared, heads_of}
use Rattle.chart.specs.Faultless.{FaultlessChart}
use Rattle.chart.proofs.Takable.{by_test}
use Rattle.records.specs.Records.{index, target}
use Rattle.detector.specs.Turns.{rows_of, explored}
use Rattle.detector.proofs.Invariant.{explored_inv}
use Rattle.condition.specs.Builds.{alone, recorded}
use Rattle.condition.proofs.Left.{far, target_at_lem, recorded-lone, recorded_joint}

module _ (X : Compared) (F : FaultlessChart X.old) (H : FaultlessChart X.new) (i k : ℕ) (b : i < 4096) (c : k < 2) where
  -- where the start is the lone kept node all targets are; else none was stored, and redirecting leaves it
  pub unused_row : can_be_taken (rows_of X.new i) k ≡ false → target (recorded X).graph i k ≡ 65535
  unused_row u = go (alone (heads_of X) (explored X).marks) refl
    where
      go : (d : Bool) → alone (heads_of X) (explored X).marks ≡ d → target (recorded X).graph i k ≡ 65535
      go true e = rw (recorded-lone X e) (same_at 8192 65535 (index i k) (omega arith))
      go false e =
          rw (recorded_joint X e)
          (target_at_lem X F H e i k b c ∙ rw ((explored_inv X F H).unused i k b c (inr u)) (far (explored X).marks 65535 (omega arith)))

  pub unused_never : k < size (rows_of X.new i) → never_holds (operation (rows_of X.new i) k) ≡ true → target (recorded X).graph i k ≡ 65535
  unused_never l n = unused_row (by_test (rows_of X.new i) k l ∙ ap not n)
