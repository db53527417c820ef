-- Of two charts that were read the new table has at most 768 entries. Assumes nothing.
use mathlib.Core.Path.{◌≡◌, sym, ap}
use mathlib.Core.List.{List}
use Prim.Native.Nat.{ℕ}
use native.Mathlib.Omega.{arith}
use lib.ListN.{take}
use lib.Seq.{take_all}
use Rattle.base.specs.Answers.{Answer}
use Rattle.std.specs.Prelude.{Ok, Err}
use Rattle.base.proofs.Answers.{different}
use Rattle.chart.specs.Charts.{Chart}
use Rattle.chart.specs.Compared.{Compared}
use Rattle.chart.proofs.Faultless.{faultless}
use Rattle.text.specs.Texts.{read_text}
use Rattle.text.proofs.Theorems.{read_exactly}
use Rattle.report.specs.Printed.{both_of, both_read}

-- both charts were read
new_in : Compared → Answer Compared → Chart
new_in X (Ok Q) = Q.new
new_in X (Err r) = X.new

new-given : (edition : ℕ) (a b : Answer Chart) (X : Compared) → both_of edition a b ≡ Ok X → b ≡ Ok X.new
unfolding both_of new_in
new-given edition (Ok O) (Ok N) X e = ap (λ (C : Chart). Ok C) (ap (new_in X) e)
new-given edition (Ok O) (Err r) X e = absurd (different (sym e))
new-given edition (Err r) b X e = absurd (different (sym e))

-- the portions are those of the whole table
pub whole-table : (edition : ℕ) (old new : List ℕ) (X : Compared) → both_read edition old new ≡ Ok X → take 768 X.new.table ≡ X.new.table
unfolding both_read
whole-table edition old new X e =
    let q = new-given edition (read_text old) (read_text new) X e in
    let C = X.new in
    let f = faultless C ((read_exactly C new).0 q).faultless in
    take_all 768 C.table (omega (arith, f.whole, f.few_rows))
