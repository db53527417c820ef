-- What a reader takes for a target: 65535 where the row never holds, else what the record has; so that of two records
-- which differ only there the same is read. Assumes nothing.
use mathlib.Core.Path.{◌≡◌, sym, ap, ◌∙◌}
use mathlib.Core.Bool.{true, false, cond}
use mathlib.Core.List.{List}
use mathlib.Core.Logic.{◌⊎◌, inl, inr}
use Prim.Native.Nat.{ℕ, ◌<◌}
use lib.ListN.{get_or}
use Rattle.operations.specs.Trials.{never_holds}
use Rattle.chart.specs.Charts.{operation, leaving}
use Rattle.chart.specs.Places.{new_of}
use Rattle.records.specs.Records.{Graph, graph_of, index, target, read_target}

module _ (t : List ℕ) (G : Graph) (m k : ℕ) where
  pub read_never : never_holds (operation (leaving t (new_of m).0) k) ≡ true → read_target t G m k ≡ 65535
  unfolding read_target
  read_never e = rw e

  pub read_other : never_holds (operation (leaving t (new_of m).0) k) ≡ false → read_target t G m k ≡ target G m k
  unfolding read_target
  read_other e = rw e

-- the targets ts and ts' of two records differ only at rows, of the new table t, that never hold
abbrev pub ButNever : List ℕ → List ℕ → List ℕ → Type 0
ButNever t ts ts' =
    (m k : ℕ) → m < 4096 → k < 2
    → (get_or ts (index m k) 0 ≡ get_or ts' (index m k) 0) ⊎ (never_holds (operation (leaving t (new_of m).0) k) ≡ true)

module _ (t marks marks' sets sets' ts ts' : List ℕ) (alike : ButNever t ts ts') where
  pub same_read : (m k : ℕ) → m < 4096 → k < 2 → read_target t (graph_of marks ts sets) m k ≡ read_target t (graph_of marks' ts' sets') m k
  unfolding read_target
  same_read m k l u =
      elim (alike m k l u) [
        | inl e ↦ ap (cond (never_holds (operation (leaving t (new_of m).0) k)) 65535) e
        | inr n ↦ read_never t (graph_of marks ts sets) m k n ∙ sym (read_never t (graph_of marks' ts' sets') m k n)
      ]
