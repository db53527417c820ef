-- The portions, put together, are what the program prints.
-- Assumes nothing.
use mathlib.Core.Path.{◌≡◌, refl, sym, ap, ap₂, ◌∙◌}
use mathlib.Core.List.{List, [], ◌∷◌, ◌++◌}
use mathlib.Core.Logic.{dite}
use Prim.Native.Nat.{ℕ, ◌+◌}
use native.Mathlib.Decide.{dec_lt}
use native.Mathlib.Omega.{arith}
use lib.ListN.{length, take}
use lib.Seq.{take_all, slice}
use Rattle.std.specs.Prelude.{Ok, Err}
use Rattle.base.specs.declared.Refusal.{Refusal}
use Rattle.text.specs.Texts.{read_text}
use Rattle.text.proofs.Theorems.{cut_text}
use Rattle.condition.specs.Builds.{recorded, summary}
use Rattle.records.specs.Records.{Graph, graph_of, read_target}
use Rattle.report.specs.Lines.{refusal_line}
use Rattle.report.specs.Transitions.{of_pair, of_pairs, remaining}
use Rattle.report.specs.Printed.{both_read, program_edition, summary_line, transitions, condition, condition_of, printed_in, printed}
use Rattle.report.proofs.Going.{remaining_end}
use Rattle.report.proofs.Lengths.{whole-table}
use Rattle.report.specs.Portions.{Front, Portions, last, more}
use Rattle.chart.specs.Compared.{Compared}

pub portions_are : (t : List ℕ) (G : Graph) {n : ℕ} {out : List ℕ} → Portions t G n out → out ≡ remaining t G n
portions_are t G {n} (last h) = sym (remaining_end t G n h)
portions_are t G (more h p ps) = ap₂ (λ (x y : List ℕ). x ++ y) p.front.is (portions_are t G ps) ∙ p.rest

-- no set is looked at
without-sets : (t : List ℕ) (G : Graph) (n : ℕ) (ms : List ℕ) → of_pairs t (graph_of G.marks G.targets []) n ms ≡ of_pairs t G n ms
unfolding of_pairs of_pair read_target
without-sets t G n [] = refl
without-sets t G n (m ∷ ms) = ap (λ (l : List ℕ). of_pair t G n m ++ l) (without-sets t G (n + 1) ms)

module _ (old new : List ℕ) where
  -- a refusal is printed by its record alone
  pub refusal-printed : (r : Refusal) → both_read program_edition old new ≡ Err r → refusal_line r ≡ printed old new
  unfolding printed printed_in
  refusal-printed r e = rw e

  -- a condition is printed by its first record and then the portions from pair 0 on
  pub condition-printed : (X : Compared) → both_read program_edition old new ≡ Ok X
      → (before after : List ℕ) (r : ℕ) → Front before (summary_line (summary (recorded X).start (recorded X).graph.marks)) after r
      → {out : List ℕ} → Portions (take 768 X.new.table) (graph_of (recorded X).graph.marks (recorded X).graph.targets []) 0 out
      → take r after ++ out ≡ printed old new
  unfolding printed printed_in condition_of condition transitions remaining
  condition-printed X e before after r f ps =
      let R = recorded X in
      let all = portions_are (take 768 X.new.table) (graph_of R.graph.marks R.graph.targets []) ps in
      let same = all ∙ without-sets (take 768 X.new.table) R.graph 0 (slice 0 4096 R.graph.marks) in
      rw e (ap₂ (λ (x y : List ℕ). x ++ y) f.is (same ∙ ap (λ (t : List ℕ). remaining t R.graph 0) (whole-table program_edition old new X e)))

-- "at most 16,384 bytes" of a file say as much as all of it
cut_read : (text : List ℕ) → read_text (take 16384 text) ≡ read_text text
cut_read text =
    dite (dec_lt 16384 (length text)) (λ h. sym (cut_text text h)) (λ h. ap read_text (take_all 16384 text (omega arith)))

pub printed_cut : (old new : List ℕ) → printed (take 16384 old) (take 16384 new) ≡ printed old new
unfolding printed printed_in both_read
printed_cut old new = rw (cut_read old, cut_read new)
