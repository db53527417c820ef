-- The refusals of charts fit: they have a number, and a position below 128. Assumes nothing.
use mathlib.Core.Path.{◌≡◌}
use mathlib.Core.Bool.{Bool, ◌&&◌, not}
use Rattle.std.specs.Prelude.{None}
use Prim.Native.Nat.{ℕ, ◌≤◌, ◌<◌}
use native.Mathlib.Omega.{arith}
use borrow.Author.Tests.{ltb-false}
use lib.Dec.{T, ltb}
use Rattle.base.specs.Options.{or_else, first_of}
use Rattle.base.specs.Refusals.{due_in, due}
use Rattle.base.specs.Tests.{within}
use Rattle.base.specs.inner.Fits.{Fits}
use Rattle.base.proofs.Fits.{due-fits}
use Rattle.base.proofs.OnSome.{OnSome, or_on, first_on}
use Rattle.base.proofs.Options.{both-missing, not_due}
use Rattle.base.proofs.Tests.{or_false}
use Rattle.operations.specs.Operations.{is_known, operands_fit}
use Rattle.chart.specs.Charts.{Chart, size, operation}
use Rattle.chart.specs.Compared.{Compared, edition_named}
use Rattle.chart.specs.Faults.{lacks, exceeds, alarm_outside, strays, descends, conflicts, whole, count_fault, alarm_fault, row_fault, conflict_fault, rows_fault, fault, refusal, judged}

module _ (k : ℕ) (near : k < 2) where
  -- due at a row
  row-due : (b : Bool) (n i : ℕ) → T (within 1 255 n) → i < 128 → OnSome Fits (due_in k b n i)
  row-due b n i t h = due-fits k b n i t (omega arith) (omega arith)

  -- due without a position
  whole-due : (b : Bool) (n : ℕ) → T (within 1 255 n) → OnSome Fits (due_in k b n 0)
  whole-due b n t = row-due b n 0 t (omega arith)

  module _ (C : Chart) where
    few_rows : count_fault k C ≡ None → size C.table ≤ 128
    unfolding count_fault
    few_rows e =
        let a = both-missing (due_in k (lacks C) 1 0) _ e in
        ltb-false _ _ (or_false (ltb 64 C.head.places) _ (not_due _ _ a.1)).1

    row_fits : (i : ℕ) → i < 128 → OnSome Fits (row_fault k C i)
    unfolding row_fault
    row_fits i h =
        let unknown = not (is_known (operation C.table i)) in
        let unfit = not (operands_fit (operation C.table i)) in
        or_on Fits (due_in k (strays C i) 4 i) _ (row-due (strays C i) 4 i tt h)
        (λ _. or_on Fits (due_in k (descends C.table i) 5 i) _ (row-due (descends C.table i) 5 i tt h)
        (λ _. or_on Fits (due_in k unknown 6 i) (due_in k unfit 7 i) (row-due unknown 6 i tt h) (λ _. row-due unfit 7 i tt h)))

    rows_fit : size C.table ≤ 128 → OnSome Fits (rows_fault k C)
    unfolding rows_fault conflict_fault
    rows_fit h =
        or_on Fits (first_of (size C.table) (row_fault k C)) (first_of (size C.table) (conflict_fault k C.table))
        (first_on Fits (size C.table) (row_fault k C) (λ i l. row_fits i (omega arith)))
        (λ _. first_on Fits (size C.table) (conflict_fault k C.table) (λ i l. row-due (conflicts C.table i) 8 i tt (omega arith)))

    pub fault-fits : OnSome Fits (fault k C)
    unfolding fault count_fault alarm_fault
    fault-fits =
        or_on Fits (count_fault k C) (or_else (alarm_fault k C) (rows_fault k C))
        (or_on Fits (due_in k (lacks C) 1 0) (due_in k (exceeds C) 2 0) (whole-due (lacks C) 1 tt) (λ _. whole-due (exceeds C) 2 tt))
        (λ e. or_on Fits (alarm_fault k C) (rows_fault k C) (whole-due (alarm_outside C.head) 3 tt) (λ _. rows_fit (few_rows e)))

-- whatever a chart is refused by
pub refusal-fits : (C : Chart) → OnSome Fits (refusal C)
unfolding refusal
refusal-fits C =
    let ragged = not (whole C.table) in
    or_on Fits (due ragged 21 0) (fault 0 C) (whole-due 0 (omega arith) ragged 21 tt) (λ _. fault-fits 0 (omega arith) C)

-- whatever two charts are refused by
pub judged-fits : (lent : Bool) (X : Compared) → OnSome Fits (judged lent X)
unfolding judged
judged-fits lent X =
    let lengths = not (lent && (edition_named X.edition && (whole X.old.table && whole X.new.table))) in
    or_on Fits (due lengths 21 0) (or_else (fault 0 X.old) (fault 1 X.new)) (whole-due 0 (omega arith) lengths 21 tt)
    (λ _. or_on Fits (fault 0 X.old) (fault 1 X.new) (fault-fits 0 (omega arith) X.old) (λ _. fault-fits 1 (omega arith) X.new))
