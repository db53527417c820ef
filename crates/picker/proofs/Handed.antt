-- A part that the lookup hands back fits 12 entries, and what is answered of it.
-- Assumes nothing.
use mathlib.Core.Path.{◌≡◌, refl, sym, ap, ◌∙◌}
use mathlib.Core.Bool.{Bool, true, false, cond}
use mathlib.Core.List.{List, [], ◌++◌}
use Prim.Native.Nat.{ℕ, ◌/◌, ◌^◌, ◌≤◌, ◌<◌}
use native.Mathlib.Omega.{arith}
use borrow.Author.Tests.{eq-eqb, ne_eqb}
use lib.Dec.{eqb, ltb}
use lib.ListN.{length, get_or, drop}
use Rattle.std.specs.Prelude.{Ok, Err}
use Rattle.base.specs.Chains.{mapped}
use Rattle.base.specs.Options.{missing}
use Rattle.base.specs.declared.Refusal.{Refusal}
use Rattle.base.specs.Refusals.{sole}
use Rattle.base.specs.inner.Fits.{Fits}
use Rattle.base.proofs.Fits.{named_fits}
use Rattle.base.proofs.Options.{missing-none}
use Rattle.base.proofs.Tests.{and_true}
use Rattle.chart.specs.Charts.{Chart, size, leaving}
use Rattle.chart.specs.Compared.{Compared}
use Rattle.chart.specs.Faults.{refusal}
use Rattle.chart.specs.Lookup.{open_to, lookup}
use Rattle.chart.proofs.Faultless.{faultless}
use Rattle.chart.proofs.Parts.{whole, two_at_most}
use Rattle.picker.specs.declared.Four.{Four}
use Rattle.picker.specs.Numbers.{number, one}
use Rattle.picker.specs.Lookups.{looked_up, handed, of_rows}
use Rattle.picker.specs.inner.Below.{Below}
use Rattle.picker.proofs.Answers.{one_below}

-- the refusal of another length than 12
pub length-fits : {r : Refusal} → r ≡ sole 21 0 → Fits r
length-fits e = rw e (named_fits 21 0 0 tt (omega arith) (omega arith))

-- the entries of a lent table are u32
abbrev Words : Chart → Type 0
Words C = (k : ℕ) → get_or C.table k 0 < 2 ^ 32

-- the rows of a place of a faultless chart: two at most, of six entries each
opened_short : (C : Chart) → Words C → (p : ℕ) → open_to C p ≡ true → length (leaving C.table p) ≤ 12
unfolding open_to leaving
opened_short C w p e =
    let F = faultless C (missing-none (refusal C) (and_true (missing (refusal C)) (ltb p C.head.places) e).0) in
    omega (arith, two_at_most C F w p, whole C.table p (size C.table) (omega arith))

open_short : (C : Chart) → Words C → (p : ℕ) (b : Bool) → open_to C p ≡ b → length (cond b (leaving C.table p) []) ≤ 12
open_short C w p true e = opened_short C w p e
open_short C w p false e = omega arith

module _ (X : Compared) (chart p : ℕ) where
  short : Words X.old → Words X.new → length (lookup X chart p) ≤ 12
  unfolding lookup
  short v w = go (eqb chart 0) (eqb chart 1)
    where
      go : (a b : Bool) → length (cond a (cond (open_to X.old p) (leaving X.old.table p) []) (cond b (cond (open_to X.new p) (leaving X.new.table p) []) [])) ≤ 12
      go true b = open_short X.old v p (open_to X.old p) refl
      go false true = open_short X.new w p (open_to X.new p) refl
      go false false = omega arith

  pub part_short : {part : List ℕ} → Words X.old → Words X.new → part ≡ lookup X chart p → length part ≤ 12
  part_short v w e = rw e (short v w)

  pub part_below : {part : List ℕ} {f : Four} → Words X.old → Words X.new → part ≡ lookup X chart p → f ≡ one (length part / 6) → Below f
  part_below {part} v w e i = rw i (one_below (length part / 6) (omega (arith, part_short v w e)))

  module _ (rows : List ℕ) where
    refused_21 : (length rows ≡ 12 → ⊥) → looked_up X chart p rows ≡ Err (sole 21 0)
    unfolding looked_up
    refused_21 n = rw (ne_eqb (length rows) 12 n, looked_up)

    given_part : length rows ≡ 12 → looked_up X chart p rows ≡ Ok (lookup X chart p)
    unfolding looked_up
    given_part e = rw (eq-eqb (length rows) 12 e, looked_up)

    -- another length than 12
    pub length-refused : {x : ℕ} {r : Refusal} → (length rows ≡ 12 → ⊥) → r ≡ sole 21 0 → x ≡ number (Err r)
        → (x ≡ number (mapped of_rows (looked_up X chart p rows))) × (rows ≡ handed (looked_up X chart p rows) rows)
    unfolding handed
    length-refused n i e = rw (refused_21 n) (e ∙ ap (λ (r : Refusal). number (Err r)) i, refl)

    pub part_handed : {part after : List ℕ} {f : Four} {x : ℕ} → length rows ≡ 12 → part ≡ lookup X chart p → after ≡ part ++ drop (length part) rows
        → f ≡ one (length part / 6) → x ≡ number (Ok f)
        → (x ≡ number (mapped of_rows (looked_up X chart p rows))) × (after ≡ handed (looked_up X chart p rows) rows)
    unfolding handed
    part_handed e i h j k = rw (given_part e, sym i) (k ∙ ap (λ (f : Four). number (Ok f)) j, h)
