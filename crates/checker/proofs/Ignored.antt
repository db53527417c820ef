-- "A new row that never holds [..] refusal 32 ignores its target, and readers of a record take 65535 there" (document
-- 02, #101): two records that differ only in such targets are judged and followed alike. Assumes nothing.
use Rattle.std.proofs.Common.{◌≡◌, ℕ, ◌<◌, Bool, true, false, not, ◌&&◌, eqb, List, [], ◌∷◌, length, get_or, sym, refl, ap, ◌∙◌, inl, inr, arith, le-ltb}
use mathlib.Core.Logic.{dite}
use Rattle.std.specs.Prelude.{Option, None}
use native.Mathlib.Decide.{dec_lt}
use Rattle.base.specs.Lists.{any}
use Rattle.base.specs.Options.{when, or_else}
use Rattle.base.specs.Says.{◌and◌, Says, bool}
use Rattle.base.proofs.Lists.{All}
use Rattle.base.proofs.Options.{first-same}
use Rattle.base.proofs.Tests.{T_true}
use Rattle.chart.specs.Charts.{Chart, size, from, to, operation, can_be_taken, leaving}
use Rattle.chart.specs.Compared.{Compared, heads_of}
use Rattle.chart.specs.Faultless.{FaultlessChart}
use Rattle.chart.specs.Places.{new_of}
use Rattle.chart.proofs.Parts.{stands, two_at_most}
use Rattle.chart.proofs.Takable.{takable}
use Rattle.chart.proofs.Words.{Words}
use Rattle.records.specs.Records.{Graph, Record, graph_of, record_of, mark, index, rank, target_of}
use Rattle.records.proofs.Reading.{ButNever, same_read}
use Rattle.checker.specs.Following.{goes_on, nodes, covered}
use Rattle.checker.specs.Rules.{targets_fit, shaped, start_fits, ranked, leads, row_fits}
use Rattle.checker.specs.Checks.{target_fault, rows_fault, pair_fault, broken, rule_fault, record_fault, refusal}
use Rattle.checker.proofs.Demand3.{three}
use Rattle.checker.proofs.Passes.{met}

-- ---- the check
-- two records with the same start, marks and sets
module _ (X : Compared) (s : ℕ) (marks sets ts ts' : List ℕ) where
  abbrev R : Record
  R = record_of s marks ts sets

  abbrev R' : Record
  R' = record_of s marks ts' sets

  module _ (alike : ButNever X.new.table ts ts') where
    -- they are the same at rows that can be taken
    same-there : (m k : ℕ) → m < 4096 → k < 2 → can_be_taken (leaving X.new.table (new_of m).0) k ≡ true → get_or ts (index m k) 0 ≡ get_or ts' (index m k) 0
    same-there m k l u c =
        elim (alike m k l u) [ inl e ↦ e | inr n ↦ absurd (T_true (sym (takable (leaving X.new.table (new_of m).0) k c).1 ∙ n)) ]

    same_target : (m k : ℕ) → m < 4096 → k < 2 → target_fault X R.graph m (leaving X.new.table (new_of m).0) k ≡ target_fault X R'.graph m (leaving X.new.table (new_of m).0) k
    unfolding target_fault row_fits leads
    same_target m k l u = go (can_be_taken rows k) refl
      where
        rows : List ℕ
        rows = leaving X.new.table (new_of m).0

        fits : ℕ → Bool
        fits t = bool (leads X R.graph m (operation rows k) (record { 0 = to rows k }) t and ranked marks m t)

        go : (b : Bool) → can_be_taken rows k ≡ b → when (b && not (bool (row_fits X R.graph m rows k))) (index m k) ≡ when (b && not (bool (row_fits X R'.graph m rows k))) (index m k)
        go true e = ap (λ (t : ℕ). when (not (fits t)) (index m k)) (same-there m k l u e)
        go false e = refl

    same-pair : (m : ℕ) → m < 4096 → pair_fault X R.graph m ≡ pair_fault X R'.graph m
    unfolding pair_fault rows_fault
    same-pair m l =
        let both : rows_fault X R.graph m (leaving X.new.table (new_of m).0) ≡ rows_fault X R'.graph m (leaving X.new.table (new_of m).0) = rw (same_target m 0 l (omega arith), same_target m 1 l (omega arith)) in
        ap (λ (o : Option ℕ). elim (eqb (mark R.graph m) 0) as (λ _. Option ℕ) [ true ↦ None | false ↦ o ]) both

    same-broken : broken X R ≡ broken X R'
    unfolding broken
    same-broken =
        ap (or_else (when (not (bool (start_fits (heads_of X) s marks))) 8192))
        (first-same (pair_fault X R.graph) (pair_fault X R'.graph) 4096 same-pair)

    -- "refusal 32 ignores its target": where all targets fit 31, the same refusal is due, or none
    pub ignored_by_check : length ts ≡ length ts' → Says (targets_fit ts) → Says (targets_fit ts') → refusal X R ≡ refusal X R'
    unfolding refusal record_fault rule_fault shaped
    ignored_by_check e f f' = rw (e, same-broken, met (targets_fit ts) f, met (targets_fit ts') f')

-- ---- following
-- whatever the targets are that differ, each list of rows of a faultless chart is covered by both or by neither
module _ (new : Chart) (F : FaultlessChart new) (words : Words new.table) (marks sets ts ts' : List ℕ) (alike : ButNever new.table ts ts') where
  abbrev G : Graph
  G = graph_of marks ts sets

  abbrev G' : Graph
  G' = graph_of marks ts' sets

  first_or_second : (i : ℕ) → i < size new.table → rank new.table i < 2
  first_or_second i l =
      let p = from new.table i in
      omega (arith, stands new.table p i l refl, two_at_most new F words.small p)

  same_nodes : (is : List ℕ) → All (λ i. i < size new.table) is → (n : ℕ) → nodes new G n is ≡ nodes new G' n is
  unfolding nodes
  same_nodes [] a n = refl
  same_nodes (i ∷ is) a n =
      dite (dec_lt n 4096)
      (λ l. ap (λ (is : List ℕ). n ∷ is) (go (same_nodes is a.1) (bool (goes_on G n (target_of new G n i))) ∙ ap (later G') (same_read new.table marks marks sets sets ts ts' alike n (rank new.table i) l (first_or_second i a.0))))
      (λ l. rw (le-ltb n 4096 (omega arith)))
    where
      later : Graph → ℕ → List ℕ
      later H x = elim (bool (goes_on G n x)) [ true ↦ nodes new H x is | false ↦ [] ]

      go : ((n : ℕ) → nodes new G n is ≡ nodes new G' n is) → (b : Bool)
          → ◌≡◌ {A = List ℕ} (elim b [ true ↦ nodes new G (target_of new G n i) is | false ↦ [] ]) (elim b [ true ↦ nodes new G' (target_of new G n i) is | false ↦ [] ])
      go rec true = rec (target_of new G n i)
      go rec false = refl

  pub ignored_by_following : (s : ℕ) (is : List ℕ) → All (λ i. i < size new.table) is
      → covered new (record_of s marks ts sets) is ≡ covered new (record_of s marks ts' sets) is
  unfolding covered
  ignored_by_following s is a = ap (any (three G)) (same_nodes is a s)
