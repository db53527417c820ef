-- Lines 5 to 18 of the source's Algorithm 2, line by line: what PROCESS is called with for a pair (ℓ_1, ℓ'_1), V_δ of
-- the pair and an edge of the new chart with operation op', in the source's own words: edges of G, members of sets,
-- values that meet an assumption. Where several old edges match in line 15 the source takes any; document 01 seeks "the
-- old row at p whose operation is equal; failing that, [..] the old assumption at p that it implies". In a faultless
-- chart no two edges of a place match: the aligned step is an outcome of these lines (proofs/Stepping.antt), and the
-- only one (proofs/Outcomes.antt). "Edition 2 is compared with Algorithm 2 plus these footnotes" (document 02, #104):
-- footnote 6 stands beside line 10.
use Rattle.std.specs.Prelude.{◌≡◌, true, false, ◌⊎◌, ◌≢◌, ◌↔◌, ℕ, ◌<◌, eqb, Option, None, Some}
use Rattle.operations.specs.declared.Operation.{Operation}
use Rattle.operations.specs.Assumptions.{NeverHolds, Implies}
use Rattle.operations.specs.Operations.{is_assignment}
use Rattle.chart.specs.declared.places.OldPlace.{OldPlace}
use Rattle.chart.specs.Compared.{Compared}
use Rattle.chart.specs.Charts.{size, from, operation}
use Rattle.chart.specs.Charts as charts
use Rattle.align.specs.declared.spots.Spot.{Spot}
use Rattle.sets.specs.Sets.{bit}
use Rattle.align.specs.Reads.{read_set}
use Rattle.paper.specs.Nodes.{SetOf, ◌is_in◌, empty_set, ◌plus◌}

-- ---- sets of the variables v0 to v63: "bit i for vi"
abbrev pub Has : ℕ → ℕ → Type 0
Has s i = bit s i ≡ 1

-- s ∩ t ≠ ∅
pub record Meet (s t : ℕ) : Type 0 where
  pub variable : ℕ
  pub below : variable < 64
  pub first : Has s variable
  pub second : Has t variable

-- t is s ∪ {v}, as in lines 7, 10 and 14. {a} is what an assignment writes (wrt), `read_set` what is read (rd)
abbrev pub IsWith : ℕ → ℕ → ℕ → Type 0
IsWith s v t = (i : ℕ) → Has t i ↔ (Has s i ⊎ (i ≡ v))

-- t is s \ {v}, as in line 8
abbrev pub IsWithout : ℕ → ℕ → ℕ → Type 0
IsWithout s v t = (i : ℕ) → Has t i ↔ (Has s i × (i ≢ v))

-- {ℓ}, of the places that lines 12 to 14 come to
unfoldable pub only_old : OldPlace → SetOf OldPlace
only_old p q = eqb p.0 q.0

module _ (X : Compared) where
  -- (ℓ, op, ℓ_2) ∈ G: a row of the old chart
  pub record InG (ℓ : OldPlace) (op : Operation) (ℓ₂ : OldPlace) : Type 0 where
    pub row : ℕ
    pub there : row < size X.old.table
    pub from : from X.old.table row ≡ ℓ.0
    pub operation : operation X.old.table row ≡ op
    pub to : charts.to X.old.table row ≡ ℓ₂.0

  -- the test of line 13: ℓ_p ≠ ℓ_err ∧ ∃ (ℓ_p, op_a, ℓ_s) ∈ G : op_a is assignment
  pub record Line13 (ℓₚ : OldPlace) (opₐ : Operation) (ℓₛ : OldPlace) : Type 0 where
    pub not_err : ℓₚ.0 ≢ X.old.head.alarm
    pub edge : InG ℓₚ opₐ ℓₛ
    pub assignment : is_assignment opₐ ≡ true

  -- lines 12 to 14: ℓ_p and V_diff after some turns of the loop, and the places where ℓ_p has been before
  pub data Loop (ℓ₁ : OldPlace) (Vδ : ℕ) : SetOf OldPlace → OldPlace → ℕ → Type 0 where
    line12 : Loop ℓ₁ Vδ empty_set ℓ₁ Vδ
    line14 : {been : SetOf OldPlace} {ℓₚ ℓₛ : OldPlace} {Vdiff Vdiff' : ℕ} {opₐ : Operation}
        → Loop ℓ₁ Vδ been ℓₚ Vdiff → Line13 ℓₚ opₐ ℓₛ → IsWith Vdiff opₐ.a Vdiff'
        → Loop ℓ₁ Vδ (been plus only_old ℓₚ) ℓₛ Vdiff'

  module _ (ℓ₁ : OldPlace) (Vδ : ℕ) (op' : Operation) where
    -- lines 5 and 6: op' is assignment, and (ℓ_1, op', ℓ_2) ∈ G
    pub record Lines5and6 (ℓ₂ : OldPlace) : Type 0 where
      pub assignment : is_assignment op' ≡ true
      pub edge : InG ℓ₁ op' ℓ₂

    -- the else of line 10: op' is assignment, and no (ℓ_1, op', ℓ_2) ∈ G
    pub record NoEqual : Type 0 where
      pub assignment : is_assignment op' ≡ true
      pub none : (ℓ₂ : OldPlace) → Lines5and6 ℓ₂ → ⊥

    -- footnote 6, in edition 2: the implementation "also keeps the alignment if an assignment exists that changes the
    -- same variables": some (ℓ_1, op, ℓ_2) ∈ G with wrt(op) = wrt(op')
    pub record Footnote6 (op : Operation) (ℓ₂ : OldPlace) : Type 0 where
      pub edition : X.edition ≡ 2
      pub edge : InG ℓ₁ op ℓ₂
      pub assignment : is_assignment op ≡ true
      pub same : op.a ≡ op'.a

    -- lines 11 to 14: op' is an assumption, and the loop has ended
    pub record Lines11to14 (ℓₚ : OldPlace) (Vdiff : ℕ) : Type 0 where
      pub assumption : is_assignment op' ≡ false
      pub been : SetOf OldPlace
      pub loop : Loop ℓ₁ Vδ been ℓₚ Vdiff
      pub ends : (opₐ : Operation) (ℓₛ : OldPlace) → Line13 ℓₚ opₐ ℓₛ → ⊥

    -- the test of line 15; that op' ≢ false is that some values meet it
    pub record Line15 (ℓₚ : OldPlace) (op : Operation) (ℓ₂ : OldPlace) : Type 0 where
      pub not_err : ℓₚ.0 ≢ X.old.head.alarm
      pub edge : InG ℓₚ op ℓ₂
      pub matches : (op ≡ op') ⊎ (Implies op' op × (NeverHolds op' → ⊥))

    -- the test of line 16: V_diff ∩ (rd(op) ∪ rd(op')) ≠ ∅
    abbrev pub Line16 : ℕ → Operation → Type 0
    Line16 Vdiff op = Meet Vdiff (read_set op) ⊎ Meet Vdiff (read_set op')

    -- what PROCESS is called with: `none` for ℓ'_2, `to ℓ V_diff` for the pair (ℓ, ℓ'_2) with V_diff
    abbrev pub to : OldPlace → ℕ → Option Spot
    to ℓ Vdiff = Some (record { place = ℓ; set = Vdiff })

    -- lines 5 to 18: the calls of PROCESS in lines 9, 10 (and its footnote 6), 16, 17 and 18, each by the lines that
    -- lead to it
    pub data Lines5to18 : Option Spot → Type 0 where
      -- and line 9
      line7 : {ℓ₂ : OldPlace} {Vdiff : ℕ}
          → Lines5and6 ℓ₂ → Meet Vδ (read_set op') → IsWith Vδ op'.a Vdiff → Lines5to18 (to ℓ₂ Vdiff)
      line8 : {ℓ₂ : OldPlace} {Vdiff : ℕ}
          → Lines5and6 ℓ₂ → (Meet Vδ (read_set op') → ⊥) → IsWithout Vδ op'.a Vdiff → Lines5to18 (to ℓ₂ Vdiff)
      line10 : {Vdiff : ℕ}
          → NoEqual → ((op : Operation) (ℓ₂ : OldPlace) → Footnote6 op ℓ₂ → ⊥) → IsWith Vδ op'.a Vdiff
          → Lines5to18 (to ℓ₁ Vdiff)
      -- in the place of line 10: "moves both charts and adds that variable" (document 02, #104)
      footnote6 : {ℓ₂ : OldPlace} {Vdiff : ℕ} {op : Operation}
          → NoEqual → Footnote6 op ℓ₂ → IsWith Vδ op'.a Vdiff → Lines5to18 (to ℓ₂ Vdiff)
      line16 : {ℓₚ ℓ₂ : OldPlace} {Vdiff : ℕ} {op : Operation}
          → Lines11to14 ℓₚ Vdiff → Line15 ℓₚ op ℓ₂ → Line16 Vdiff op → Lines5to18 None
      line17 : {ℓₚ ℓ₂ : OldPlace} {Vdiff : ℕ} {op : Operation}
          → Lines11to14 ℓₚ Vdiff → Line15 ℓₚ op ℓ₂ → (Line16 Vdiff op → ⊥) → Lines5to18 (to ℓ₂ Vdiff)
      line18 : {ℓₚ : OldPlace} {Vdiff : ℕ}
          → Lines11to14 ℓₚ Vdiff → ((op : Operation) (ℓ₂ : OldPlace) → Line15 ℓₚ op ℓ₂ → ⊥) → Lines5to18 (to ℓₚ Vdiff)
      -- document 01's cut of the loop, which need not end: "Coming to a place twice here is a failed step."
      line13_cut : {been : SetOf OldPlace} {ℓₚ : OldPlace} {Vdiff : ℕ}
          → is_assignment op' ≡ false → Loop ℓ₁ Vδ been ℓₚ Vdiff → ℓₚ is_in been → Lines5to18 None
