-- The source's words fix every byte of a record: for faultless charts of u32 entries there is one record of the stated
-- lengths that Algorithms 2 and 1 return, the build's. Nothing need be known of its entries. Assumes nothing.
use mathlib.Core.Path.{◌≡◌, refl, sym, ap₂, subst, ◌∙◌}
use mathlib.Core.Logic.{inl, ⊎_elim, dite}
use Prim.Native.Nat.{ℕ, zero, suc, ◌/◌, ◌%◌, ◌≤◌, ◌<◌}
use native.Mathlib.Omega.{arith}
use native.Mathlib.Decide.{ℕ_discrete, dec_lt}
use lib.ListN.{get_or}
use lib.Seq.{ext_get_or}
use Rattle.chart.proofs.Words.{Words}
use Rattle.chart.specs.Charts.{Chart}
use Rattle.chart.specs.Compared.{Compared}
use Rattle.chart.specs.Faultless.{FaultlessChart}
use Rattle.records.specs.Records.{Record, record_of, mark, set_at, target, index}
use Rattle.condition.specs.Builds.{recorded}
use Rattle.paper.specs.Nodes.{SetOf, Pair, Node, aligned, edge, node_number, pair_of, NodeNumbered}
use Rattle.paper.specs.Algorithm2.{DifferenceGraph}
use Rattle.paper.specs.Returned.{Aimed, IsGraph, IsCondition, Returned}
use Rattle.paper.proofs.Lengths.{Lengths}
use Rattle.paper.proofs.Members.{in_or_not, number_is, numbered}
use Rattle.paper.proofs.Searching.{node_of, node_of_numbered}
use Rattle.paper.proofs.Rounds.{ended_read}
use Rattle.paper.proofs.Theorem.{read_ends}

-- ---- two records of one graph and one condition
module _ (new : Chart) (G : DifferenceGraph) (Vδ : Pair → ℕ) (Q : SetOf Node) where
  -- a mark below 4 in one is the mark in the other
  same-below : (R S : Record) → IsGraph new R G Vδ → IsGraph new S G Vδ → IsCondition new R G Q → IsCondition new S G Q → (x : Node) → NodeNumbered x
      → (k : ℕ) → k < 4 → mark R.graph (node_number x) ≡ k → mark S.graph (node_number x) ≡ k
  same-below R S g h c d x B zero l e = dite (ℕ_discrete (mark S.graph (node_number x)) 0) (λ z. z) (λ z. absurd (((g.nodes x).0 ((h.nodes x).1 (B, z))).1 e))
  same-below R S g h c d x B (suc zero) l e =
      ⊎_elim (λ z. z) (λ z. absurd (omega (arith, ((g.kept x).0 ((h.kept x).1 (B, z))).1))) ((d.open_or_kept x).0 ((c.open_or_kept x).1 (B, inl e))).1
  same-below R S g h c d x B (suc (suc zero)) l e = ((h.kept x).0 ((g.kept x).1 (B, e))).1
  same-below R S g h c d x B (suc (suc (suc zero))) l e = ((d.covered x).0 ((c.covered x).1 (B, e))).1
  same-below R S g h c d x B (suc (suc (suc (suc k)))) l e = absurd (omega arith)

  module _ (R S : Record) (g : IsGraph new R G Vδ) (h : IsGraph new S G Vδ) (c : IsCondition new R G Q) (d : IsCondition new S G Q) where
    same-mark : (k : ℕ) → k < 4160 → mark R.graph k ≡ mark S.graph k
    same-mark k l =
        let (B, z) = node_of_numbered k l in
        subst (λ (j : ℕ). mark R.graph j ≡ mark S.graph j) z
        (go (node_of k) B (rw z (c.highest k l)) (rw z (d.highest k l)))
      where
        go : (x : Node) → NodeNumbered x → mark R.graph (node_number x) ≤ 4 → mark S.graph (node_number x) ≤ 4 → mark R.graph (node_number x) ≡ mark S.graph (node_number x)
        go x B a b =
            dite (dec_lt (mark R.graph (node_number x)) 4) (λ m. sym (same-below R S g h c d x B (mark R.graph (node_number x)) m refl))
            (λ m. dite (dec_lt (mark S.graph (node_number x)) 4) (λ n. same-below S R h g d c x B (mark S.graph (node_number x)) n refl) (λ n. omega arith))

    -- an edge is the target of both
    of_edge : (i k : ℕ) → Aimed new R G i k → target S.graph i k ≡ target R.graph i k
    of_edge i k A =
        ap₂ (target S.graph) (sym (number_is i)) (sym A.seated) ∙ ((h.edges (edge (pair_of i) A.row A.node)).0 A.edge).is ∙ A.is

    same_set : (i : ℕ) → i < 4096 → set_at R.graph i ≡ set_at S.graph i
    same_set i l =
        subst (λ (j : ℕ). set_at R.graph j ≡ set_at S.graph j) (number_is i)
        (⊎_elim (λ e. g.sets (pair_of i) e ∙ sym (h.sets (pair_of i) e)) (λ e. g.bare (pair_of i) (numbered i l) e ∙ sym (h.bare (pair_of i) (numbered i l) e))
        (in_or_not (G.N (aligned (pair_of i)))))

  module _ (R S : Record) (g : IsGraph new R G Vδ) (h : IsGraph new S G Vδ) (c : IsCondition new R G Q) (d : IsCondition new S G Q) where
    same_target : (i k : ℕ) → i < 4096 → k < 2 → target R.graph i k ≡ target S.graph i k
    same_target i k l b =
        ⊎_elim
        (λ e. ⊎_elim (λ f. e ∙ sym f) (λ A. of_edge S R h g d c i k A) (h.aims i k l b))
        (λ A. sym (of_edge R S g h c d i k A)) (g.aims i k l b)

    same_record : Lengths R → Lengths S → R ≡ S
    same_record L M =
        let m = ext_get_or 0 R.graph.marks S.graph.marks (L.marks ∙ sym M.marks) (λ k l. same-mark R S g h c d k (omega (arith, L.marks))) in
        let s = ext_get_or 0 R.graph.sets S.graph.sets (L.sets ∙ sym M.sets) (λ i l. same_set R S g h c d i (omega (arith, L.sets))) in
        let t =
        ext_get_or 0 R.graph.targets S.graph.targets (L.targets ∙ sym M.targets)
        (λ j l. let z : index (j / 2) (j % 2) ≡ j = omega arith in
        subst (λ (k : ℕ). get_or R.graph.targets k 0 ≡ get_or S.graph.targets k 0) z (same_target (j / 2) (j % 2) (omega (arith, L.targets)) (omega arith))) in
        let e = g.start ∙ sym h.start in
        λ i. record_of (e i) (m i) (t i) (s i)

-- ---- what is returned
module _ (X : Compared) (F : FaultlessChart X.old) (H : FaultlessChart X.new) (wo : Words X.old.table) (wn : Words X.new.table) where
  -- what the source's algorithms return is what a build leaves
  pub returned-is-recorded : (R : Record) → Lengths R → Returned X R → R ≡ recorded X
  returned-is-recorded R L A =
      let E = read_ends X F H wn A.state (ended_read X F H wo wn A.ran A.ended) in
      same_record X.new _ A.state.Vδ A.Q R (recorded X) A.graph E.graph (A.condition A.searched A.emptied) (E.condition A.searched A.emptied)
      L E.lengths

  -- two records that they return are the same
  pub determined : (R S : Record) → Lengths R → Lengths S → Returned X R → Returned X S → R ≡ S
  determined R S L M A B = returned-is-recorded R L A ∙ sym (returned-is-recorded S M B)
