-- The lone kept start is the difference graph that line 19 returns, with its condition. Assumes nothing.
use mathlib.Core.Path.{◌≡◌, refl, sym, ap, subst}
use mathlib.Core.Logic.{◌⊎◌, inl, inr, ⊎_elim, dite, ◌≢◌}
use Prim.Native.Nat.{ℕ}
use native.Mathlib.Omega.{arith}
use native.Mathlib.Decide.{ℕ_discrete}
use lib.ListN.{set, replicate}
use Rattle.base.proofs.Ones.{one-there, one_only}
use Rattle.base.proofs.Tests.{T_true}
use Rattle.base.proofs.Walks.{zeros_at, same_at}
use Rattle.chart.specs.Places.{kept_number}
use Rattle.chart.specs.Compared.{Compared}
use Rattle.chart.specs.Faultless.{FaultlessChart}
use Rattle.chart.specs.Possible.{stripped}
use Rattle.chart.proofs.Words.{Words}
use Rattle.records.specs.Records.{Record, record_of, mark, index}
use Rattle.chart.proofs.Starts.{first_kept}
use Rattle.paper.specs.Nodes.{SetOf, ◌is_in◌, Pair, Node, aligned, indicator, Edge, only_node, number, node_number, NodeNumbered}
use Rattle.paper.specs.Algorithm2.{lone}
use Rattle.paper.specs.Algorithm1.{Search}
use Rattle.paper.specs.Returned.{seat, Marked, Targeted, IsGraph, IsCondition}
use Rattle.paper.proofs.Seats.{at_pair, first_or_second}
use Rattle.paper.proofs.Members.{in_first, only_node_lem, the_node, number-below}
use Rattle.paper.proofs.Searching.{within, first_found, node-below}

module _ (X : Compared) (H : FaultlessChart X.new) (wn : Words X.new.table) where
  abbrev Y : Compared
  Y = stripped X

  abbrev pub single : Record
  single = record_of (first_kept X) (set (replicate 4160 0) (first_kept X) 2) (replicate 8192 65535) (replicate 4096 0)

  abbrev first : Node
  first = indicator (record { 0 = 0 })

  -- the one node that is marked
  single_node : (x : Node) → NodeNumbered x → mark single.graph (node_number x) ≢ 0 → x ≡ first
  single_node (aligned n) B e = absurd (let z = one_only 4160 (first_kept X) 2 (number n) (omega arith) in omega (arith, number-below n B))
  single_node (indicator q) b e = let z = one_only 4160 (first_kept X) 2 (kept_number q) (omega arith) in ap (λ (y : ℕ). indicator (record { 0 = y })) (omega arith)

  first-mark : mark single.graph 4096 ≡ 2
  first-mark = one-there 4160 4096 2 (omega arith)

  first_so : (P : ℕ → Type 0) → P 2 → (x : Node) → x is_in only_node first → Marked single P x
  first_so P p x e = subst (λ (y : Node). Marked single P y) (only_node_lem first x e) (omega arith, subst P (sym first-mark) p)

  is-first : (x : Node) → NodeNumbered x → mark single.graph (node_number x) ≢ 0 → x is_in only_node first
  is-first x B e = subst (λ (y : Node). y is_in only_node first) (sym (single_node x B e)) (the_node first)

  no_target : (e : Edge) → Targeted X.new single e → ⊥
  no_target e t =
      let c = first_or_second X H wn (at_pair X e.pred t.pred e.row t.there) in
      omega (arith, t.is, same_at 8192 65535 (index (number e.pred) (seat X.new e.pred.new e.row)) (omega (arith, c, number-below e.pred t.pred)), node-below e.succ t.succ)

  pub lone-graph : (S : Pair → ℕ) → IsGraph X.new single (lone Y) S
  unfolding only_node
  lone-graph S =
      record {
        start = refl;
        nodes = λ x. (first_so (λ m. m ≢ 0) (λ e. omega arith) x, λ M. is-first x M.0 M.1);
        kept = λ x. (first_so (λ m. m ≡ 2) refl x, λ M. is-first x M.0 (λ e. omega (arith, M.1)));
        edges = λ e. (λ b. absurd b, λ t. no_target e t);
        aims = λ i k l c. inl (same_at 8192 65535 (index i k) (omega arith));
        sets = λ n e. absurd (T_true e);
        bare = λ n B e. zeros_at 4096 (number n);
      }

  module _ {Q waits : SetOf Node} (search : Search (lone Y) Q waits) where
    Q-kept : (x : Node) → x is_in Q → Marked single (λ m. (m ≡ 1) ⊎ (m ≡ 2)) x
    Q-kept =
        (within (lone Y) (Marked single (λ m. (m ≡ 1) ⊎ (m ≡ 2))) (first_so (λ m. (m ≡ 1) ⊎ (m ≡ 2)) (inr refl) first (the_node first)) (first_so (λ m. (m ≡ 1) ⊎ (m ≡ 2)) (inr refl))
        (λ p x o D. absurd D.edge) search).1

    kept-Q : (x : Node) → Marked single (λ m. (m ≡ 1) ⊎ (m ≡ 2)) x → x is_in Q
    kept-Q x M = first_found (lone Y) search x (in_first (only_node first x) (only_node first x) (is-first x M.0 (λ e. ⊎_elim (λ a. omega arith) (λ a. omega arith) M.1)))

    not_covered : (x : Node) → Marked single (λ m. m ≡ 3) x → ⊥
    not_covered x M =
        let z = first_so (λ m. m ≡ 2) refl x (is-first x M.0 (λ e. omega (arith, M.1))) in
        omega (arith, M.1, z.1)

    pub lone-condition : IsCondition X.new single (lone Y) Q
    lone-condition =
        record {
          highest = λ k l.
              dite (ℕ_discrete (mark single.graph k) 0) (λ e. omega arith)
              (λ e. let z = one_only 4160 (first_kept X) 2 k (omega arith) in rw z (omega (arith, first-mark)));
          open_or_kept = λ x. (Q-kept x, kept-Q x);
          covered = λ x. (λ f. absurd f.edge.edge, λ M. absurd (not_covered x M));
          transitions = λ e. (λ t. absurd t.edge, λ t. absurd (no_target e t.0));
          each = λ i k l c o u. absurd (let z = one_only 4160 (first_kept X) 2 i (omega (arith, o)) in omega arith);
        }
