-- The source's Algorithm 1, the condition generator, line by line, from any difference graph (N, E, n_0, Δ).
use Rattle.std.specs.Prelude.{◌≡◌, ◌⊎◌, ◌≢◌, ◌↔◌, ℕ}
use Rattle.paper.specs.Nodes.{SetOf, ◌is_in◌, ◌is_not_in◌, ◌plus◌, Pair, Node, aligned, Edge, edge, only_node}
use Rattle.paper.specs.Algorithm2.{DifferenceGraph}

module _ (G : DifferenceGraph) where
  -- (n_p, g, n_s) ∈ E, for some edge g of the new chart
  pub record Precedes (nₚ nₛ : Node) : Type 0 where
    pub pair : Pair
    pub row : ℕ
    pub is : nₚ ≡ aligned pair
    pub edge : G.E (edge pair row nₛ)

  -- one turn of the loop of line 2, from Q and the waitlist W to Q' and W'
  pub record Turn (Q W : SetOf Node) (nₛ : Node) (Q' W' : SetOf Node) : Type 0 where
    -- line 3
    pub pops : nₛ is_in W
    -- lines 4 and 5, for every edge into n_s with n_p ∉ Q
    pub adds : (n : Node) → (n is_in Q') ↔ ((n is_in Q) ⊎ Precedes n nₛ)
    pub waits : (n : Node) → (n is_in W') ↔ (((n is_in W) × (n ≢ nₛ)) ⊎ (Precedes n nₛ × (n is_not_in Q)))

  -- lines 1 to 5: the Q and waitlist that the loop can come to
  pub data Search : SetOf Node → SetOf Node → Type 0 where
    line1 : Search (only_node G.n₀ plus G.Δ) (only_node G.n₀ plus G.Δ)
    lines3to5 : {Q W Q' W' : SetOf Node} (nₛ : Node) → Search Q W → Turn Q W nₛ Q' W' → Search Q' W'

  module _ (Q : SetOf Node) where
    -- line 6
    pub record F (nₛ : Node) : Type 0 where
      pub pred : Node
      pub edge : Precedes pred nₛ
      pub «open» : pred is_in Q
      pub outside : nₛ is_not_in Q

    -- line 7: E ∩ (Q × G' × (Q ∪ F))
    pub record Transition (e : Edge) : Type 0 where
      pub edge : G.E e
      pub from : aligned e.pred is_in Q
      pub to : (e.succ is_in Q) ⊎ F e.succ
