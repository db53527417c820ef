-- The targets between turns, read as the source's E_l; and what each part of a turn does to both. E_l keeps every edge
-- that it ever had, and the targets only the last one of a pair of the graph by each row. Assumes nothing.
use mathlib.Core.Path.{◌≡◌, sym, ap₂, subst, ◌∙◌}
use mathlib.Core.Bool.{false, ◌||◌, or-true}
use mathlib.Core.Logic.{◌⊎◌, inl, inr, ⊎_elim, dite}
use mathlib.Core.List.{List}
use Prim.Native.Nat.{ℕ, ◌%◌, ◌<◌}
use native.Mathlib.Omega.{arith}
use native.Mathlib.Decide.{ℕ_discrete}
use borrow.Author.Tests.{eqb-false}
use lib.Dec.{eqb}
use lib.ListN.{get_or, set}
use lib.Seq.{get_or-set_same, get_or-set_other}
use Rattle.base.proofs.Tests.{or_false}
use Rattle.chart.specs.declared.places.NewPlace.{NewPlace}
use Rattle.chart.specs.Places.{kept_number, new_of}
use Rattle.chart.specs.Charts.{size, to, operation}
use Rattle.chart.specs.Possible.{stripped}
use Rattle.chart.specs.Compared.{Compared}
use Rattle.records.specs.Records.{index}
use Rattle.graph.specs.Buffers.{Buffers, keep, aim}
use Rattle.graph.specs.inner.Sized.{Sized}
use Rattle.detector.specs.Turns.{leads_to}
use Rattle.graph.proofs.Graphs.{mark_at, keep-target_other, by_aim}
use Rattle.paper.specs.Nodes.{SetOf, ◌is_in◌, ◌is_not_in◌, ◌plus◌, Pair, Node, aligned, indicator, Edge, edge, only_place, only_edge, pair_of}
use Rattle.paper.specs.Algorithm2.{edges, ℓ₂'}
use Rattle.paper.specs.Returned.{seat}
use Rattle.align.proofs.Successors.{successor}
use Rattle.paper.proofs.Members.{in_either, in_first, in_neither, only_edge_lem, the_edge, other_edge, other_pair}

module _ (X : Compared) where
  abbrev Y : Compared
  Y = stripped X

  -- an edge leads where its row does: to a place of Δ, or to the one successor that the pair has by it
  abbrev pub Onto : SetOf NewPlace → Pair → ℕ → Node → Type 0
  Onto Δ n r (aligned m) = (m.new.0 ≡ to (edges Y n.new) r) × (m.old ≡ successor Y n.old (operation (edges Y n.new) r) (ℓ₂' Y n.new r))
  Onto Δ n r (indicator q) = (q.0 ≡ to (edges Y n.new) r) × (q is_in Δ)

  pub record Sound (Δ : SetOf NewPlace) (e : Edge) : Type 0 where
    pub row : e.row < size (edges Y e.pred.new)
    pub onto : Onto Δ e.pred e.row e.succ

  -- of the rows of pair i, the r-th of those that are left is row k
  pub record At (i r k : ℕ) : Type 0 where
    pub row : r < size (edges Y (new_of i))
    pub seated : seat X.new (new_of i) r ≡ k

  -- t as the target of row r of pair i: the kept node of its place, and there is an edge; or a pair, and there is the
  -- edge to it
  pub record ToKept (E : SetOf Edge) (i r t : ℕ) : Type 0 where
    pub is : t ≡ kept_number (leads_to Y.new i r)
    pub succ : Node
    pub edge : edge (pair_of i) r succ is_in E

  pub record ToPair (E : SetOf Edge) (i r t : ℕ) : Type 0 where
    pub below : t < 4096
    pub edge : edge (pair_of i) r (aligned (pair_of t)) is_in E

  abbrev pub Aims : SetOf Edge → ℕ → ℕ → ℕ → Type 0
  Aims E i r t = ToKept E i r t ⊎ ToPair E i r t

  -- of pairs whose new place is not kept, those outside the graph among them
  pub record Edges (E : SetOf Edge) (Δ : SetOf NewPlace) (t : List ℕ) : Type 0 where
    pub sound : (e : Edge) → e is_in E → Sound Δ e
    pub unused : (i r k : ℕ) → i < 4096 → k < 2 → At i r k → new_of i is_not_in Δ → get_or t (index i k) 0 ≡ 65535 → (x : Node) → edge (pair_of i) r x is_not_in E
    pub aims : (i k : ℕ) → i < 4096 → k < 2 → new_of i is_not_in Δ → (get_or t (index i k) 0 ≡ 65535 → ⊥) → (r : ℕ) × At i r k × Aims E i r (get_or t (index i k) 0)

  -- ---- a new place becomes kept
  onto_more : (Δ Δ' : SetOf NewPlace) (n : Pair) (r : ℕ) (x : Node) → ((q : NewPlace) → q is_in Δ → q is_in Δ') → Onto Δ n r x → Onto Δ' n r x
  onto_more Δ Δ' n r (aligned m) f o = o
  onto_more Δ Δ' n r (indicator q) f o = (o.0, f q o.1)

  pub keep-edges : (E : SetOf Edge) (Δ : SetOf NewPlace) (g : Buffers) (q : NewPlace) → Sized g → q.0 < 64 → Edges E Δ g.targets → Edges E (Δ plus only_place q) (keep g q).targets
  unfolding only_place
  keep-edges E Δ g q S l A =
      record {
        sound = λ e h. (let z = A.sound e h in record { row = z.row; onto = onto_more Δ (Δ plus only_place q) e.pred e.row e.succ (λ p k. in_first (Δ p) _ k) z.onto });
        unused = λ i r k b c a f u x. (let z = away i f in A.unused i r k b c a z.0 (sym (keep-target_other g q S l i b z.1 k c) ∙ u) x);
        aims = λ i k b c f u. (let z = away i f in rw (keep-target_other g q S l i b z.1 k c) (A.aims i k b c z.0 (λ h. u (keep-target_other g q S l i b z.1 k c ∙ h))));
      }
    where
      away : (i : ℕ) → Δ (new_of i) || eqb q.0 (i % 64) ≡ false → (new_of i is_not_in Δ) × (i % 64 ≡ q.0 → ⊥)
      away i f = let z = or_false (Δ (new_of i)) (eqb q.0 (i % 64)) f in (z.0, λ h. eqb-false q.0 (i % 64) z.1 (sym h))

  -- ---- a target is stored, with an edge from the pair in hand, which is in the graph unless its place is kept
  module _ (E : SetOf Edge) (Δ : SetOf NewPlace) (g : Buffers) (n r k t : ℕ) (x : Node) (S : Sized g) (l : n < 4096) (c : k < 2) (at : At n r k)
      (there : new_of n is_not_in Δ → 0 < mark_at g n) (fits : Sound Δ (edge (pair_of n) r x)) (used : t ≡ 65535 → ⊥) where
    abbrev more : SetOf Edge
    more = E plus only_edge (edge (pair_of n) r x)

    still : (i j y : ℕ) → Aims E i j y → Aims more i j y
    still i j y (inl a) = inl (record { is = a.is; succ = a.succ; edge = in_first (E (edge (pair_of i) j a.succ)) _ a.edge })
    still i j y (inr a) = inr (record { below = a.below; edge = in_first (E (edge (pair_of i) j (aligned (pair_of y)))) _ a.edge })

    now_sound : ((e : Edge) → e is_in E → Sound Δ e) → (e : Edge) → e is_in more → Sound Δ e
    now_sound f e h = ⊎_elim (f e) (λ z. subst (Sound Δ) (only_edge_lem (edge (pair_of n) r x) e z) fits) (in_either (E e) _ h)

    aimed_edges : Edges E Δ g.targets → Aims more n r t → Edges more Δ (set g.targets (index n k) t)
    aimed_edges A h =
        record {
          sound = now_sound A.sound;
          unused = λ i r' k' b d a f u y. by_target i k' d
              (λ p q. absurd (used (sym (here i k' p q) ∙ u)))
              (λ p. in_neither (E (edge (pair_of i) r' y)) _ (A.unused i r' k' b d a f (sym (other i k' d p) ∙ u) y) (apart i r' k' y a p));
          aims = λ i k' b d f u. by_target i k' d
              (λ p q. rw (here i k' p q) (rw (p, q) (r, at, h)))
              (λ p. rw (other i k' d p) (let (r', a, z) = A.aims i k' b d f (λ z. u (other i k' d p ∙ z)) in (r', a, still i r' (get_or g.targets (index i k') 0) z)));
        }
      where
        by_target : {B : Type 0} (i k' : ℕ) → k' < 2 → (i ≡ n → k' ≡ k → B) → ((i ≡ n → ⊥) ⊎ (k' ≡ k → ⊥) → B) → B
        by_target i k' d f o = dite (ℕ_discrete i n) (λ p. dite (ℕ_discrete k' k) (λ q. f p q) (λ q. o (inr q))) (λ p. o (inl p))

        here : (i k' : ℕ) → i ≡ n → k' ≡ k → get_or (set g.targets (index n k) t) (index i k') 0 ≡ t
        here i k' p q = rw (p, q) (get_or-set_same g.targets (index n k) t 0 (omega (arith, S.targets)))

        other : (i k' : ℕ) → k' < 2 → (i ≡ n → ⊥) ⊎ (k' ≡ k → ⊥) → get_or (set g.targets (index n k) t) (index i k') 0 ≡ get_or g.targets (index i k') 0
        other i k' d p = get_or-set_other g.targets (index n k) (index i k') t 0 (λ z. ⊎_elim (λ a. a (omega arith)) (λ a. a (omega arith)) p)

        -- one row has one seat
        another : (i r' k' : ℕ) → At i r' k' → (i ≡ n → ⊥) ⊎ (k' ≡ k → ⊥) → i ≡ n → r' ≡ r → ⊥
        another i r' k' a p e f =
            ⊎_elim (λ d. d e)
            (λ d. d (sym a.seated ∙ ap₂ (λ (j : ℕ) (r : ℕ). seat X.new (new_of j) r) e f ∙ at.seated)) p

        apart : (i r' k' : ℕ) (y : Node) → At i r' k' → (i ≡ n → ⊥) ⊎ (k' ≡ k → ⊥) → edge (pair_of i) r' y is_not_in only_edge (edge (pair_of n) r x)
        apart i r' k' y a p =
            other_edge (pair_of n) (pair_of i) r r' x y
            (dite (ℕ_discrete i n) (λ e. inr (λ f. another i r' k' a p e f)) (λ e. inl (other_pair n i e)))

    -- it has left the graph: no target is stored
    gone-edges : Edges E Δ g.targets → mark_at g n ≡ 0 → Edges more Δ g.targets
    gone-edges A z =
        record {
          sound = now_sound A.sound;
          unused = λ i r' k' b d a f u y. in_neither (E (edge (pair_of i) r' y)) _ (A.unused i r' k' b d a f u y) (other_edge (pair_of n) (pair_of i) r r' x y (inl (other_pair n i (λ e. away i f e))));
          aims = λ i k' b d f u. (let (r', a, y) = A.aims i k' b d f u in (r', a, still i r' (get_or g.targets (index i k') 0) y));
        }
      where
        away : (i : ℕ) → new_of i is_not_in Δ → i ≡ n → ⊥
        away i f e = let p = there (subst (λ (j : ℕ). new_of j is_not_in Δ) e f) in omega arith

    pub aim-edges : Edges E Δ g.targets → Aims more n r t → Edges more Δ (aim g n k t).targets
    aim-edges A h = by_aim g n k t (λ f. Edges more Δ f.targets) (λ p. aimed_edges A h) (λ z. gone-edges A z)

    -- the new edge
    pub added : edge (pair_of n) r x is_in more
    added = rw (the_edge (edge (pair_of n) r x)) (or-true (E (edge (pair_of n) r x)))
