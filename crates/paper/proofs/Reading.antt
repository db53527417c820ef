-- The four buffers between turns, read as the source's variables; and what each part of a turn does to both. Assumes
-- nothing.
use mathlib.Core.Path.{◌≡◌, refl, sym, ap, subst, ◌∙◌}
use mathlib.Core.Bool.{Bool, true, false, ◌&&◌, ◌||◌, not, and-true as and_yes, or-false as or_none, or-true}
use mathlib.Core.Logic.{⊎_elim, dite}
use mathlib.Core.List.{List}
use Prim.Native.Nat.{ℕ, ◌%◌, ◌<◌}
use native.Mathlib.Omega.{arith}
use native.Mathlib.Decide.{ℕ_discrete}
use borrow.Author.Tests.{eq-eqb, ne_eqb, eqb-true, eqb-false}
use lib.Dec.{eqb}
use lib.ListN.{get_or, set}
use lib.Seq.{get_or-set_same, get_or-set_other}
use Rattle.base.proofs.Tests.{and_true, and_false, or_false}
use Rattle.chart.specs.declared.places.NewPlace.{NewPlace}
use Rattle.chart.specs.Compared.{Compared}
use Rattle.chart.specs.Places.{kept_number, new_of}
use Rattle.sets.specs.Sets.{joined}
use Rattle.graph.specs.Buffers.{Buffers, marked, keep, due, join, unwait}
use Rattle.graph.specs.inner.Sized.{Sized}
use Rattle.graph.proofs.Graphs.{set_at, marked_yes, marked_no, marked-same, keep-node, keep-nodes, keep-mark, keep_wait, keep-mark_other, keep-set_other, keep_wait_other, join-mark, join-set, join-due, join_not_due, join-mark_other, join-set_other, join_wait_other}
use Rattle.paper.specs.Nodes.{SetOf, ◌is_in◌, ◌is_not_in◌, ◌plus◌, Pair, only_place, only_pair, with_place, pair_of, Numbered}
use Rattle.paper.specs.Algorithm2.{State, to_place, line29, to_pair, popped}
use Rattle.paper.proofs.Members.{in_either, only_pair_lem, numbered, same-pair, other_pair}

-- ---- waitlist, N_l, Δ and V_δ
-- the buffers clear the sets of pairs that leave the graph, and V_δ does not: they are the same where the new place is
-- not kept
pub record Sets (s : State) (g : Buffers) : Type 0 where
  pub N : (i : ℕ) → i < 4096 → s.Nₗ (pair_of i) ≡ marked g.marks i
  pub N_numbered : (n : Pair) → n is_in s.Nₗ → Numbered n
  pub Δ : (q : NewPlace) → q.0 < 64 → s.Δ q ≡ marked g.marks (kept_number q)
  pub Δ-numbered : (q : NewPlace) → q is_in s.Δ → q.0 < 64
  pub waits : (i : ℕ) → i < 4096 → s.waitlist (pair_of i) ≡ marked g.waiting i
  pub waits_numbered : (n : Pair) → n is_in s.waitlist → Numbered n
  pub Vδ : (i : ℕ) → i < 4096 → new_of i is_not_in s.Δ → s.Vδ (pair_of i) ≡ set_at g i

module _ (X : Compared) where
  -- ---- a new place becomes kept
  module _ (s : State) (g : Buffers) (pred : Pair) (r : ℕ) (q : NewPlace) (S : Sized g) (l : q.0 < 64) (R : Sets s g) where
    leaves : (m m' : List ℕ) (i : ℕ) (b : Bool) → (i % 64 ≡ q.0 → get_or m' i 0 ≡ 0) → ((i % 64 ≡ q.0 → ⊥) → get_or m' i 0 ≡ get_or m i 0)
        → b ≡ marked m i → b && not (eqb q.0 (i % 64)) ≡ marked m' i
    leaves m m' i b here other e =
        dite (ℕ_discrete (i % 64) q.0)
        (λ z. rw (eq-eqb q.0 (i % 64) (sym z)) (and_false b ∙ sym (marked_no m' i (here z))))
        (λ z. rw (ne_eqb q.0 (i % 64) (λ w. z (sym w))) (and_yes b ∙ e ∙ sym (marked-same m' m i (other z))))

    kept_now : (p : NewPlace) → p.0 < 64 → s.Δ p || eqb q.0 p.0 ≡ marked (keep g q).marks (kept_number p)
    kept_now p b =
        dite (ℕ_discrete q.0 p.0)
        (λ z. let w : kept_number p ≡ kept_number q = omega arith in
        rw (eq-eqb q.0 p.0 z) (or-true (s.Δ p) ∙ sym (marked_yes (keep g q).marks (kept_number p) (rw w (omega (arith, keep-node g q S l))))))
        (λ z. rw (ne_eqb q.0 p.0 z)
        (or_none (s.Δ p) ∙ R.Δ p b ∙ sym (marked-same (keep g q).marks g.marks (kept_number p) (keep-nodes g q S l (kept_number p) (omega arith) (omega arith) (λ h. z (omega arith))))))

    pub keep-sets : Sets (to_place s pred r q) (keep g q)
    unfolding to_place with_place only_place
    keep-sets =
        record {
          N = λ i b. leaves g.marks (keep g q).marks i (s.Nₗ (pair_of i)) (λ e. keep-mark g q S l i b e) (λ e. keep-mark_other g q S l i b e) (R.N i b);
          N_numbered = λ n e. R.N_numbered n (and_true (s.Nₗ n) _ e).0;
          Δ = kept_now;
          Δ-numbered = λ p e. ⊎_elim (λ h. R.Δ-numbered p h) (λ h. rw (sym (eqb-true q.0 p.0 h)) l) (in_either (s.Δ p) _ e);
          waits = λ i b. leaves g.waiting (keep g q).waiting i (s.waitlist (pair_of i)) (λ e. keep_wait g q S l i b e) (λ e. keep_wait_other g q S l i b e) (R.waits i b);
          waits_numbered = λ n e. R.waits_numbered n (and_true (s.waitlist n) _ e).0;
          Vδ = λ i b e.
              (let z = or_false (s.Δ (new_of i)) (eqb q.0 (i % 64)) e in
              R.Vδ i b z.0 ∙ sym (keep-set_other g q S l i b (λ h. eqb-false q.0 (i % 64) z.1 (sym h))));
        }

  -- ---- the place of the successor is kept already
  pub kept_sets : (s : State) (g : Buffers) (pred : Pair) (r : ℕ) (succ : Pair) (v : ℕ) → succ.new is_in s.Δ → Sets s g → Sets (to_pair X s pred r succ v) g
  unfolding to_pair line29
  kept_sets s g pred r succ v k R =
      record {
        N = λ i b. rw k (R.N i b);
        N_numbered = λ n. rw k (R.N_numbered n);
        Δ = R.Δ;
        Δ-numbered = R.Δ-numbered;
        waits = λ i b. rw (k, to_pair, line29) (R.waits i b);
        waits_numbered = λ n. rw (k, to_pair, line29) (R.waits_numbered n);
        Vδ = λ i b e. rw (k, to_pair) (R.Vδ i b e);
      }

  -- ---- pair t joins
  module _ (s : State) (g : Buffers) (pred : Pair) (r t v : ℕ) (S : Sized g) (l : t < 4096) (free : new_of t is_not_in s.Δ) (R : Sets s g) where
    due-same : line29 X s (pair_of t) v ≡ due X.old.head.alarm g.marks g.sets t v
    unfolding line29 due
    due-same = rw (free, R.N t l, R.Vδ t l free)

    joins : (m m' : List ℕ) (i : ℕ) (b : Bool) → 0 < get_or m' t 0 → ((i ≡ t → ⊥) → get_or m' i 0 ≡ get_or m i 0) → b ≡ marked m i → b || only_pair (pair_of t) (pair_of i) ≡ marked m' i
    joins m m' i b here other e =
        dite (ℕ_discrete i t)
        (λ z. rw (same-pair t i z) (or-true b ∙ sym (marked_yes m' i (rw z here))))
        (λ z. rw (other_pair t i z) (or_none b ∙ e ∙ sym (marked-same m' m i (other z))))

    joins_numbered : (b : Bool) (n : Pair) → (b ≡ true → Numbered n) → b || only_pair (pair_of t) n ≡ true → Numbered n
    joins_numbered b n f e = ⊎_elim f (λ h. subst Numbered (only_pair_lem (pair_of t) n h) (numbered t l)) (in_either b _ e)

    abbrev after : Buffers
    after = join X.old.head.alarm g t v

    waits_now : (d : Bool) → due X.old.head.alarm g.marks g.sets t v ≡ d → (i : ℕ) → i < 4096
        → (elim d as (λ _. SetOf Pair) [ true ↦ s.waitlist plus only_pair (pair_of t) | false ↦ s.waitlist ]) (pair_of i) ≡ marked after.waiting i
    waits_now true e i b =
        joins g.waiting after.waiting i (s.waitlist (pair_of i)) (omega (arith, join-due X.old.head.alarm g t v S l e)) (λ z. join_wait_other X.old.head.alarm g t v S l i z) (R.waits i b)
    waits_now false e i b =
        R.waits i b
        ∙ sym
        (marked-same after.waiting g.waiting i
        (dite (ℕ_discrete i t) (λ z. rw z (join_not_due X.old.head.alarm g t v S l e)) (λ z. join_wait_other X.old.head.alarm g t v S l i z)))

    waits_numbered_now : (d : Bool) (n : Pair) → (elim d as (λ _. SetOf Pair) [ true ↦ s.waitlist plus only_pair (pair_of t) | false ↦ s.waitlist ]) n ≡ true → Numbered n
    waits_numbered_now true n e = joins_numbered (s.waitlist n) n (R.waits_numbered n) e
    waits_numbered_now false n e = R.waits_numbered n e

    gains : (i : ℕ) → i < 4096 → new_of i is_not_in s.Δ → (elim (only_pair (pair_of t) (pair_of i)) as (λ _. ℕ) [ true ↦ joined (s.Vδ (pair_of i)) v | false ↦ s.Vδ (pair_of i) ]) ≡ set_at after i
    gains i b e =
        dite (ℕ_discrete i t)
        (λ z. rw (same-pair t i z) (rw z (ap (λ (x : ℕ). joined x v) (R.Vδ t l free) ∙ sym (join-set X.old.head.alarm g t v S l))))
        (λ z. rw (other_pair t i z) (R.Vδ i b e ∙ sym (join-set_other X.old.head.alarm g t v S l i z)))

    pub join-sets : Sets (to_pair X s pred r (pair_of t) v) after
    unfolding to_pair
    join-sets =
        record {
          N = λ i b. rw free (joins g.marks after.marks i (s.Nₗ (pair_of i)) (omega (arith, join-mark X.old.head.alarm g t v S l)) (λ z. join-mark_other X.old.head.alarm g t v S l i z) (R.N i b));
          N_numbered = λ n. rw free (joins_numbered (s.Nₗ n) n (R.N_numbered n));
          Δ = λ q b. R.Δ q b ∙ sym (marked-same after.marks g.marks (kept_number q) (join-mark_other X.old.head.alarm g t v S l (kept_number q) (λ h. omega arith)));
          Δ-numbered = R.Δ-numbered;
          waits = λ i b. rw (due-same, to_pair) (waits_now (due X.old.head.alarm g.marks g.sets t v) refl i b);
          waits_numbered = λ n. rw (due-same, to_pair) (waits_numbered_now (due X.old.head.alarm g.marks g.sets t v) n);
          Vδ = λ i b e. rw (free, to_pair) (gains i b e);
        }

  -- ---- a pair is popped
  pub pop_sets : (s : State) (g : Buffers) (n : ℕ) → Sized g → n < 4096 → Sets s g → Sets (popped s (pair_of n)) (unwait g n)
  unfolding popped unwait
  pop_sets s g n S l R =
      record {
        N = R.N;
        N_numbered = R.N_numbered;
        Δ = R.Δ;
        Δ-numbered = R.Δ-numbered;
        waits = λ i b.
            dite (ℕ_discrete i n)
            (λ z. rw (same-pair n i z) (and_false (s.waitlist (pair_of i)) ∙ sym (marked_no (set g.waiting n 0) i (rw z (get_or-set_same g.waiting n 0 0 (omega (arith, S.waiting)))))))
            (λ z. rw (other_pair n i z) (and_yes (s.waitlist (pair_of i)) ∙ R.waits i b ∙ sym (marked-same (set g.waiting n 0) g.waiting i (get_or-set_other g.waiting n i 0 0 z))));
        waits_numbered = λ m e. R.waits_numbered m (and_true (s.waitlist m) _ e).0;
        Vδ = R.Vδ;
      }
