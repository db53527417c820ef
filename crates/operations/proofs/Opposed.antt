-- Two assumptions that compare the same in opposite ways: exactly one holds, whatever the values. Assumes nothing.
use Rattle.std.proofs.Common.{◌≡◌, ℕ, ◌/◌, Bool, true, false, cond, not, ◌&&◌, eqb, ltb, refl, ap, ◌∙◌, subst, arith, ltb-true, eqb-true}
use Rattle.std.proofs.lemmas.Grind.{common_steps}
use Rattle.base.proofs.Lists.{any_false}
use Rattle.base.proofs.Tests.{and_true}
use Rattle.operations.specs.declared.Operation.{Operation}
use Rattle.operations.specs.Operations.{is_assumption, order, key, relation, related, related_in, with_constant, right, holds}
use Rattle.operations.specs.inner.Opposed.{OppositeCodes, Opposed}
use Rattle.operations.specs.Trials.{alike, seats, trial, points_of, shown, shown_by, together, exclusive}

-- = and ≠, < and ≥, ≤ and >
module _ (x y : ℕ) where
  pub opposite_0 : related 0 x y ≡ not (related 1 x y)
  unfolding related
  opposite_0 = grind (arith, common_steps)

  pub opposite_1 : related 1 x y ≡ not (related 0 x y)
  unfolding related
  opposite_1 = grind (arith, common_steps)

  pub opposite_2 : related 2 x y ≡ not (related 5 x y)
  unfolding related
  opposite_2 = grind (arith, common_steps)

  pub opposite_3 : related 3 x y ≡ not (related 4 x y)
  unfolding related
  opposite_3 = grind (arith, common_steps)

  pub opposite_4 : related 4 x y ≡ not (related 3 x y)
  unfolding related
  opposite_4 = grind (arith, common_steps)

  pub opposite_5 : related 5 x y ≡ not (related 2 x y)
  unfolding related
  opposite_5 = grind (arith, common_steps)

pub ruleset opposite_relations = (opposite_0, opposite_1, opposite_2, opposite_3, opposite_4, opposite_5)

module _ (f g : Operation) where
  -- the same two values, compared in one order by opposite relations
  opposed_by : f.a ≡ g.a → f.b ≡ g.b → f.c ≡ g.c → with_constant f ≡ with_constant g → f.code / 8 ≡ g.code / 8
      → ((x y : ℕ) → related (relation f) x y ≡ not (related (relation g) x y)) → Opposed f g
  unfolding holds
  opposed_by ea eb ec w o h v =
      let s : order f ≡ order g = rw o in
      h (key (order f) (v f.a)) (key (order f) (right f v))
      ∙ ap not (λ i. related_in (s i) (relation g) (v (ea i)) (cond (w i) (ec i) (v (eb i))))

  pub opposed_codes : (s : ℕ) → ((s ≡ 6 → ⊥) → OppositeCodes f.code s)
      → (((eqb f.a g.a && eqb f.b g.b) && eqb f.c g.c) && eqb s g.code) && ltb 15 g.code ≡ true
      → (is_assumption f ≡ true) × (is_assumption g ≡ true) × Opposed f g
  opposed_codes s h t =
      let (t, n) = and_true _ _ t in
      let (t, e) = and_true _ _ t in
      let (t, c) = and_true _ _ t in
      let (a, b) = and_true _ _ t in
      let q = eqb-true s g.code e in
      let l = ltb-true 15 g.code n in
      let o : OppositeCodes f.code g.code = subst (OppositeCodes f.code) q (h (λ z. omega (arith, q, l))) in (
        o.first,
        o.second,
        opposed_by (eqb-true _ _ a) (eqb-true _ _ b) (eqb-true _ _ c) o.sort o.order o.relations,
      )

  -- no trial meets both, and none fails both
  neither : (b h : Bool) → alike b (not h) && alike b h ≡ false
  neither true true = refl
  neither true false = refl
  neither false true = refl
  neither false false = refl

  apart : Opposed f g → (b : Bool) → together f b g b ≡ false
  unfolding together shown
  apart h b =
      any_false (shown_by (seats f g) f b g b (points_of f g)) (points_of f g)
      (λ x. any_false (shown (seats f g) f b g b x) (points_of f g)
      (λ y. rw (h (trial (seats f g) x y)) (neither b (holds g (trial (seats f g) x y)))))

  pub opposed_one : Opposed f g → true ≡ exclusive f g
  opposed_one h = rw (apart h true, apart h false)
