-- Demand 3, first half: a run of the new chart that reaches the new alarm and is covered by a record that the check
-- passes has a run of the old chart from the same values that reaches the old alarm. Assumes nothing.
use Rattle.std.proofs.Common.{◌≡◌, ℕ, ◌+◌, ◌*◌, ◌/◌, ◌%◌, ◌<◌, ◌≤◌, Bool, true, false, T, eqb, ◌≢◌, ◌⊎◌, List, [], ◌∷◌, sym, ◌∙◌, subst, subst₂, inl, inr, arith, eqb→eq}
use Rattle.std.specs.Prelude.{Option, None, Some}
use native.Mathlib.Decide.{ℕ_discrete}
use Rattle.base.specs.Lists.{any}
use Rattle.base.specs.Says.{Says, bool}
use Rattle.base.proofs.OnSome.{OnSome}
use Rattle.base.proofs.Says.{says}
use Rattle.base.proofs.Tests.{T_or, T_true, is_true}
use Rattle.operations.specs.declared.Operation.{Operation}
use Rattle.operations.specs.Values.{Values}
use Rattle.chart.specs.declared.places.NewPlace.{NewPlace}
use Rattle.chart.specs.Charts.{Chart, size, from, to, operation, row}
use Rattle.chart.specs.Compared.{Compared, heads_of}
use Rattle.chart.proofs.Words.{Words}
use Rattle.chart.specs.Places.{old_of, new_of}
use Rattle.chart.specs.Runs.{State, lets, after, taken, begin}
use Rattle.align.specs.declared.spots.Spot.{Spot}
use Rattle.align.specs.Steps.{fair, step}
use Rattle.align.proofs.Agree.{agree_wider, agree_same-values}
use Rattle.chart.proofs.Takable.{let_takable, is-ready}
use Rattle.chart.proofs.Taken.{values-after}
use Rattle.align.proofs.Onto.{Onto, step_onto}
use Rattle.chart.proofs.Conflicts.{operands}
use Rattle.chart.proofs.Reach.{reaches_from, from-begin, reaches_nil, reaches_cons, Hits, hits_here}
use Rattle.records.specs.Records.{Graph, Record, mark, set_at, target_of}
use Rattle.checker.specs.Following.{goes_on, nodes, covered}
use Rattle.checker.specs.Rules.{start_fits, keeps, joins, joins_step, ranked, leads, spot}
use Rattle.checker.specs.Checks.{refusal}
use Rattle.checker.specs.Promise.{Promise}
use Rattle.checker.proofs.Passed.{Passed, passed}
use Rattle.checker.proofs.Rows.{rule}

-- ---- covered from here on
abbrev pub three : Graph → ℕ → Bool
three G n = eqb (mark G n) 3

module _ (new : Chart) (G : Graph) where
  -- covered at once, or further on by the first row's target
  first_or_later : (n i : ℕ) (is : List ℕ) → T (any (three G) (nodes new G n (i ∷ is)))
      → (mark G n ≡ 3) ⊎ ((mark G n ≡ 1) × T (any (three G) (nodes new G (target_of new G n i) is)))
  unfolding nodes
  first_or_later n i is t =
      elim (T_or (three G n) _ t) [
        | inl e ↦ inl (eqb→eq (mark G n) 3 e)
        | inr c ↦ inr (go (bool (goes_on G n (target_of new G n i))) (says (goes_on G n (target_of new G n i))) c)
      ]
    where
      go : (b : Bool) → (T b → Says (goes_on G n (target_of new G n i))) → T (any (three G) (elim b [ true ↦ nodes new G (target_of new G n i) is | false ↦ [] ]))
          → (mark G n ≡ 1) × T (any (three G) (nodes new G (target_of new G n i) is))
      go true k c = ((k tt).1.0, c)
      go false k c = absurd c

  -- following from n covers the rows, or n lies at or beyond a covered node
  Going : ℕ → List ℕ → Type 0
  Going n is = T (any (three G) (nodes new G n is)) ⊎ ((3 ≤ mark G n) × (mark G n ≤ 4))

  going_mark : (n : ℕ) (is : List ℕ) → Going n is → (mark G n ≢ 0) × (mark G n ≢ 2)
  unfolding Going nodes
  going_mark n is (inr h) = (λ e. omega arith, λ e. omega arith)
  going_mark n [] (inl t) = elim (T_or (three G n) false t) [ inl e ↦ (let q = eqb→eq (mark G n) 3 e in (λ e. omega arith, λ e. omega arith)) | inr z ↦ absurd z ]
  going_mark n (i ∷ is) (inl t) = elim (first_or_later n i is t) [ inl q ↦ (λ e. omega arith, λ e. omega arith) | inr q ↦ (λ e. omega (arith, q.0), λ e. omega (arith, q.0)) ]

  beyond : (n t : ℕ) → 3 ≤ mark G n → t ≢ 65535 → Says (ranked G.marks n t) → (3 ≤ mark G t) × (mark G t ≤ 4)
  unfolding ranked
  beyond n t h l (inl e) = absurd (l e)
  beyond n t h l (inr (inl k)) = absurd (omega (arith, k.0))
  beyond n t h l (inr (inr k)) = k.1

  going_next : (n i : ℕ) (is : List ℕ) → target_of new G n i ≢ 65535 → Says (ranked G.marks n (target_of new G n i)) → Going n (i ∷ is) → Going (target_of new G n i) is
  unfolding Going
  going_next n i is l k (inr h) = inr (beyond n (target_of new G n i) h.0 l k)
  going_next n i is l k (inl c) = elim (first_or_later n i is c) [ inl e ↦ inr (beyond n (target_of new G n i) (omega arith) l k) | inr c ↦ inl c.1 ]

-- ---- along the rows
module _ (X : Compared) (old-words : Words X.old.table) (new-words : Words X.new.table) (R : Record) (ok : Passed X R) where
  abbrev G : Graph
  G = R.graph

  abbrev at : ℕ → List ℕ → State
  at m w = record { place = m % 64; values = w }

  -- the claim for a list of rows, from any pair
  Claim : List ℕ → Type 0
  Claim is = (m : ℕ) (w : List ℕ) → Says (fair (heads_of X) (old_of m) (new_of m)) → Values w → T (reaches_from X.new (at m w) is) → Going X.new G m is → Onto X w (spot G m)

  at_old : (m : ℕ) (w : List ℕ) → m / 64 ≡ X.old.head.alarm → Onto X w (spot G m)
  at_old m w e = record { leads = λ v A. subst (λ (p : ℕ). Hits X.old p v) (sym e) (hits_here X.old v) }

  at_new : (m : ℕ) (w : List ℕ) → Says (fair (heads_of X) (old_of m) (new_of m)) → m % 64 ≡ X.new.head.alarm → Onto X w (spot G m)
  at_new m w (inl n) e = absurd (n e)
  at_new m w (inr e) t = at_old m w e

  -- a target that joins the step's pair
  joined_step : (q : NewPlace) (t : ℕ) {P : Spot → Type 0} (o : Option Spot) → OnSome P o → T (joins_step G.marks G.sets q t o) → (h : Spot) × Says (joins G.marks G.sets q t h) × P h
  unfolding joins_step
  joined_step q t None h x = absurd x
  joined_step q t (Some s) h x = (s, says (joins G.marks G.sets q t s) x, h)

  -- one row from a pair that is not at the old alarm
  module _ (m i : ℕ) (is : List ℕ) (w : List ℕ) (off : m / 64 ≢ X.old.head.alarm) (W : Values w)
      (inside : i < size X.new.table) (leaves : from X.new.table i ≡ m % 64) (let_by : lets (operation X.new.table i) w ≡ true)
      (re : T (reaches_from X.new (taken (row X.new.table i) (at m w)) is)) (g : Going X.new G m (i ∷ is)) (rec : Claim is) where
    o : Operation
    o = operation X.new.table i

    q : NewPlace
    q = record { 0 = to X.new.table i }

    t : ℕ
    t = target_of X.new G m i

    small : m < 4096
    small =
        let gm = going_mark X.new G m (i ∷ is) g in
        elim (ok.marks m (ok.marked m gm.0)) [ inl e ↦ absurd (gm.0 e) | inr x ↦ elim x.1 [ inl y ↦ y.0 | inr y ↦ absurd (gm.1 y.1) ] ]

    onward : Says (ranked G.marks m t) → mark G t ≢ 0 → Going X.new G t is
    unfolding t
    onward k h = let l = ok.marked t h in going_next X.new G m i is (λ e. omega arith) k g

    arrive : Says (ranked G.marks m t) → (h : Spot) → Says (joins G.marks G.sets q t h) → Says (fair (heads_of X) h.place q) → Onto X (after o w) h
    unfolding Claim joins o q
    arrive k h x a =
        let b = (ok.new-faultless.rows i inside).to_below in
        let f = ok.new-faultless.few_places in
        let e : h.place.0 ≡ t / 64 = omega (arith, x.0) in
        let e' : to X.new.table i ≡ t % 64 = omega (arith, x.0) in
        let c = new-words.small (i * 6 + 5) in
        let r = rec t (after o w) (subst₂ (λ (p q : ℕ). Says (fair (heads_of X) (record { 0 = p }) (record { 0 = q }))) e e' a) (values-after o w c W)
        (subst (λ (q : ℕ). T (reaches_from X.new (record { place = q; values = after o w }) is)) e' re) (onward k x.1.0) in
        record { leads = λ v A. subst (λ (p : ℕ). Hits X.old p v) (sym e) (r.leads v (agree_wider A (set_at G t) (is_true _ x.1.1))) }

    turn : Says (leads X G m o q t) → Says (ranked G.marks m t) → Onto X w (spot G m)
    unfolding leads keeps o
    turn (inl x) k = absurd (off x.0)
    turn (inr (n, inl x)) k = absurd ((going_mark X.new G t is (onward k (λ e. omega (arith, x.1)))).1 x.1)
    turn (inr (n, inr x)) k =
        let z = joined_step q t (step X (spot G m) o q)
        (step_onto X ok.old-faultless old-words.small w W (spot G m) o q (operands X.new ok.new-faultless new-words.small i inside) let_by) x in
        z.2.0 (arrive k z.0 z.1 z.2.1)

    advance : Onto X w (spot G m)
    unfolding o q t
    advance =
        let c = let_takable o w W (operands X.new ok.new-faultless new-words.small i inside) let_by in
        let r = rule X new-words R ok m i small (going_mark X.new G m (i ∷ is) g).0 inside leaves c in
        turn r.0 r.1

  along : (is : List ℕ) → Claim is
  unfolding Claim
  along [] m w a W re g = at_new m w a (reaches_nil X.new (at m w) re)
  along (i ∷ is) m w a W re g =
      elim (ℕ_discrete (m / 64) X.old.head.alarm) [
        | yes e ↦ at_old m w e
        | no n ↦ elim (reaches_cons X.new (at m w) i is re) [
          | inl t ↦ at_new m w a t
          | inr x ↦ (let r = is-ready X.new (at m w) i x.0 in advance m i is w n W r.0 r.1 r.2 x.1 g (along is))
        ]
      ]

-- DEMAND 3, FIRST HALF
pub demand_3_first : (X : Compared) → Words X.old.table → Words X.new.table → (R : Record) → refusal X R ≡ None → Promise X R
unfolding start_fits covered Going Claim
demand_3_first X ow nw R e v is W re c =
    let ok = passed X R e in
    let from_start : T (reaches_from X.new (begin X.new v) is) = T_true (sym (from-begin X.new v is) ∙ re) in
    elim ok.starts [
      | inl s ↦ (
          let h = (along X ow nw R ok is 0 v s.1.1 W from_start (inl (subst (λ (n : ℕ). T (any (three R.graph) (nodes X.new R.graph n is))) s.0 (T_true c)))).leads v (agree_same-values (set_at R.graph 0) v W) in
          (h.rows, from-begin X.old v h.rows ∙ is_true _ h.lead)
          )
      | inr s ↦ absurd ((going_mark X.new R.graph 4096 is (inl (subst (λ (n : ℕ). T (any (three R.graph) (nodes X.new R.graph n is))) s.0 (T_true c)))).1 s.1)
    ]
