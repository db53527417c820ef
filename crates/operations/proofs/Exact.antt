-- The test of two assumptions is exact. Assumes nothing.
use Rattle.std.proofs.Common.{◌≡◌, ℕ, zero, suc, ◌^◌, ◌<◌, Bool, true, false, cond, not, T, eqb, ◌↔◌, List, [], ◌∷◌, length, get_or, sym, refl, ap, ◌∙◌, subst, ap₂, subst₂, le_of_suc-le-suc, not-suc-le-zero, mod-lt, T_not, pow_pos}
use lib.Dec.{not_T}
use Rattle.std.specs.Prelude.{Option, Some, None, unwrap_or}
use Rattle.operations.specs.declared.Operation.{Operation}
use Rattle.operations.specs.declared.assumptions.Implication.{Implication}
use Rattle.operations.specs.declared.assumptions.Implication.TheVariants.{Never, Implied, NotImplied}
use Rattle.operations.specs.declared.inner.trials.Seats.{Seats}
use Rattle.operations.specs.Operations.{is_assumption, with_constant, plus, order, relation, related_in, holds}
use Rattle.operations.specs.Values.{Values, var}
use Rattle.operations.specs.Assumptions.{Operands, NeverHolds, Implies, ExactlyOne, Means}
use Rattle.operations.specs.Trials.{alike, inside, own, joint, seats, trial, points_of, shown, shown_by, together, never, never_holds, implies, exclusive, implication}
use Rattle.base.proofs.Tests.{T_and, T_both, T_true, is_true, differ, yields, opposite, and_true}
use Rattle.base.proofs.Lists.{any_at, any_all}
use Rattle.operations.proofs.Trials.{bound-small, points-small, tried}

pub alike_self : (b : Bool) → T (alike b b)
alike_self true = tt
alike_self false = tt

pub alike_is : (a b : Bool) → T (alike a b) → b ≡ a
alike_is true true t = refl
alike_is true false t = absurd t
alike_is false true t = absurd t
alike_is false false t = refl

-- ---- values by number of the variable, as a list
tab : (ℕ → ℕ) → ℕ → List ℕ
tab v zero = []
tab v (suc n) = v zero ∷ tab (λ k. v (suc k)) n

length_tab : (v : ℕ → ℕ) (n : ℕ) → length (tab v n) ≡ n
unfolding tab
length_tab v zero = refl
length_tab v (suc n) = ap suc (length_tab (λ k. v (suc k)) n)

tab_at : (v : ℕ → ℕ) (n k : ℕ) → k < n → get_or (tab v n) k 0 ≡ v k
unfolding tab
tab_at v zero k h = absurd (not-suc-le-zero h)
tab_at v (suc n) zero h = refl
tab_at v (suc n) (suc k) h = tab_at (λ k. v (suc k)) n k (le_of_suc-le-suc h)

tab_small : (v : ℕ → ℕ) (n : ℕ) → ((k : ℕ) → v k < 2 ^ 32) → (k : ℕ) → get_or (tab v n) k 0 < 2 ^ 32
unfolding tab
tab_small v zero h k = pow_pos 32
tab_small v (suc n) h zero = h zero
tab_small v (suc n) h (suc k) = tab_small (λ k. v (suc k)) n (λ k. h (suc k)) k

holds_tab : (f : Operation) → Operands f → (v : ℕ → ℕ) → holds f (var (tab v 64)) ≡ holds f v
unfolding holds
holds_tab f F v =
    ap₂ (λ (m n : ℕ). related_in (order f) (relation f) m (cond (with_constant f) f.c n))
    (tab_at v 64 f.a F.a) (tab_at v 64 f.b F.b)

trial-small : (s : Seats) → unwrap_or s.rest 0 < 2 ^ 32 → (x y : ℕ) → x < 2 ^ 32 → y < 2 ^ 32 → (k : ℕ) → trial s x y k < 2 ^ 32
unfolding trial
trial-small s h x y hx hy k = pick (eqb k s.first) hx (pick (eqb k s.second) hy (other s.rest h))
  where
    other : (o : Option ℕ) → unwrap_or o 0 < 2 ^ 32 → unwrap_or o y < 2 ^ 32
    other None h = hy
    other (Some z) h = h

    pick : (b : Bool) {m n : ℕ} → m < 2 ^ 32 → n < 2 ^ 32 → cond b m n < 2 ^ 32
    pick true h k = h
    pick false h k = k

-- values by number of the variable, each a u32
abbrev pub Small : (ℕ → ℕ) → Type 0
Small v = (k : ℕ) → v k < 2 ^ 32

module _ (f g : Operation) (hf : f.c < 2 ^ 32) (hg : g.c < 2 ^ 32) where
  l : List ℕ
  l = points_of f g

  -- what values do, some trial does
  pub covered_by : (v : ℕ → ℕ) → Small v → {p q : Bool} → holds f v ≡ p → holds g v ≡ q → T (together f p g q)
  unfolding together shown l
  covered_by v W {p} {q} a b =
      let t = tried f g hf hg v W in
      any_at (shown_by (seats f g) f p g q l) l t.x t.x_in (any_at (shown (seats f g) f p g q t.x) l t.y t.y_in
      (rw (t.same_f, t.same_g, a, b) (T_both (alike p p) (alike q q) (alike_self p) (alike_self q))))

  rest-small : unwrap_or (seats f g).rest 0 < 2 ^ 32
  unfolding seats
  rest-small = go (inside f g) (inside g f)
    where
      go : (a b : Bool)
          → unwrap_or (cond a (joint f.a) (cond b (joint g.a) (record { first = own f g; second = own g f; rest = Some (plus (order f) 1) }))).rest 0 < 2 ^ 32
      go true b = pow_pos 32
      go false true = pow_pos 32
      go false false = mod-lt _ (pow_pos 32)

  -- what some trial does, values do
  pub found_by : (p q : Bool) → T (together f p g q) → (v : ℕ → ℕ) × Small v × (holds f v ≡ p) × (holds g v ≡ q)
  unfolding together shown l
  found_by p q t =
      let S = points-small f g (bound-small f hf) (bound-small g hg) in
      let (x, hx, t') = any_all (shown_by (seats f g) f p g q l) (λ x. x < 2 ^ 32) l S t in
      let (y, hy, t'') = any_all (shown (seats f g) f p g q x) (λ x. x < 2 ^ 32) l S t' in
      let e = trial (seats f g) x y in
      let (a, b) = T_and (alike p (holds f e)) (alike q (holds g e)) t'' in
      (e, trial-small (seats f g) rest-small x y hx hy, alike_is p (holds f e) a, alike_is q (holds g e) b)

module _ (f g : Operation) (F : Operands f) (G : Operands g) where
  pub covered : (v : List ℕ) → Values v → T (together f (holds f (var v)) g (holds g (var v)))
  covered v W = covered_by f g F.c G.c (var v) W.small refl refl

  pub found : (p q : Bool) → T (together f p g q) → (v : List ℕ) × Values v × (holds f (var v) ≡ p) × (holds g (var v) ≡ q)
  found p q t =
      let (e, s, a, b) = found_by f g F.c G.c p q t in
      (tab e 64, record { count = length_tab e 64; small = tab_small e 64 s }, holds_tab f F e ∙ a, holds_tab g G e ∙ b)

  -- no trial shows it: no values do it
  pub never-so : (p q : Bool) → T (not (together f p g q)) ↔ ((v : List ℕ) → Values v → holds f (var v) ≡ p → holds g (var v) ≡ q → ⊥)
  never-so p q = (
    λ t v W a b. T_not (together f p g q) t (subst₂ (λ (m n : Bool). T (together f m g n)) a b (covered v W)),
    λ h. not_T (together f p g q) (λ t. let (v, W, a, b) = found p q t in h v W a b),
  )

  -- f implies g: all values that meet f meet g
  pub implies_exact : T (implies f g) ↔ Implies f g
  implies_exact =
      (λ t v W h. yields (holds g (var v)) ((never-so true false).0 t v W h), λ h. (never-so true false).1 (λ v W a b. differ true (sym (h v W a) ∙ b)))

  -- exactly one of f and g is met, whatever the values
  pub exclusive_exact : T (exclusive f g) ↔ ExactlyOne f g
  exclusive_exact = (
    λ t v W. let (m, n) = T_and (not (together f true g true)) (not (together f false g false)) t in
        opposite (holds f (var v)) (holds g (var v)) ((never-so true true).0 m v W) ((never-so false false).0 n v W),
    λ h. T_both (not (together f true g true)) (not (together f false g false)) ((never-so true true).1 (one h true)) ((never-so false false).1 (one h false)),
  )
    where
      one : ExactlyOne f g → (b : Bool) (v : List ℕ) → Values v → holds f (var v) ≡ b → holds g (var v) ≡ b → ⊥
      one h b v W p q = differ b (sym p ∙ h v W ∙ ap not q)

-- no values meet f
pub never_exact : (f : Operation) → Operands f → T (never f) ↔ NeverHolds f
never_exact f F = (λ t v W h. (never-so f f F F true true).0 t v W h h, λ h. (never-so f f F F true true).1 (λ v W a b. h v W a))

-- what the test of two assumptions answers is so
pub implication_means : (f g : Operation) → Operands f → Operands g → Means (implication f g) f g
implication_means f g F G = go (never f) (implies f g) (never_exact f F) (implies_exact f g F G)
  where
    go : (n i : Bool) → T n ↔ NeverHolds f → T i ↔ Implies f g → Means (cond n Never (cond i Implied NotImplied)) f g
    go true i n m = n.0 tt
    go false true n m = (n.1, m.0 tt)
    go false false n m = (n.1, m.1)

-- exactly one holds where the test says so, and only there
pub exclusive_means : (f g : Operation) → Operands f → Operands g → (exclusive f g ≡ true) ↔ ExactlyOne f g
exclusive_means f g F G = (λ e. (exclusive_exact f g F G).0 (T_true e), λ h. is_true (exclusive f g) ((exclusive_exact f g F G).1 h))

-- no values meet it where the test says so, and only there
pub never_means : (f : Operation) → Operands f → (never f ≡ true) ↔ NeverHolds f
never_means f F = (λ e. (never_exact f F).0 (T_true e), λ h. is_true (never f) ((never_exact f F).1 h))

-- ---- a row that never holds
-- it is an assumption that no values meet, and there is no other
pub never-holds_means : (o : Operation) → Operands o → (never_holds o ≡ true) ↔ ((is_assumption o ≡ true) × NeverHolds o)
unfolding never_holds
never-holds_means o F = (
  λ e. let z = and_true (is_assumption o) (never o) e in (z.0, (never_means o F).0 z.1),
  λ h. rw h.0 ((never_means o F).1 h.1),
)

-- what the tests of the code ensure: their answer, and what it means
with_meaning : {A : Type 0} {r x : A} (P : A → Type 0) → P x → r ≡ x → (r ≡ x) × P r
with_meaning P p e = (e, subst P (sym e) p)

pub never_tested : (f : Operation) {r : Bool} → r ≡ never f → (r ≡ never f) × (Operands f → (r ≡ true) ↔ NeverHolds f)
never_tested f = with_meaning (λ (r : Bool). Operands f → (r ≡ true) ↔ NeverHolds f) (never_means f)

module _ (f g : Operation) where
  pub tested : {r : Implication} → r ≡ implication f g → (r ≡ implication f g) × (Operands f → Operands g → Means r f g)
  tested = with_meaning (λ (r : Implication). Operands f → Operands g → Means r f g) (implication_means f g)

  pub one_tested : {r : Bool} → r ≡ exclusive f g → (r ≡ exclusive f g) × (Operands f → Operands g → (r ≡ true) ↔ ExactlyOne f g)
  one_tested = with_meaning (λ (r : Bool). Operands f → Operands g → (r ≡ true) ↔ ExactlyOne f g) (exclusive_means f g)
