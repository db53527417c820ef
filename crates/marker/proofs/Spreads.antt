-- Pairs opened by passes and by rounds between them, in the form in which the code meets them. Assumes nothing.
use mathlib.Core.Path.{◌≡◌, refl, ◌∙◌}
use mathlib.Core.Logic.{dite}
use mathlib.Core.List.{List}
use Prim.Native.Nat.{ℕ, ◌+◌, ◌<◌}
use native.Mathlib.Omega.{arith}
use native.Mathlib.Decide.{ℕ_discrete}
use lib.ListN.{length}
use Rattle.sets.specs.Sets.{joined}
use Rattle.marker.specs.Marks.{all_opened}
use Rattle.marker.specs.inner.Openings.{none_yet, Tried, Swept}
use Rattle.marker.specs.inner.Seen.{HoldsBeyond}
use Rattle.marker.specs.inner.Spreads.{Spread, Passed}
use Rattle.marker.proofs.Marks.{fours}
use Rattle.marker.proofs.Seen.{beyond_opened}
use Rattle.marker.proofs.Orders.{opened-long, opened_then, opened_fours, any_order, swept_rests, Sweeping}

joined-none : ◌≡◌ {A = ℕ} (joined 0 0) 0
unfolding joined
joined-none = refl

module _ (t : List ℕ) where
  pub spread_none : (x : List ℕ) → Spread t x 0 x
  spread_none x = record { count = 0; did = none_yet; long = refl; some = λ h. absurd (h refl) }

  pub spread_tried : {x y z : List ℕ} {i n r : ℕ} → Spread t x n y → Tried t y i r z → Spread t x (n + r) z
  spread_tried {n = n} {r = r} S T =
      record {
        count = S.count + r;
        did = opened_then t S.did T.did;
        long = opened-long t T.did ∙ S.long;
        some = λ h. dite (ℕ_discrete n 0) (λ e. dite (ℕ_discrete r 0) (λ f. absurd (h (omega arith))) (λ f. omega arith)) (λ e. omega (arith, S.some e));
      }

  module _ {x y : List ℕ} {n : ℕ} (S : Spread t x n y) where
    pub spread_zero : Spread t x 0 y
    spread_zero = record { count = S.count; did = S.did; long = S.long; some = λ h. absurd (h refl) }

    pub spread_then : {z : List ℕ} {b r : ℕ} → Spread t y b z → r ≡ joined n b → Spread t x r z
    spread_then {b = b} {r = r} R q =
        record {
          count = S.count + R.count;
          did = opened_then t S.did R.did;
          long = R.long ∙ S.long;
          some = λ h. dite (ℕ_discrete n 0) (λ e. dite (ℕ_discrete b 0) (λ f. absurd (h (zero e f))) (λ f. omega (arith, R.some f))) (λ e. omega (arith, S.some e));
        }
      where
        zero : n ≡ 0 → b ≡ 0 → r ≡ 0
        zero e f = q ∙ rw (e, f) joined-none

  -- ---- the loop of rounds
  module _ {x y z : List ℕ} {r : ℕ} (W : Sweeping t x y) (S : Spread t y r z) where
    pub rounds_again : Sweeping t x z
    rounds_again = record { long = W.long; same = S.long ∙ W.same; count = W.count + S.count; did = opened_then t W.did S.did }

    pub rounds_less : (r ≡ 0 → ⊥) → fours t z < fours t y
    rounds_less h = omega (arith, opened_fours t (W.same ∙ W.long) S.did, S.some h)

    pub rounds_done : Spread t x 0 z
    rounds_done = record { count = W.count + S.count; did = opened_then t W.did S.did; long = S.long ∙ W.same; some = λ h. absurd (h refl) }

  -- ---- a pass down and one up
  module _ {x y : List ℕ} {r : ℕ} (S : Swept t x 0 4096 r y) (l : length x ≡ 4160) where
    spread_swept : Spread t x r y
    spread_swept = record { count = r; did = S.did; long = S.long; some = λ h. omega arith }

    pub passed_one : r ≡ 0 → Passed t x 0 y
    passed_one e = record { spread = spread_zero spread_swept; rests = λ h. swept_rests t l (rw e at S) }

    pub passed_two : {z : List ℕ} {n : ℕ} → (r ≡ 0 → ⊥) → Swept t y 0 4096 n z → Passed t x n z
    passed_two {n = n} h R =
        record {
          spread = record { count = r + n; did = opened_then t S.did R.did; long = R.long ∙ S.long; some = λ q. omega arith };
          rests = λ e. swept_rests t (S.long ∙ l) (rw e at R);
        }

  -- ---- the loop of passes, with rounds between them
  pub passes_done : {x y z : List ℕ} {r : ℕ} → Sweeping t x y → Passed t y r z → r ≡ 0 → z ≡ all_opened t x
  passes_done W P e = any_order t W.long (opened_then t W.did P.spread.did) (P.rests e)

  pub passes_rest : {x y z u : List ℕ} {r : ℕ} → Sweeping t x y → Spread t y r z → HoldsBeyond u y → HoldsBeyond u z
  passes_rest W S H = beyond_opened H (W.same ∙ W.long) S.did

  -- what was opened is beyond no more, whatever was opened after it
  pub passes_less : {x y z v : List ℕ} {r : ℕ} → Sweeping t x y → Passed t y r z → (r ≡ 0 → ⊥) → Sweeping t z v → fours t v < fours t y
  passes_less W P h Z = omega (arith, rounds_less W P.spread h, opened_fours t Z.long Z.did)
