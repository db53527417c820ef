-- Sets of pairs that say where to look, as marks and sets change. Assumes nothing.
use mathlib.Core.Path.{◌≡◌, sym, ◌∙◌}
use mathlib.Core.List.{List}
use mathlib.Core.Logic.{⊎_elim, dite}
use Prim.Native.Nat.{ℕ, ◌+◌, ◌*◌, ◌/◌, ◌≤◌, ◌<◌}
use native.Mathlib.Omega.{arith}
use native.Mathlib.Decide.{ℕ_discrete}
use lib.ListN.{length, get_or, set, get_or-eq_default}
use lib.Seq.{get_or-set_same, get_or-set_other}
use Rattle.words.specs.inner.Words.{Member, removed}
use Rattle.words.proofs.Words.{length_removed, removed_other, none_in}
use Rattle.marker.specs.inner.Seen.{Holds, HoldsBeyond}
use Rattle.marker.specs.Marks.{plain_marks, all_opened}
use Rattle.marker.specs.inner.Openings.{Opened, Tried}
use Rattle.marker.proofs.Marks.{plain_ranks}
use Rattle.marker.proofs.Orders.{opened_at, some-opened}

-- words that are not there have no members
pub none_past : (w : List ℕ) (k : ℕ) → 64 * length w ≤ k → Member w k → ⊥
none_past w k l = none_in w k (get_or-eq_default w 0 {n = k / 64} (omega arith))

-- ---- every pair with a mark
-- where what has no mark gets none
pub holds_kept : {w x y : List ℕ} → Holds w x → ((k : ℕ) → get_or x k 0 ≡ 0 → get_or y k 0 ≡ 0) → Holds w y
holds_kept {x = x} H z =
    record { most = H.most; has = λ n b p. H.has n b (dite (ℕ_discrete (get_or x n 0) 0) (λ e. absurd (omega (arith, z n e))) (λ e. omega arith)) }

module _ {w x : List ℕ} (H : Holds w x) where
  -- an old place of which no pair was seen
  pub none_seen : (p : ℕ) → p < 64 → get_or w p 0 ≡ 0 → (k : ℕ) → 64 * p ≤ k → k < 64 * p + 64 → get_or x k 0 ≡ 0
  none_seen p l e k a b =
      let y : k / 64 ≡ p = omega arith in
      dite (ℕ_discrete (get_or x k 0) 0) (λ f. f) (λ f. absurd (none_in w k (rw y e) (H.has k (omega arith) (omega arith))))

  pub unmarked_past : (k : ℕ) → 64 * length w ≤ k → k < 4096 → get_or x k 0 ≡ 0
  unmarked_past k a b = dite (ℕ_discrete (get_or x k 0) 0) (λ f. f) (λ f. absurd (none_past w k a (H.has k b (omega arith))))

  -- the start pair, which becomes open, is a member
  pub holds_started : {y z : List ℕ} {n : ℕ} → length x ≡ 4160 → n < 4096 → Member w n → y ≡ plain_marks x → z ≡ set y n 1 → Holds w z
  holds_started {n = n} l b s f g =
      let P = holds_kept {y = plain_marks x} H (plain_ranks x l).absent in
      rw (g, f)
      (record {
        most = P.most;
        has = λ k c p. dite (ℕ_discrete k n) (λ q. rw q s) (λ q. P.has k c (omega (arith, get_or-set_other (plain_marks x) n k 1 0 q)));
      })

  pub holds_opened : (t : List ℕ) {y : List ℕ} → length x ≡ 4160 → y ≡ all_opened t x → Holds w y
  holds_opened t l e = rw e (holds_kept H (λ k z. ⊎_elim (λ s. s ∙ z) (λ s. absurd (omega (arith, s.0))) (opened_at t l (some-opened t l).1 k)))

-- ---- every pair beyond
module _ {w x : List ℕ} (H : HoldsBeyond w x) where
  pub beyond_opened : {t y : List ℕ} {n : ℕ} → length x ≡ 4160 → Opened t x n y → HoldsBeyond w y
  beyond_opened {t} l o = record { most = H.most; has = λ k b p. H.has k b (⊎_elim (λ s. sym s ∙ p) (λ s. s.0) (opened_at t l o k)) }

  module _ {t y : List ℕ} {i r : ℕ} (T : Tried t x i r y) where
    pub beyond_out : {v : List ℕ} → i < 64 * length w → (r ≡ 0 → ⊥) → v ≡ removed w i → length x ≡ 4160 → HoldsBeyond v y
    beyond_out b h e l =
        rw (e, T.here h)
        (record {
          most = omega (arith, length_removed w i, H.most);
          has = λ k c p. dite (ℕ_discrete k i) (λ q. absurd (omega (arith, rw q at p, get_or-set_same x i 1 0 (omega (arith, H.most)))))
              (λ q. removed_other w i (omega arith) k q (H.has k c (sym (get_or-set_other x i k 1 0 q) ∙ p)));
        })
