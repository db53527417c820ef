-- Values that agree outside a set, and what the operations make of them. Assumes nothing.
use mathlib.Core.Path.{◌≡◌, refl, sym, subst, ◌∙◌}
use mathlib.Core.Bool.{true, false}
use mathlib.Core.Logic.{dite}
use mathlib.Core.List.{List, [], ◌∷◌}
use Prim.Native.Nat.{ℕ, ◌<◌}
use native.Mathlib.Decide.{ℕ_discrete, dec_lt}
use native.Mathlib.Omega.{arith}
use lib.Dec.{T, eqb, eqb_refl}
use lib.ListN.{length, set, length-set, get_or-eq_default}
use lib.Seq.{get_or-set_same, get_or-set_other}
use Rattle.base.proofs.Lists.{has as among, All}
use Rattle.base.proofs.Tests.{T_or_l, T_or_r}
use Rattle.operations.specs.declared.Operation.{Operation}
use Rattle.operations.specs.Operations.{is_assignment, is_assumption, reads, value, holds}
use Rattle.operations.specs.Values.{Values, var}
use Rattle.operations.proofs.Meaning.{Agree as SameOn, value-reads, holds-reads}
use Rattle.sets.specs.Sets.{with, without, meets, holds_all, set_of}
use Rattle.align.specs.Reads.{read_set}
use Rattle.sets.proofs.Sets.{In, with-old, without-kept, meet_none, holds_in, set_of_in}

-- two lists of 64 values that agree on every variable outside the set
pub record Agree (s : ℕ) (v w : List ℕ) : Type 0 where
  pub first : length v ≡ 64
  pub second : length w ≡ 64
  pub outside : (i : ℕ) → i < 64 → (In i s → ⊥) → var v i ≡ var w i

-- what is so of each element of a list
each_of : (P : ℕ → Type 0) (l : List ℕ) → ((i : ℕ) → T (among l i) → P i) → All P l
each_of P [] h = tt
each_of P (x ∷ l) h = (h x (T_or_l (eqb x x) (among l x) (eqb_refl x)), each_of P l (λ i t. h i (T_or_r (eqb i x) (among l i) t)))

pub agree_same-values : (s : ℕ) (v : List ℕ) → Values v → Agree s v v
agree_same-values s v W = record { first = W.count; second = W.count; outside = λ i l n. refl }

module _ {s : ℕ} {v w : List ℕ} (A : Agree s v w) where
  -- past the 64 variables there is nothing
  at : (i : ℕ) → (In i s → ⊥) → var v i ≡ var w i
  at i n =
      dite (dec_lt i 64) (λ l. A.outside i l n)
      (λ l. get_or-eq_default v 0 {n = i} (omega (arith, A.first)) ∙ sym (get_or-eq_default w 0 {n = i} (omega (arith, A.second))))

  same_on : (o : Operation) → meets s (read_set o) ≡ false → SameOn (var v) (var w) (reads o)
  unfolding read_set
  same_on o m = each_of (λ i. var v i ≡ var w i) (reads o) (λ i t. at i (λ h. meet_none s (set_of (reads o)) i m h (set_of_in (reads o) i t)))

  pub value_agrees : (o : Operation) → is_assignment o ≡ true → meets s (read_set o) ≡ false → value o (var v) ≡ value o (var w)
  value_agrees o t m = value-reads o t (var v) (var w) (same_on o m)

  pub holds_agrees : (o : Operation) → is_assumption o ≡ true → meets s (read_set o) ≡ false → holds o (var v) ≡ holds o (var w)
  holds_agrees o t m = holds-reads o t (var v) (var w) (same_on o m)

  -- what is written within the set makes no difference
  pub write_new : (a x : ℕ) → In a s → Agree s v (set w a x)
  write_new a x h =
      record {
        first = A.first;
        second = length-set w a x ∙ A.second;
        outside = λ i l n. A.outside i l n ∙ sym (get_or-set_other w a i x 0 (λ e. n (subst (λ (k : ℕ). In k s) (sym e) h)));
      }

  pub write_old : (a x : ℕ) → In a s → Agree s (set v a x) w
  write_old a x h =
      record {
        first = length-set v a x ∙ A.first;
        second = A.second;
        outside = λ i l n. get_or-set_other v a i x 0 (λ e. n (subst (λ (k : ℕ). In k s) (sym e) h)) ∙ A.outside i l n;
      }

  pub agree_with : (a : ℕ) → Agree (with s a) v w
  agree_with a = record { first = A.first; second = A.second; outside = λ i l n. A.outside i l (λ h. n (with-old i s a h)) }

  pub agree_wider : (t : ℕ) → holds_all t s ≡ true → Agree t v w
  agree_wider t k = record { first = A.first; second = A.second; outside = λ i l n. A.outside i l (λ h. n (holds_in t s i k h)) }

  -- what is written to both agrees from then on
  pub agree_both : (a x : ℕ) → a < 64 → Agree (without s a) (set v a x) (set w a x)
  agree_both a x la =
      record {
        first = length-set v a x ∙ A.first;
        second = length-set w a x ∙ A.second;
        outside = λ i l n. dite (ℕ_discrete i a)
            (λ e. subst (λ (k : ℕ). var (set v a x) k ≡ var (set w a x) k) (sym e) (get_or-set_same v a x 0 (omega (arith, A.first)) ∙ sym (get_or-set_same w a x 0 (omega (arith, A.second)))))
            (λ e. get_or-set_other v a i x 0 e ∙ A.outside i l (λ h. n (without-kept i s a l la e h)) ∙ sym (get_or-set_other w a i x 0 e));
      }
