-- How many nodes have a mark. Assumes nothing.
use mathlib.Core.Path.{◌≡◌, refl, ◌∙◌}
use mathlib.Core.List.{List}
use Prim.Native.Nat.{ℕ, ◌+◌, ◌≤◌, ◌<◌}
use native.Mathlib.Omega.{arith}
use borrow.Author.Tests.{eq-eqb, eqb-true}
use lib.Dec.{eqb}
use lib.ListN.{length, get_or, drop, length-drop}
use lib.Seq.{get_or-drop}
use Rattle.base.specs.Walks.{count}
use Rattle.base.proofs.Counts.{count_same, count-here, count_gap, count_few}
use Rattle.marker.specs.declared.inner.marks.Counts.{Counts}
use Rattle.marker.specs.inner.Counts.{Counted}

-- ---- the counts of the pass that covers
-- x and y have the same open pairs
abbrev pub Ones : List ℕ → List ℕ → Type 0
Ones x y = (k : ℕ) → eqb (get_or x k 0) 1 ≡ eqb (get_or y k 0) 1

pub ones_at : (x y : List ℕ) → Ones x y → (k : ℕ) → get_or y k 0 ≡ 1 → get_or x k 0 ≡ 1
ones_at x y h k e = eqb-true (get_or x k 0) 1 (h k ∙ eq-eqb (get_or y k 0) 1 e)

pub ones_drop : (x y : List ℕ) → Ones x y → length x ≡ length y → (i : ℕ) → count 1 (drop i x) ≡ count 1 (drop i y)
ones_drop x y h l i = count_same 1 (drop i x) (drop i y) (simp length-drop (omega arith)) (λ k. rw (get_or-drop, get_or-drop) (h (i + k)))

pub counted_none : (x : List ℕ) (i : ℕ) (so : Counts) → Counted x x i i so so
counted_none x i so = record { opened = refl; covered = refl }

module _ {x y : List ℕ} {i e : ℕ} {so to : Counts} (C : Counted x y i e so to) where
  -- so few that sums of them are numbers of the machine
  pub counted_few : length x ≡ 4160 → length y ≡ 4160 → (to.opened ≤ so.opened + 4160) × (to.covered ≤ so.covered + 4160)
  counted_few l m = (omega (arith, C.opened, count_few 1 x i), omega (arith, C.covered, count_few 3 y 0))

  -- pairs that are not open
  pub counted_past : (j : ℕ) → e ≤ j → j ≤ length x → ((k : ℕ) → e ≤ k → k < j → get_or x k 0 ≡ 1 → ⊥) → Counted x y i j so to
  counted_past j a b h = record { opened = omega (arith, C.opened, count_gap 1 x j a b h); covered = C.covered }

  -- an open one, which covers n
  pub counted_open : {z : List ℕ} (n : ℕ) → e < length x → get_or x e 0 ≡ 1 → count 3 z ≡ n + count 3 y
      → Counted x z i (e + 1) so (record { opened = to.opened + 1; covered = to.covered + n })
  counted_open n b o c = record { opened = omega (arith, C.opened, count-here 1 x e b o); covered = omega (arith, C.covered) }

  -- one span after another
  pub counted_then : {z : List ℕ} {j : ℕ} {r : Counts} → Ones y x → length y ≡ length x → Counted y z e j to r → Counted x z i j so r
  counted_then {j = j} h l D =
      record { opened = omega (arith, C.opened, D.opened, ones_drop y x h l e, ones_drop y x h l j); covered = omega (arith, C.covered, D.covered) }
