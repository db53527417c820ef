-- How the code opens pairs (lines 2 to 5 of Algorithm 1), in another order: contracts of inner functions, of which no
-- rule of document 01 speaks. `any_order` (proofs/Orders.antt) says that it ends in the same marks.
use Rattle.std.specs.Prelude.{◌≡◌, true, false, List, ℕ, suc, ◌-◌, ◌≤◌, ◌<◌, length, get_or, set}
use Rattle.marker.specs.Marks.{opening}

-- n pairs opened one after another, in any order, each beyond and with an open or kept target when it is (lines 3 to 5)
pub data Opened (t x : List ℕ) : ℕ → List ℕ → Type 0 where
  none_yet : Opened t x 0 x
  one_more : {n : ℕ} {y : List ℕ} (i : ℕ) → Opened t x n y → i < 4096 → opening t y i (get_or y i 0) ≡ true
      → Opened t x (suc n) (set y i 1)

-- pair i was opened, if it was to be: y is what x has become, n how many were opened
pub record Tried (t x : List ℕ) (i n : ℕ) (y : List ℕ) : Type 0 where
  pub did : Opened t x n y
  pub most : n ≤ 1
  pub here : (n ≡ 0 → ⊥) → y ≡ set x i 1
  pub else_not : n ≡ 0 → (y ≡ x) × (opening t x i (get_or x i 0) ≡ false)

-- so were the pairs from i up to e
pub record Swept (t x : List ℕ) (i e n : ℕ) (y : List ℕ) : Type 0 where
  pub did : Opened t x n y
  pub long : length y ≡ length x
  pub near : i ≤ e
  pub most : n ≤ e - i
  pub else_not : n ≡ 0 → (y ≡ x) × ((k : ℕ) → i ≤ k → k < e → opening t x k (get_or x k 0) ≡ false)
