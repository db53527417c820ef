-- Laws of tables: fields that are read into one. Assumes nothing.
use Rattle.std.proofs.Common.{◌≡◌, ℕ, suc, ◌+◌, ◌-◌, ◌<◌, ◌≤◌, List, [], ◌∷◌, ◌++◌, length, take, drop, set, sym, refl, ap, ◌∙◌, append_assoc, append-nil, add-one, arith, length-set, take-append-drop, length-take-le, drop-drop, take-suc-set, drop-set-lt}
use Rattle.text.specs.declared.causes.Unfit.{Unfit}
use Rattle.text.specs.declared.fields.Number.{Number}
use Rattle.std.specs.Prelude.{Ok, Err}
use Rattle.text.specs.Fields.{Field, item_at}
use Rattle.text.specs.inner.Walk.{numbers_at, laid, Reach, reach_at}

-- ---- fields are read into a table

-- a table whose front of i entries is new
laid-front : (table₀ table l : List ℕ) (i : ℕ) → i ≤ length table → l ≡ take i table → drop i table ≡ drop i table₀ → table ≡ laid l table₀
laid-front table₀ table l i h e d =
    let n : length l ≡ i = ap length e ∙ length-take-le i table h in
    sym (take-append-drop i table) ∙ rw (n, e, d)

-- i of the n fields are in the table, and reading the others after them gives what reading all gives
pub record Reading (n k : ℕ) (text : List ℕ) (at : ℕ) (table₀ table : List ℕ) (p i : ℕ) : Type 0 where
  pub is : reach_at n k text at ≡ reach_at (n - i) (k + i) text p
  pub numbers : numbers_at n k text at ≡ take i table ++ numbers_at (n - i) (k + i) text p
  pub rest : drop i table ≡ drop i table₀
  pub most : i ≤ n
  pub long : length table ≡ length table₀

pub reading_start : (n k : ℕ) (text : List ℕ) (at : ℕ) (table : List ℕ) → Reading n k text at table table at 0
reading_start n k text at table =
    let z : n - 0 ≡ n = omega arith in
    let y : k + 0 ≡ k = omega arith in
    record { is = rw (z, y); numbers = rw (z, y); rest = refl; most = omega arith; long = refl }

module _ (n k : ℕ) (text : List ℕ) (at : ℕ) (table₀ table : List ℕ) (p i : ℕ) (c : Reading n k text at table₀ table p i) where
  left : i < n → n - i ≡ suc (n - (i + 1))
  left h = omega arith

  -- what is answered, and left in the table
  abbrev Into : Reach → List ℕ → Type 0
  Into r after = (r ≡ reach_at n k text at) × (after ≡ laid (numbers_at n k text at) table₀)

  -- nothing more is read
  ends : n ≤ length table₀ → numbers_at (n - i) (k + i) text p ≡ [] → table ≡ laid (numbers_at n k text at) table₀
  ends w e =
      laid-front table₀ table (numbers_at n k text at) i (omega (arith, c.most, c.long))
      (c.numbers ∙ rw e (append-nil (take i table))) c.rest

  pub reading_stop : (f : Field) (u : Unfit) → n ≤ length table₀ → i < n → f ≡ item_at (k + i) text p → f ≡ Err u → Into (Err u) table
  unfolding reach_at numbers_at
  reading_stop f u w h e g = (rw (c.is, left h, reach_at, sym e ∙ g), ends w (rw (left h, numbers_at, sym e ∙ g)))

  pub reading_more : (f : Field) (m : Number) (after : List ℕ) → n ≤ length table₀ → i < n → f ≡ item_at (k + i) text p → f ≡ Ok m → after ≡ set table i m.value → Reading n k text at table₀ after m.next (i + 1)
  unfolding reach_at numbers_at
  reading_more f m after w h e g s =
      let z : k + (i + 1) ≡ suc (k + i) = omega arith in
      let t : take (i + 1) after ≡ take i table ++ (m.value ∷ []) = rw (s, add-one i) (take-suc-set table i m.value (omega (arith, c.long))) in
      let d : drop (i + 1) table ≡ drop (i + 1) table₀ = sym (drop-drop 1 i table) ∙ rw c.rest (drop-drop 1 i table₀) in
      record {
        is = rw (c.is, left h, reach_at, sym e ∙ g, z);
        numbers = c.numbers ∙ rw (left h, numbers_at, sym e ∙ g, z, t) (sym (append_assoc (take i table) (m.value ∷ []) (numbers_at (n - (i + 1)) (suc (k + i)) text m.next)));
        rest = rw s (drop-set-lt (i + 1) table i m.value (omega arith) ∙ d);
        most = omega arith;
        long = ap length s ∙ length-set table i m.value ∙ c.long;
      }

  pub reading_done : n ≤ length table₀ → n ≤ i → Into (Ok p) table
  unfolding reach_at numbers_at
  reading_done w h =
      let z : n - i ≡ 0 = omega arith in
      (rw (c.is, z, reach_at), ends w (rw (z, numbers_at)))
