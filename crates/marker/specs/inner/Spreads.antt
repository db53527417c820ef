-- Pairs opened by passes and by rounds between them (lines 2 to 5 of Algorithm 1): contracts of inner functions, of
-- which no rule speaks.
use Rattle.std.specs.Prelude.{◌≡◌, true, false, List, ℕ, ◌%◌, ◌<◌, eqb, ltb, length, get_or, set, None}
use Rattle.sets.specs.Sets.{with}
use Rattle.records.specs.Records.{index}
use Rattle.marker.specs.Marks.{next_opening}
use Rattle.marker.specs.inner.Openings.{Opened}

-- pairs were opened, one after another: y is what x has become. There was one at least, if r is not 0
pub record Spread (t x : List ℕ) (r : ℕ) (y : List ℕ) : Type 0 where
  pub count : ℕ
  pub did : Opened t x count y
  pub long : length y ≡ length x
  pub some : (r ≡ 0 → ⊥) → 0 < count

-- so they were by passes. None is left to open, if r is 0
pub record Passed (t x : List ℕ) (r : ℕ) (y : List ℕ) : Type 0 where
  pub spread : Spread t x r y
  pub rests : r ≡ 0 → next_opening t y ≡ None

-- ---- which of these to try first: for each new place a set of new places. No rule of document 01 speaks of them
-- that of place q with the new place of node n, if n is a pair
unfoldable pub led_to : List ℕ → ℕ → ℕ → List ℕ
led_to l q n = elim (ltb n 4096) [ true ↦ set l q (with (get_or l q 0) (n % 64)) | false ↦ l ]

-- that of pair i's new place with those of its targets, if it is beyond
unfoldable pub led_from : List ℕ → List ℕ → List ℕ → ℕ → List ℕ
led_from t m l i =
    elim (eqb (get_or m i 0) 4) [
      | true ↦ led_to (led_to l (i % 64) (get_or t (index i 0) 0)) (i % 64) (get_or t (index i 1) 0)
      | false ↦ l
    ]
