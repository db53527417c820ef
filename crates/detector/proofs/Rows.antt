-- The row of a pair in hand, in the form in which the code meets it. Assumes nothing.
use mathlib.Core.Path.{◌≡◌, refl, sym, ap, subst, ◌∙◌}
use mathlib.Core.Bool.{Bool, true, false, ◌&&◌, not}
use mathlib.Core.Logic.{dite}
use mathlib.Core.List.{List, [], ◌∷◌}
use Rattle.std.specs.Prelude.{Option, Some}
use Prim.Native.Nat.{ℕ, zero, suc, ◌+◌, ◌%◌, ◌^◌, ◌≤◌, ◌<◌}
use native.Mathlib.Decide.{dec_lt}
use native.Mathlib.Omega.{arith}
use borrow.Author.Tests.{le-ltb}
use lib.Dec.{ltb}
use lib.ListN.{get_or, set, replicate}
use Rattle.operations.specs.Operations.{is_known, operands_fit}
use Rattle.operations.specs.Trials.{never_holds}
use Rattle.chart.specs.declared.places.OldPlace.{OldPlace}
use Rattle.chart.specs.declared.places.NewPlace.{NewPlace}
use Rattle.chart.specs.Charts.{Chart, size, to, operation, can_be_taken, leaving}
use Rattle.chart.specs.Compared.{Compared}
use Rattle.chart.specs.Faultless.{FaultlessChart}
use Rattle.detector.specs.inner.Skipped.{NeverIf, Skipped}
use Rattle.chart.specs.Places.{old_of, new_of}
use Rattle.align.specs.declared.spots.Spot.{Spot}
use Rattle.align.specs.Steps.{step}
use Rattle.chart.proofs.Parts.{part_right, row-to}
use Rattle.chart.proofs.Takable.{takable, by_test}
use Rattle.words.specs.inner.Words.{removed}
use Rattle.graph.specs.Buffers.{Buffers, buffers, marked, unwait}
use Rattle.graph.specs.inner.Sized.{Sized}
use Rattle.graph.specs.inner.Tracks.{Tracks}
use Rattle.detector.specs.Turns.{rows_of, leads_to, set_now, step_of, processed, row_done, second_done, taken}
use Rattle.graph.proofs.Graphs.{marked_yes, marked_no}
use Rattle.graph.proofs.Tracking.{unwait-tracks}
use Rattle.detector.proofs.Turns.{no_row, a-row, step_of_fits}

-- ---- which of two rows never hold
pub skips_none : (rows : List ℕ) → ((k : ℕ) → k < size rows → never_holds (operation rows k) ≡ false) → Skipped (replicate 2 false) rows
skips_none rows N zero b l = sym (N 0 l)
skips_none rows N (suc zero) b l = sym (N 1 l)
skips_none rows N (suc (suc r)) b l = absurd (omega arith)

pub skips_by : {part rows : List ℕ} {a b : Bool} → part ≡ rows → a ≡ can_be_taken part 0 → b ≡ can_be_taken part 1 → Skipped (not a ∷ not b ∷ []) rows
skips_by {part} {rows} {a} {b} e f g = both
  where
    twice : (x : Bool) → not (not x) ≡ x
    twice true = refl
    twice false = refl

    one : {x : Bool} (k : ℕ) → x ≡ can_be_taken part k → NeverIf (not x) rows k
    one k h l = ap not (h ∙ ap (λ (l : List ℕ). can_be_taken l k) e ∙ by_test rows k l) ∙ twice (never_holds (operation rows k))

    both : (r : ℕ) → r < 2 → NeverIf (get_or (not a ∷ not b ∷ []) r false) rows r
    both zero c = one 0 f
    both (suc zero) c = one 1 g
    both (suc (suc r)) c = absurd (omega arith)

-- ---- the part of the new table that leaves the pair's new place, and a row of it that can be taken
-- whether one can be taken: it is there, and is none that never holds
part_can : (t : List ℕ) (n r : ℕ) {q' : NewPlace} {part : List ℕ} {skip : Bool} → q' ≡ new_of n → part ≡ leaving t q'.0
    → NeverIf skip (leaving t (new_of n).0) r → ltb r (size part) && not skip ≡ can_be_taken part r
unfolding can_be_taken
part_can t n r {q'} {part} {skip} a b N = subst (λ (rows : List ℕ). ltb r (size rows) && not skip ≡ ltb r (size rows) && not (never_holds (operation rows r))) (sym e) there
  where
    e : part ≡ leaving t (new_of n).0
    e = b ∙ ap (λ (x : NewPlace). leaving t x.0) a

    there : ltb r (size (leaving t (new_of n).0)) && not skip ≡ ltb r (size (leaving t (new_of n).0)) && not (never_holds (operation (leaving t (new_of n).0) r))
    there =
        dite (dec_lt r (size (leaving t (new_of n).0))) (λ l. rw (N l)) (λ l. rw (le-ltb r (size (leaving t (new_of n).0)) (omega arith)))

module _ (new : Chart) (n r : ℕ) {q' : NewPlace} {part : List ℕ} (a : q' ≡ new_of n) (b : part ≡ leaving new.table q'.0) where
  part_is : part ≡ rows_of new n
  part_is = b ∙ ap (λ (x : NewPlace). leaving new.table x.0) a

  part_takable : {t d : Bool} → t ≡ can_be_taken part r → t ≡ d → can_be_taken (rows_of new n) r ≡ d
  part_takable u e = sym (u ∙ ap (λ (x : List ℕ). can_be_taken x r) part_is) ∙ e

  part_leads : (q : NewPlace) → q.0 ≡ to part r → q ≡ leads_to new n r
  part_leads q e = let z : q.0 ≡ to (rows_of new n) r = e ∙ ap (λ (x : List ℕ). to x r) part_is in λ i. record { 0 = z i }

  module _ {skip : Bool} (N : NeverIf skip (leaving new.table (new_of n).0) r) (e : ltb r (size part) && not skip ≡ true) where
    u : ltb r (size part) && not skip ≡ can_be_taken part r
    u = part_can new.table n r a b N

    pub row-right : FaultlessChart new
        → (r < size part) × (is_known (operation part r) ≡ true) × (operands_fit (operation part r) ≡ true)
    row-right G =
        let T = takable (rows_of new n) r (part_takable u e) in
        let R = part_right new (n % 64) r G T.0 in
        rw part_is (T.0, R.0, R.1)

    pub part_below : (q : NewPlace) → FaultlessChart new → q.0 ≡ to part r → q.0 < 64
    part_below q G f =
        omega (arith, ap (λ (x : NewPlace). x.0) (part_leads q f), row-to new G (n % 64) r (takable (rows_of new n) r (part_takable u e)).0, G.few_places)

-- ---- the step by one of its rows
module _ (X : Compared) (n r : ℕ) {q' : NewPlace} {part : List ℕ} (a : q' ≡ new_of n) (b : part ≡ leaving X.new.table q'.0) {skip : Bool} (N : NeverIf skip (leaving X.new.table (new_of n).0) r) (v : ℕ) where
  is : part ≡ rows_of X.new n
  is = part_is X.new n r a b

  can : {d : Bool} → ltb r (size part) && not skip ≡ d → can_be_taken (rows_of X.new n) r ≡ d
  can = part_takable X.new n r a b (part_can X.new.table n r a b N)

  module _ {p : OldPlace} {came : Option Spot} (o : p ≡ old_of n) (s : came ≡ step X (record { place = p; set = v }) (operation part r) (record { 0 = to part r })) (y : ltb r (size part) && not skip ≡ true) where
    stepped : came ≡ step_of X n v r
    unfolding step_of
    stepped = s ∙ (λ i. step X (record { place = o i; set = v }) (operation (is i) r) (record { 0 = to (is i) r }))

    pub came_fits : FaultlessChart X.old → FaultlessChart X.new → n < 4096 → v < 2 ^ 64 → (h : Spot) → came ≡ Some h → h.place.0 < 64
    came_fits F G l w h e = (step_of_fits X F G n v r (can y) 64 F.few_places (omega arith) w h (sym stepped ∙ e)).place

    pub row-there : (g : Buffers) {g' : Buffers} (q : NewPlace) → q.0 ≡ to part r → g' ≡ processed X.old.head.alarm g n r q came → g' ≡ row_done X g n v r
    row-there g q e h =
        h ∙ (λ i. processed X.old.head.alarm g n r (part_leads X.new n r a b q e i) (stepped i)) ∙ sym (a-row X g n v r (can y) refl)

  pub row_spare : (g : Buffers) → ltb r (size part) && not skip ≡ false → g ≡ row_done X g n v r
  row_spare g f = sym (no_row X g n v r (can f))

-- ---- the set of the pair in hand
module _ (m s : List ℕ) (n v : ℕ) where
  pub now_own : (get_or m n 0 ≡ 0 → ⊥) → get_or s n 0 ≡ set_now m s n v
  unfolding set_now
  now_own e = rw (marked_yes m n (omega arith), set_now)

  pub now_had : get_or m n 0 ≡ 0 → v ≡ set_now m s n v
  unfolding set_now
  now_had e = rw (marked_no m n e, set_now)

-- ---- a turn: the pair waits no more, and its two rows are done, each under the set that it has then
module _ (X : Compared) (g : Buffers) (n : ℕ) where
  -- where the loop stands before row r, with the set v, the graph h and who waits and was seen; it began with g
  pub record Turning (r v : ℕ) (h : Buffers) (waits seen : List ℕ) : Type 0 where
    pub most : r ≤ 2
    pub tracks : Tracks waits seen h
    pub none_done : r ≡ 0 → (h ≡ g) × (v ≡ get_or g.sets n 0)
    pub one_done : r ≡ 1 → (h ≡ row_done X g n (get_or g.sets n 0) 0) × (v ≡ get_or g.sets n 0)
    pub both_done : r ≡ 2 → h ≡ second_done X (row_done X g n (get_or g.sets n 0) 0) n (get_or g.sets n 0)

  pub turn_begins : {waits seen : List ℕ} → Tracks waits seen g → Turning 0 (get_or g.sets n 0) g waits seen
  turn_begins K =
      record {
        most = omega arith;
        tracks = K;
        none_done = λ e. (refl, refl);
        one_done = λ e. absurd (omega arith);
        both_done = λ e. absurd (omega arith);
      }

  -- before the first row the pair's set is its own, whether it is in the graph or not
  own_first : {v u : ℕ} {h : Buffers} → h ≡ g → v ≡ get_or g.sets n 0 → u ≡ set_now h.marks h.sets n v → u ≡ get_or g.sets n 0
  unfolding set_now
  own_first e a b = b ∙ (λ i. set_now (e i).marks (e i).sets n (a i)) ∙ go (marked g.marks n)
    where
      go : (b : Bool) → (elim b as (λ _. ℕ) [ true ↦ get_or g.sets n 0 | false ↦ get_or g.sets n 0 ]) ≡ get_or g.sets n 0
      go true = refl
      go false = refl

  second_is : {v u : ℕ} {h h' : Buffers} → h ≡ row_done X g n (get_or g.sets n 0) 0 → v ≡ get_or g.sets n 0 → u ≡ set_now h.marks h.sets n v
      → h' ≡ row_done X h n u 1 → h' ≡ second_done X (row_done X g n (get_or g.sets n 0) 0) n (get_or g.sets n 0)
  unfolding second_done
  second_is {h = h} e a b c = c ∙ (λ i. row_done X h n (b i) 1) ∙ (λ i. row_done X (e i) n (set_now (e i).marks (e i).sets n (a i)) 1)

  pub turn_row : (r : ℕ) {v u : ℕ} {h h' : Buffers} {waits seen waits' seen' : List ℕ} → Turning r v h waits seen → r < 2
      → u ≡ set_now h.marks h.sets n v → Tracks waits' seen' h' × (h' ≡ row_done X h n u r) → Turning (r + 1) u h' waits' seen'
  turn_row zero T l b (K, c) =
      let z = T.none_done refl in
      let w = own_first z.0 z.1 b in
      record {
        most = omega arith;
        tracks = K;
        none_done = λ e. absurd (omega arith);
        one_done = λ e. (c ∙ (λ i. row_done X (z.0 i) n (w i) 0), w);
        both_done = λ e. absurd (omega arith);
      }
  turn_row (suc zero) T l b (K, c) =
      let z = T.one_done refl in
      record {
        most = omega arith;
        tracks = K;
        none_done = λ e. absurd (omega arith);
        one_done = λ e. absurd (omega arith);
        both_done = λ e. second_is z.0 z.1 b c;
      }
  turn_row (suc (suc r)) T l b c = absurd (omega arith)

pub turn_done : (X : Compared) (m t s w : List ℕ) (n : ℕ) {waits seen : List ℕ} {r v : ℕ} {h : Buffers}
    → Turning X (buffers m t s (set w n 0)) n r v h waits seen → 2 ≤ r → h ≡ taken X (buffers m t s w) n
unfolding taken unwait
turn_done X m t s w n T l = T.both_done (omega (arith, T.most))

pub unwait-kept_up : {m t s w waits waits₁ seen : List ℕ} (n : ℕ) → n < 4096 → Sized (buffers m t s w)
    → Tracks waits seen (buffers m t s w) → waits₁ ≡ removed waits n → Tracks waits₁ seen (buffers m t s (set w n 0))
unfolding unwait
unwait-kept_up n b S K e = unwait-tracks (buffers _ _ _ _) n S b K e
