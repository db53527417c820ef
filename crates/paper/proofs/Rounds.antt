-- A turn of a build is one round of Algorithm 2's loop, lines 3 to 18, with the lowest waiting pair. All turns are one
-- run of it, and every run of it has come to what the build comes to after some of its turns. Assumes nothing.
use mathlib.Core.Path.{◌≡◌, refl, sym, ap, subst, ◌∙◌}
use mathlib.Core.Bool.{Bool, true, false, not}
use mathlib.Core.Logic.{dite}
use mathlib.Core.List.{List}
use Rattle.std.specs.Prelude.{Option, None, Some}
use Prim.Native.Nat.{ℕ, zero, suc, ◌%◌, ◌^◌, ◌≤◌, ◌<◌}
use native.Mathlib.Omega.{arith}
use native.Mathlib.Decide.{ℕ_discrete, dec_lt}
use borrow.Author.Tests.{eqb-true, not-false}
use lib.Dec.{eqb}
use lib.ListN.{length, get_or, set, replicate}
use Rattle.base.proofs.Ones.{one-there, one_other}
use Rattle.base.proofs.Tests.{T_true}
use Rattle.base.proofs.Repeat.{Going, repeated-keeps, again_by, done_by}
use Rattle.base.proofs.Walks.{zeros_at, same_at, first-is}
use Rattle.chart.specs.Places.{kept_number, new_of}
use Rattle.chart.specs.Charts.{size, operation, can_be_taken}
use Rattle.chart.specs.Compared.{Compared, heads_of}
use Rattle.chart.proofs.Words.{Words}
use Rattle.chart.specs.Faultless.{FaultlessChart}
use Rattle.chart.specs.Possible.{possible_rows, stripped}
use Rattle.chart.proofs.Possible.{seen, seen_none, seen_more, seen_same, seen_all}
use Rattle.chart.proofs.Takable.{not_there}
use Rattle.align.specs.declared.spots.Spot.{Spot}
use Rattle.chart.proofs.Parts.{two_at_most}
use Rattle.records.specs.Records.{index}
use Rattle.graph.specs.Buffers.{Buffers, marked, unwait}
use Rattle.detector.specs.Turns.{rows_of, next, lowest, set_now, begun, step_of, row_done, second_done, taken, explored}
use Rattle.graph.proofs.Graphs.{mark_at, set_at, Shaped, marked_yes, marked_no, is-marked, unwait-shaped}
use Rattle.detector.proofs.Turns.{Waiter, no_row, set_now_lem, set_had, set_now_small, next-waits, none-waits}
use Rattle.detector.proofs.Measure.{weight, turns, begun-shaped, begun_weight, row_lighter}
use Rattle.detector.proofs.Invariant.{Inv, Every, turn_inv, begun_inv}
use Rattle.paper.specs.Nodes.{◌is_in◌, ◌is_not_in◌, Pair, only_pair, pair_of, number, Numbered}
use Rattle.paper.specs.Lines5to18.{Lines5to18}
use Rattle.paper.specs.Algorithm2.{State, edges, Called, popped, ForEach, none_yet, one_more, Lowest, Run, line1, lines3to18, Ended}
use Rattle.paper.specs.Algorithm2 as algorithm2
use Rattle.paper.proofs.Members.{not_in, only_pair_lem, numbered, same-pair, other_pair, pair_is, number-below}
use Rattle.paper.proofs.Reading.{pop_sets}
use Rattle.paper.proofs.Seats.{rows_left, at_seen, whole-rows}
use Rattle.paper.proofs.Process.{stepped_to}
use Rattle.paper.proofs.Rows.{Reads, InHand, unwait_hand, Row, stepped, processed-to, any_read, came_to}

module _ (X : Compared) (F : FaultlessChart X.old) (G : FaultlessChart X.new) where
  abbrev Y : Compared
  Y = stripped X

  -- ---- the loop of line 4 by its last edge
  record Last (s : State) (n : Pair) (k : ℕ) (t : State) : Type 0 where
    before : State
    spot : Option Spot
    loop : ForEach Y (Lines5to18 Y) s n k before
    lines : Lines5to18 Y n.old (before.Vδ n) (operation (edges Y n.new) k) spot
    process : Called Y before n k spot t

  abbrev ByLast : State → Pair → ℕ → State → Type 0
  ByLast s n zero t = t ≡ s
  ByLast s n (suc k) t = Last s n k t

  by_last : {s : State} {n : Pair} {k : ℕ} {t : State} → ForEach Y (Lines5to18 Y) s n k t → ByLast s n k t
  by_last none_yet = refl
  by_last (one_more {k} {t} o f L P) = record { before = t; spot = o; loop = f; lines = L; process = P }

  -- ---- a round
  module _ (wo : Words X.old.table) (wn : Words X.new.table) (s : State) (g : Buffers) (n : ℕ) (l : n < 4096) (S : Shaped g) (R : Reads X s g) (H : InHand (unwait g n) n) (free : new_of n is_not_in s.Δ) where
    v : ℕ
    v = set_at g n

    s₀ : State
    s₀ = popped s (pair_of n)

    start : Row X n v s₀ (unwait g n)
    unfolding s₀ v popped unwait
    start =
        record {
          reads = record { sets = pop_sets X s g n S.sized l R.sets; edges = R.edges };
          hand = H;
          held = λ z. R.sets.Vδ n l free;
        }

    first : Buffers
    first = row_done X (unwait g n) n v 0

    -- the set of the pair in hand, as the next row finds it
    own : (f : State) (h : Buffers) → Row X n v f h → f.Vδ (pair_of n) ≡ set_now h.marks h.sets n v
    own f h Z =
        dite (ℕ_discrete (mark_at h n) 0) (λ e. Z.held e ∙ sym (set_had h n v e))
        (λ e. Z.reads.sets.Vδ n l (Z.reads.sets.Δ (new_of n) (omega arith) ∙ marked_no h.marks (kept_number (new_of n)) (Z.hand.free (omega arith)))
        ∙ sym (set_now_lem h n v (omega arith)))

    rows : List ℕ
    rows = rows_of X.new n

    -- nor has it changed before the first
    first-own : (t : State) → Row X n v t (unwait g n) → t.Vδ (pair_of n) ≡ v
    unfolding v unwait
    first-own t Z =
        dite (ℕ_discrete (mark_at g n) 0) (λ e. Z.held e)
        (λ e. Z.reads.sets.Vδ n l (Z.reads.sets.Δ (new_of n) (omega arith) ∙ marked_no g.marks (kept_number (new_of n)) (Z.hand.free (omega arith))))

    v₁ : ℕ
    v₁ = set_now first.marks first.sets n v

    first-shaped : Shaped first
    unfolding first v
    first-shaped = (row_lighter X F G (unwait g n) n v 0 l (S.small n) (unwait-shaped g n S)).shaped

    later-small : v₁ < 2 ^ 64
    unfolding v v₁
    later-small = set_now_small first n v (S.small n) first-shaped

    -- ---- one row, after those before it: the algorithms are given it, or it can't be taken
    -- whatever lines 4 to 18 come to by the edges before row k is read in h, and their set is u
    record Before (k u : ℕ) (h : Buffers) : Type 0 where
      second : k < 2
      small : u < 2 ^ 64
      shaped : Shaped h
      read : (t : State) → ForEach Y (Lines5to18 Y) s₀ (pair_of n) (seen rows k) t → Row X n v t h
      own : (t : State) → Row X n v t h → t.Vδ (pair_of n) ≡ u

    module _ (k u : ℕ) (h : Buffers) (B : Before k u h) where
      edge_read : can_be_taken rows k ≡ true → (t : State) → ForEach Y (Lines5to18 Y) s₀ (pair_of n) (suc (seen rows k)) t → Row X n u t (row_done X h n u k)
      unfolding rows
      edge_read e t f =
          let K = by_last f in
          let Z = B.read K.before K.loop in
          any_read X F G K.before h n u (seen rows k) k l B.small B.second (at_seen X n k e) B.shaped Z.reads Z.hand (B.own K.before Z) wo wn K.spot K.lines t K.process

      -- what is read after it
      row_read : (t : State) → ForEach Y (Lines5to18 Y) s₀ (pair_of n) (seen rows (suc k)) t → Row X n u t (row_done X h n u k)
      unfolding rows
      row_read = go (can_be_taken rows k) refl
        where
          go : (b : Bool) → can_be_taken rows k ≡ b → (t : State) → ForEach Y (Lines5to18 Y) s₀ (pair_of n) (seen rows (suc k)) t → Row X n u t (row_done X h n u k)
          go true e t f = edge_read e t (subst (λ (m : ℕ). ForEach Y (Lines5to18 Y) s₀ (pair_of n) m t) (seen_more rows k e) f)
          go false e t f =
              let Z = B.read t (subst (λ (m : ℕ). ForEach Y (Lines5to18 Y) s₀ (pair_of n) m t) (seen_same rows (whole-rows X (new_of n)) k e) f) in
              subst (Row X n u t) (sym (no_row X h n u k e)) (record { reads = Z.reads; hand = Z.hand; held = λ z. B.own t Z })

      -- and there is something to come to
      row-loop : (t : State) × ForEach Y (Lines5to18 Y) s₀ (pair_of n) (seen rows k) t → (t : State) × ForEach Y (Lines5to18 Y) s₀ (pair_of n) (seen rows (suc k)) t
      unfolding rows
      row-loop (t, f) = go (can_be_taken rows k) refl
        where
          go : (b : Bool) → can_be_taken rows k ≡ b → (t : State) × ForEach Y (Lines5to18 Y) s₀ (pair_of n) (seen rows (suc k)) t
          go true e =
              let Z = B.read t f in
              let came = stepped X F G t h n u (seen rows k) k l B.small B.second (at_seen X n k e) B.shaped Z.reads Z.hand (B.own t Z) wo wn in
              let done = processed-to X F G t h n u (seen rows k) k l B.small B.second (at_seen X n k e) B.shaped Z.reads Z.hand (B.own t Z) wo wn in (
                stepped_to Y t (pair_of n) (seen rows k) (step_of Y n u (seen rows k)),
                subst (λ (m : ℕ). ForEach Y (Lines5to18 Y) s₀ (pair_of n) m (stepped_to Y t (pair_of n) (seen rows k) (step_of Y n u (seen rows k)))) (sym (seen_more rows k e)) (one_more (came_to Y n u (seen rows k)) f came done),
              )
          go false e = (t, subst (λ (m : ℕ). ForEach Y (Lines5to18 Y) s₀ (pair_of n) m t) (sym (seen_same rows (whole-rows X (new_of n)) k e)) f)

    -- ---- both rows
    before_first : Before 0 v (unwait g n)
    unfolding v
    before_first =
        record {
          second = omega arith;
          small = S.small n;
          shaped = unwait-shaped g n S;
          read = λ t f. subst (λ (x : State). Row X n v x (unwait g n)) (sym (by_last (subst (λ (m : ℕ). ForEach Y (Lines5to18 Y) s₀ (pair_of n) m t) (seen_none rows) f))) start;
          own = λ t Z. first-own t Z;
        }

    before_second : Before 1 v₁ first
    unfolding first v₁
    before_second =
        record {
          second = omega arith;
          small = later-small;
          shaped = first-shaped;
          read = row_read 0 v (unwait g n) before_first;
          own = λ t Z. own t first Z;
        }

    -- as many edges as there are
    all_seen : seen rows 2 ≡ size (edges Y (new_of n))
    unfolding rows
    all_seen = go (size rows) refl ∙ sym (ap size (rows_left X n))
      where
        none-there : (k : ℕ) → size rows ≤ k → seen rows (suc k) ≡ seen rows k
        none-there k l = seen_same rows (whole-rows X (new_of n)) k (not_there rows k l)

        go : (m : ℕ) → size rows ≡ m → seen rows 2 ≡ size (possible_rows rows)
        go zero e = none-there 1 (omega arith) ∙ none-there 0 (omega arith) ∙ ap (seen rows) (sym e) ∙ seen_all rows
        go (suc zero) e = none-there 1 (omega arith) ∙ ap (seen rows) (sym e) ∙ seen_all rows
        go (suc (suc zero)) e = ap (seen rows) (sym e) ∙ seen_all rows
        go (suc (suc (suc m))) e = absurd (omega (arith, two_at_most X.new G wn.small (n % 64)))

    pub round_read : (t : State) → ForEach Y (Lines5to18 Y) (popped s (pair_of n)) (pair_of n) (size (edges Y (new_of n))) t → Reads X t (taken X g n)
    unfolding taken second_done first v v₁ s₀
    round_read t f = (row_read 1 v₁ first before_second t (subst (λ (m : ℕ). ForEach Y (Lines5to18 Y) s₀ (pair_of n) m t) (sym all_seen) f)).reads

    pub round : (t : State) × ForEach Y (Lines5to18 Y) (popped s (pair_of n)) (pair_of n) (size (edges Y (new_of n))) t
    unfolding s₀
    round = subst (λ (m : ℕ). (t : State) × ForEach Y (Lines5to18 Y) s₀ (pair_of n) m t) all_seen
        (row-loop 1 v₁ first before_second (row-loop 0 v (unwait g n) before_first (s₀, subst (λ (m : ℕ). ForEach Y (Lines5to18 Y) s₀ (pair_of n) m s₀) (sym (seen_none rows)) none_yet)))

  -- ---- the run
  pub record Ran (g : Buffers) : Type 0 where
    pub state : State
    pub run : Run Y (Lines5to18 Y) Lowest state
    pub reads : Reads X state g
    pub inv : Inv X Every g

  -- the pair that a turn takes is the lowest of the waitlist
  pops-lowest : (s : State) (g : Buffers) (n : ℕ) → Reads X s g → length g.waiting ≡ 4096 → next g ≡ Some n → Lowest s (pair_of n)
  unfolding next lowest
  pops-lowest s g n R z e m w =
      let f = first-is (λ i x. not (eqb x 0)) g.waiting n e in
      let B = R.sets.waits_numbered m w in
      dite (dec_lt (number m) n)
      (λ l. let y : marked g.waiting (number m) ≡ true = sym (R.sets.waits (number m) (number-below m B)) ∙ ap s.waitlist (pair_is m B) ∙ w in
      let k = eqb-true (get_or g.waiting (number m) 0) 0 (not-false _ (f.lowest (number m) l)) in
      absurd (omega (arith, is-marked g.waiting (number m) y)))
      (λ l. omega arith)

  -- the pair that a turn takes, in hand
  module _ (s : State) (g : Buffers) (n : ℕ) (R : Reads X s g) (I : Inv X Every g) (e : next g ≡ Some n) where
    waiter : Waiter g n
    waiter = next-waits g n e

    below : n < 4096
    below = omega (arith, waiter.below, I.shaped.sized.waiting)

    there : 0 < mark_at g n
    there = I.waiters n below waiter.waits

    not_kept : mark_at g (kept_number (new_of n)) ≡ 0
    not_kept = I.apart n below there

    in_hand : InHand (unwait g n) n
    in_hand = unwait_hand g n (record { there = λ e. there; free = λ e. not_kept })

    free : new_of n is_not_in s.Δ
    free = R.sets.Δ (new_of n) (omega arith) ∙ marked_no g.marks (kept_number (new_of n)) not_kept

    taken-waits : pair_of n is_in s.waitlist
    taken-waits = R.sets.waits n below ∙ marked_yes g.waiting n waiter.waits

  turn_ran : Words X.old.table → Words X.new.table → (g : Buffers) (n : ℕ) → Ran g → next g ≡ Some n → Ran (taken X g n)
  turn_ran wo wn g n A e =
      let s = A.state in
      let R = A.reads in
      let I = A.inv in
      let f = round wo wn s g n (below s g n R I e) I.shaped R (in_hand s g n R I e) (free s g n R I e) in
      record {
        state = f.0;
        run = lines3to18 (pair_of n) A.run (taken-waits s g n R I e) (pops-lowest s g n R I.shaped.sized.waiting e) f.1;
        reads = round_read wo wn s g n (below s g n R I e) I.shaped R (in_hand s g n R I e) (free s g n R I e) f.0 f.1;
        inv = turn_inv X F G g n I e;
      }

  begun_read : Reads X (algorithm2.begun Y) (begun (heads_of X))
  unfolding begun algorithm2.begun
  begun_read =
      record {
        sets =
            record {
              N = λ i b. first_only 4160 (omega arith) i;
              N_numbered = λ n e. subst Numbered (only_pair_lem (pair_of 0) n e) (numbered 0 (omega arith));
              Δ = λ q b. sym (marked_no (set (replicate 4160 0) 0 1) (kept_number q) (one_other 4160 0 1 (kept_number q) (λ e. omega arith)));
              Δ-numbered = λ q e. absurd (T_true e);
              waits = λ i b. first_only 4096 (omega arith) i;
              waits_numbered = λ n e. subst Numbered (only_pair_lem (pair_of 0) n e) (numbered 0 (omega arith));
              Vδ = λ i b e. sym (zeros_at 4096 i);
            };
        edges =
            record {
              sound = λ e h. absurd (T_true h);
              unused = λ i r k b c a f u x. refl;
              aims = λ i k b c f u. absurd (u (same_at 8192 65535 (index i k) (omega arith)));
            };
      }
    where
      first_only : (m : ℕ) → 0 < m → (i : ℕ) → only_pair (pair_of 0) (pair_of i) ≡ marked (set (replicate m 0) 0 1) i
      first_only m b i =
          dite (ℕ_discrete i 0) (λ z. same-pair 0 i z ∙ sym (marked_yes (set (replicate m 0) 0 1) i (rw z (omega (arith, one-there m 0 1 b)))))
          (λ z. other_pair 0 i z ∙ sym (marked_no (set (replicate m 0) 0 1) i (one_other m 0 1 i z)))

  -- where nothing waits any more, the build stands at the end of a run
  pub explored-ran : Words X.old.table → Words X.new.table → Ran (explored X)
  unfolding explored
  explored-ran wo wn =
      repeated-keeps next (taken X) Ran (turn_ran wo wn) (2 ^ 80) (begun (heads_of X))
      (record { state = algorithm2.begun Y; run = line1; reads = begun_read; inv = begun_inv X F G })

  -- ---- any run: the build, after some of its turns, reads what it has come to
  record Come (s : State) : Type 0 where
    graph : Buffers
    reads : Reads X s graph
    inv : Inv X Every graph
    going : Going next (taken X) weight Shaped (explored X) graph

  -- the lowest waiting pair is the one that the turn takes
  takes_it : (s : State) (g : Buffers) (i : ℕ) → Reads X s g → Inv X Every g → i < 4096 → pair_of i is_in s.waitlist → Lowest s (pair_of i) → next g ≡ Some i
  takes_it s g i R I l w c = go (next g) refl
    where
      go : (x : Option ℕ) → next g ≡ x → next g ≡ Some i
      go None e =
          absurd
          (let z = none-waits g e i (omega (arith, I.shaped.sized.waiting)) in
          not_in (sym (R.sets.waits i l) ∙ w) (marked_no g.waiting i z))
      go (Some k) e =
          let a = pops-lowest s g k R I.shaped.sized.waiting e (pair_of i) w in
          let b = c (pair_of k) (taken-waits s g k R I e) in
          let z : k ≡ i = omega (arith, a, b) in
          e ∙ ap Some z

  turn_come : Words X.old.table → Words X.new.table → (s t : State) → Come s → (i : ℕ) → i < 4096 → pair_of i is_in s.waitlist → Lowest s (pair_of i)
      → ForEach Y (Lines5to18 Y) (popped s (pair_of i)) (pair_of i) (size (edges Y (new_of i))) t → Come t
  turn_come wo wn s t A i l w c f =
      let g = A.graph in
      let R = A.reads in
      let I = A.inv in
      let e = takes_it s g i R I l w c in
      record {
        graph = taken X g i;
        reads = round_read wo wn s g i l I.shaped R (in_hand s g i R I e) (free s g i R I e) t f;
        inv = turn_inv X F G g i I e;
        going = again_by next (taken X) weight Shaped (turns X F G) A.going e refl;
      }

  come : Words X.old.table → Words X.new.table → {s : State} → Run Y (Lines5to18 Y) Lowest s → Come s
  unfolding explored
  come wo wn line1 =
      record {
        graph = begun (heads_of X);
        reads = begun_read;
        inv = begun_inv X F G;
        going = record { good = begun-shaped X F G; turns = 2 ^ 80; enough = begun_weight X F G; same = refl };
      }
  come wo wn (lines3to18 {s} {t} n r w c f) =
      let A = come wo wn r in
      let B = A.reads.sets.waits_numbered n w in
      subst
      (λ (m : Pair). m is_in s.waitlist → Lowest s m → ForEach Y (Lines5to18 Y) (popped s m) m (size (edges Y m.new)) t → Come t)
      (pair_is n B) (turn_come wo wn s t A (number n) (number-below n B)) w c f

  -- a run that has ended is read in what the build explores
  pub ended_read : Words X.old.table → Words X.new.table → {s : State} → Run Y (Lines5to18 Y) Lowest s → Ended s → Reads X s (explored X)
  ended_read wo wn {s} r d = go (come wo wn r)
    where
      go : Come s → Reads X s (explored X)
      go A = subst (λ (h : Buffers). Reads X s h) (done_by next (taken X) weight Shaped (turns X F G) A.going (rests (next A.graph) refl)) A.reads
        where
          rests : (x : Option ℕ) → next A.graph ≡ x → next A.graph ≡ None
          rests None e = e
          rests (Some k) e = absurd (not_in (taken-waits s A.graph k A.reads A.inv e) (d (pair_of k)))
