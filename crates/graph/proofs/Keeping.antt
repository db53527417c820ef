-- A new place becomes kept: its pairs leave the buffers, one old place after another. Assumes nothing.
use mathlib.Core.Path.{◌≡◌, refl, sym, ap, subst, ◌∙◌}
use mathlib.Core.Bool.{Bool, true, false}
use mathlib.Core.List.{List}
use mathlib.Core.Logic.{◌↔◌, dite}
use Prim.Native.Nat.{ℕ, ◌+◌, ◌*◌, ◌/◌, ◌%◌, ◌≤◌, ◌<◌}
use native.Mathlib.Omega.{arith}
use native.Mathlib.Decide.{ℕ_discrete, dec_lt}
use lib.ListN.{length, get_or, set, length-set}
use lib.Seq.{get_or-set_same, get_or-set_other}
use Rattle.base.specs.Walks.{pass}
use Rattle.base.proofs.Tests.{T_true}
use Rattle.base.proofs.Walks.{pass-is}
use Rattle.chart.specs.declared.places.NewPlace.{NewPlace}
use Rattle.chart.specs.Places.{kept_number}
use Rattle.records.specs.Records.{index}
use Rattle.sets.specs.Sets.{alone, meets}
use Rattle.sets.proofs.Sets.{alone-here, meet_none}
use Rattle.words.specs.inner.Words.{Member, gathered}
use Rattle.words.proofs.Words.{gathered-has}
use Rattle.graph.specs.Buffers.{Buffers, buffers, gone, cleared, untargeted, keep}
use Rattle.graph.specs.inner.Sized.{Sized}
use Rattle.graph.specs.inner.Tracks.{Covers}
use Rattle.graph.proofs.Graphs.{gone-here, gone_other, gone_past}
use Rattle.graph.proofs.Parts.{graph-eq}

-- ---- one buffer, whose element j is one of pair `of j`: d₀ with v at the pairs of new place q that have one of the first p old places
pub record Clearing (of : ℕ → ℕ) (v : ℕ) (q : NewPlace) (d₀ d : List ℕ) (p : ℕ) : Type 0 where
  pub long : length d ≡ length d₀
  pub before : (j : ℕ) → of j < 64 * p → get_or d j 0 ≡ gone q v (of j) (get_or d₀ j 0)
  pub after : (j : ℕ) → 64 * p ≤ of j → get_or d j 0 ≡ get_or d₀ j 0

module _ (of : ℕ → ℕ) (v : ℕ) (q : NewPlace) {d₀ : List ℕ} where
  clearing_all : {d : List ℕ} → Clearing of v q d₀ d 64 → d ≡ pass (λ j x. gone q v (of j) x) 0 d₀
  clearing_all {d} C =
      pass-is (λ j x. gone q v (of j) x) d₀ d C.long
      (λ j k. dite (dec_lt (of j) 4096) (C.before j) (λ f. C.after j (omega arith) ∙ sym (gone_past q v (of j) (get_or d₀ j 0) (omega arith))))

  -- all pairs of the place had v from the first
  clearing_nothing : ((j : ℕ) → of j < 4096 → of j % 64 ≡ q.0 → get_or d₀ j 0 ≡ v) → Clearing of v q d₀ d₀ 64
  clearing_nothing h =
      record {
        long = refl;
        before = λ j l. dite (ℕ_discrete (of j % 64) q.0) (λ e. h j (omega arith) e ∙ sym (gone-here q v (of j) (get_or d₀ j 0) (omega arith) e))
            (λ e. sym (gone_other q v (of j) (get_or d₀ j 0) e));
        after = λ j l. refl;
      }

  module _ {d : List ℕ} {p : ℕ} (C : Clearing of v q d₀ d p) (b : p < 64) (l : q.0 < 64) where
    -- the next pair has v now, and all others have what they had
    clearing_more : {d' : List ℕ} → length d' ≡ length d → ((j : ℕ) → of j ≡ 64 * p + q.0 → get_or d' j 0 ≡ v)
        → ((j : ℕ) → (of j ≡ 64 * p + q.0 → ⊥) → get_or d' j 0 ≡ get_or d j 0) → Clearing of v q d₀ d' (p + 1)
    clearing_more {d'} k here other =
        record {
          long = k ∙ C.long;
          before = λ j m. dite (ℕ_discrete (of j) (64 * p + q.0))
              (λ e. here j e ∙ sym (gone-here q v (of j) (get_or d₀ j 0) (omega arith) (omega arith)))
              (λ e. other j e ∙ dite (dec_lt (of j) (64 * p)) (C.before j)
              (λ f. C.after j (omega arith) ∙ sym (gone_other q v (of j) (get_or d₀ j 0) (λ h. e (omega arith)))));
          after = λ j m. other j (λ e. omega arith) ∙ C.after j (omega arith);
        }

    -- it had v from the first
    clearing_had : ((j : ℕ) → of j ≡ 64 * p + q.0 → get_or d₀ j 0 ≡ v) → Clearing of v q d₀ d (p + 1)
    clearing_had h = clearing_more refl (λ j e. C.after j (omega arith) ∙ h j e) (λ j e. refl)

-- one element to a pair, or two
module _ {v : ℕ} {q : NewPlace} {d₀ d : List ℕ} {p n : ℕ} (b : p < 64) (l : q.0 < 64) (e : n ≡ 64 * p + q.0) where
  clearing_one : Clearing (λ j. j) v q d₀ d p → 4096 ≤ length d → Clearing (λ j. j) v q d₀ (set d n v) (p + 1)
  clearing_one C k =
      clearing_more (λ j. j) v q C b l (length-set d n v) (λ j f. let h : j ≡ n = f ∙ sym e in rw h (get_or-set_same d n v 0 (omega arith)))
      (λ j f. get_or-set_other d n j v 0 (λ h. f (h ∙ e)))

  clearing_two : Clearing (λ j. j / 2) v q d₀ d p → 8192 ≤ length d → Clearing (λ j. j / 2) v q d₀ (set (set d (index n 0) v) (index n 1) v) (p + 1)
  clearing_two C k =
      clearing_more (λ j. j / 2) v q C b l (length-set (set d (index n 0) v) (index n 1) v ∙ length-set d (index n 0) v) (λ j f. here j (omega arith))
      (λ j f. get_or-set_other (set d (index n 0) v) (index n 1) j v 0 (λ h. f (omega arith)) ∙ get_or-set_other d (index n 0) j v 0 (λ h. f (omega arith)))
    where
      here : (j : ℕ) → j / 2 ≡ n → get_or (set (set d (index n 0) v) (index n 1) v) j 0 ≡ v
      here j f =
          dite (ℕ_discrete j (index n 1)) (λ h. rw h (get_or-set_same (set d (index n 0) v) (index n 1) v 0 (simp length-set (omega arith))))
          (λ h. get_or-set_other (set d (index n 0) v) (index n 1) j v 0 h ∙ (let z : j ≡ index n 0 = omega arith in rw z (get_or-set_same d (index n 0) v 0 (omega arith))))

-- the two targets of a pair
pub both-targets : (t : List ℕ) (n : ℕ) → set (set t (2 * n) 65535) (2 * n + 1) 65535 ≡ set (set t (index n 0) 65535) (index n 1) 65535
both-targets t n = ap (λ (x : ℕ). set (set t x 65535) (index n 1) 65535) (omega arith)

-- ---- what a buffer has of pairs that were not seen
module _ {seen : List ℕ} {g : Buffers} (C : Covers seen g) (i : ℕ) (l : i < 4096) (u : Member seen i → ⊥) where
  unseen : (d : List ℕ) → (0 < get_or d i 0 → Member seen i) → get_or d i 0 ≡ 0
  unseen d h = dite (ℕ_discrete (get_or d i 0) 0) (λ z. z) (λ z. absurd (u (h (omega arith))))

  untargeted_yet : (j : ℕ) → j / 2 ≡ i → get_or g.targets j 0 ≡ 65535
  untargeted_yet j f =
      dite (ℕ_discrete (get_or g.targets j 0) 65535) (λ z. z)
      (λ z. absurd (u (let y : index i (j % 2) ≡ j = omega arith in C.targets i (j % 2) l (omega arith) (rw y z))))

-- ---- the four buffers
pub record Going (q : NewPlace) (g g' : Buffers) (p : ℕ) : Type 0 where
  pub most : p ≤ 64
  pub marks : Clearing (λ j. j) 0 q g.marks g'.marks p
  pub targets : Clearing (λ j. j / 2) 65535 q g.targets g'.targets p
  pub sets : Clearing (λ j. j) 0 q g.sets g'.sets p
  pub waiting : Clearing (λ j. j) 0 q g.waiting g'.waiting p

module _ {q : NewPlace} {g g' : Buffers} {p : ℕ} (G : Going q g g' p) where
  pub going_sized : Sized g → Sized g'
  going_sized S =
      record {
        marks = G.marks.long ∙ S.marks;
        targets = G.targets.long ∙ S.targets;
        sets = G.sets.long ∙ S.sets;
        waiting = G.waiting.long ∙ S.waiting;
      }

  pub going_same : {m t s w : List ℕ} → m ≡ g'.marks → t ≡ g'.targets → s ≡ g'.sets → w ≡ g'.waiting → Going q g (buffers m t s w) p
  going_same a b c d = rw (a, b, c, d) G

  module _ {n : ℕ} (S : Sized g) (l : q.0 < 64) (b : p < 64) (e : n ≡ 64 * p + q.0) where
    -- the next pair leaves
    pub going_seen : {m t s w : List ℕ} → (m ≡ set g'.marks n 0) × (t ≡ set (set g'.targets (index n 0) 65535) (index n 1) 65535)
        × (s ≡ set g'.sets n 0) × (w ≡ set g'.waiting n 0) → Going q g (buffers m t s w) (p + 1)
    going_seen L =
        let Z = going_sized S in
        rw (L.0, L.1, L.2, L.3)
        (record {
          most = omega arith;
          marks = clearing_one b l e G.marks (omega (arith, Z.marks));
          targets = clearing_two b l e G.targets (omega (arith, Z.targets));
          sets = clearing_one b l e G.sets (omega (arith, Z.sets));
          waiting = clearing_one b l e G.waiting (omega (arith, Z.waiting));
        })

    -- it was not seen, and has nothing to leave
    module _ {seen : List ℕ} {r : Bool} (C : Covers seen g) (h : (r ≡ true) ↔ Member seen n) (f : r ≡ false) where
      u : Member seen n → ⊥
      u m = T_true (sym f ∙ h.1 m)

      had : (d : List ℕ) → ((i : ℕ) → i < 4096 → 0 < get_or d i 0 → Member seen i) → (j : ℕ) → j ≡ 64 * p + q.0 → get_or d j 0 ≡ 0
      had d a j z = let y : j ≡ n = z ∙ sym e in rw y (unseen C n (omega arith) u d (a n (omega arith)))

      pub going_unseen : Going q g g' (p + 1)
      going_unseen =
          record {
            most = omega arith;
            marks = clearing_had (λ j. j) 0 q G.marks b l (had g.marks C.marks);
            targets = clearing_had (λ j. j / 2) 65535 q G.targets b l (λ j z. untargeted_yet C n (omega arith) u j (z ∙ sym e));
            sets = clearing_had (λ j. j) 0 q G.sets b l (had g.sets C.sets);
            waiting = clearing_had (λ j. j) 0 q G.waiting b l (had g.waiting C.waiting);
          }

-- ---- all have left
abbrev Left : NewPlace → Buffers → Buffers → Type 0
Left q g g' =
    (g'.marks ≡ cleared q g.marks) × (g'.targets ≡ untargeted q g.targets) × (g'.sets ≡ cleared q g.sets) × (g'.waiting ≡ cleared q g.waiting)

pub left_all : {q : NewPlace} {g g' : Buffers} {k p : ℕ} → k ≡ q.0 → Going (record { 0 = k }) g g' p → 64 ≤ p → Left q g g'
unfolding cleared untargeted
left_all {q} {g} {g'} {k} {p} e G l =
    let z : p ≡ 64 = omega (arith, G.most) in
    let H : Going q g g' 64 = subst (λ (k : ℕ). Going (record { 0 = k }) g g' 64) e (rw z at G) in (
      clearing_all (λ j. j) 0 q H.marks,
      clearing_all (λ j. j / 2) 65535 q H.targets,
      clearing_all (λ j. j) 0 q H.sets,
      clearing_all (λ j. j) 0 q H.waiting,
    )

-- none had anything: no word of those seen has the bit of the place
module _ {q : NewPlace} {g : Buffers} {seen : List ℕ} {k all a : ℕ} {b : Bool} (C : Covers seen g) (e : k ≡ q.0) (c : all ≡ gathered seen (length seen))
    (d : a ≡ alone k) (m : b ≡ meets all a) (n : b ≡ false) where
  absent : (i : ℕ) → i < 4096 → i % 64 ≡ q.0 → Member seen i → ⊥
  absent i l h M =
      let z : i % 64 ≡ k = h ∙ sym e in
      meet_none all a k (sym m ∙ n) (rw (c, sym z) (gathered-has seen (length seen) i (omega (arith, C.long)) M)) (rw d (alone-here k))

  had_none : (d : List ℕ) → ((i : ℕ) → i < 4096 → 0 < get_or d i 0 → Member seen i) → d ≡ cleared q d
  unfolding cleared
  had_none d h = clearing_all (λ j. j) 0 q (clearing_nothing (λ j. j) 0 q (λ i l z. unseen C i l (absent i l z) d (h i l)))

  pub left-none : Left q g g
  unfolding untargeted
  left-none = (
    had_none g.marks C.marks,
    clearing_all (λ j. j / 2) 65535 q (clearing_nothing (λ j. j / 2) 65535 q (λ j l z. untargeted_yet C (j / 2) l (absent (j / 2) l z) j refl)),
    had_none g.sets C.sets,
    had_none g.waiting C.waiting,
  )

pub keep-is : (m t s w : List ℕ) (q : NewPlace) {m₁ m₂ t' s' w' : List ℕ} {k : ℕ} → Left q (buffers m t s w) (buffers m₁ t' s' w')
    → k ≡ kept_number q → m₂ ≡ set m₁ k 1 → buffers m₂ t' s' w' ≡ keep (buffers m t s w) q
unfolding keep
keep-is m t s w q L k e = graph-eq (e ∙ (λ i. set (L.0 i) (k i) 1)) L.1 L.2 L.3
