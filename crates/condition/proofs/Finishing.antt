-- The end of a build, in the form in which the code meets it. Assumes nothing.
use mathlib.Core.Path.{◌≡◌, refl, sym, ap, subst, ◌∙◌}
use mathlib.Core.Bool.{Bool, true, false, ◌&&◌, not}
use mathlib.Core.List.{List, [], ◌∷◌, map}
use mathlib.Core.Logic.{dite}
use Prim.Native.Nat.{ℕ, ◌+◌, ◌*◌, ◌-◌, ◌/◌, ◌%◌, ◌≤◌, ◌<◌}
use native.Mathlib.Omega.{arith}
use native.Mathlib.Decide.{ℕ_discrete, dec_lt}
use borrow.Author.Tests.{lt-ltb, le-ltb, eq-eqb, ne_eqb}
use lib.Dec.{eqb, ltb}
use Rattle.std.specs.Int.{from_bool}
use lib.ListN.{length, get_or, set, take, drop, replicate, drop_of_length-le}
use lib.Seq.{get_or-set_same, get_or-set_other, length-take-le}
use Rattle.base.specs.Says.{eq, each, bool}
use Rattle.base.specs.Walks.{pass, count}
use Rattle.base.proofs.Counts.{count_set, count-here, count_else, count_none}
use Rattle.base.proofs.Says.{says}
use Rattle.base.proofs.Stores.{Passing, passing_none, passing_all, passing_gap}
use Rattle.base.proofs.Tests.{and_true, T_true}
use Rattle.base.proofs.Walks.{zeros_at}
use Rattle.chart.specs.declared.charts.Heads.{Heads}
use Rattle.chart.specs.declared.places.OldPlace.{OldPlace}
use Rattle.chart.specs.declared.places.NewPlace.{NewPlace}
use Rattle.chart.specs.Places.{kept_number, old_of, new_of, start_pair, start_kept}
use Rattle.sets.specs.Sets.{bit, without}
use Rattle.align.specs.Steps.{fair}
use Rattle.records.specs.Records.{index}
use Rattle.words.specs.inner.Words.{Member, LowestFrom}
use Rattle.words.proofs.Rests.{Coming, coming_start, coming_next, coming_more, coming_end}
use Rattle.graph.specs.Buffers.{Buffers, buffers, marked}
use Rattle.graph.specs.inner.Tracks.{Covers}
use Rattle.marker.specs.inner.Spans.{remade}
use Rattle.marker.specs.inner.Seen.{Holds}
use Rattle.marker.specs.declared.inner.marks.Counts.{Counts}
use Rattle.marker.specs.Marks.{final_marks}
use Rattle.condition.specs.Builds.{redirected, final_targets, alone, lone, finished, start_of, summary}
use Rattle.graph.proofs.Parts.{graph-eq}
use Rattle.marker.proofs.Spans.{Remaking, remaking_start, remaking_more, remaking_gap, remaking_end, passing_span}
use Rattle.marker.proofs.Seen.{none_past}
use Rattle.marker.proofs.Ranking.{kept-is}

-- ---- a target
not_first : (a b : Bool) → a && b ≡ false → b ≡ true → a ≡ false
not_first true b e h = sym h ∙ e
not_first false b e h = refl

module _ (m : List ℕ) (x : ℕ) where
  redirect_far : 4096 ≤ x → x ≡ redirected m x
  unfolding redirected
  redirect_far l = rw (le-ltb x 4096 l, redirected)

  module _ {q : NewPlace} {k : ℕ} {b : Bool} (a : q ≡ new_of x) (e : k ≡ kept_number q) (d : b ≡ marked m k) where
    node : k ≡ kept_number (new_of x)
    node = e ∙ ap (λ (y : NewPlace). kept_number y) a

    told : marked m (kept_number (new_of x)) ≡ b
    told = sym (d ∙ ap (marked m) node)

    pub redirect_kept : (b && ltb x 4096) ≡ true → k ≡ redirected m x
    unfolding redirected
    redirect_kept t = let h = and_true b (ltb x 4096) t in node ∙ rw (h.1, redirected) (rw (told ∙ h.0, redirected))

    redirect_near : x < 4096 → b ≡ false → x ≡ redirected m x
    unfolding redirected
    redirect_near l f = rw (lt-ltb x 4096 l, redirected) (rw (told ∙ f, redirected))

    pub redirect_not : (b && ltb x 4096) ≡ false → x ≡ redirected m x
    redirect_not t = dite (dec_lt x 4096) (λ l. redirect_near l (not_first b (ltb x 4096) t (lt-ltb x 4096 l))) (λ l. redirect_far (omega arith))

-- a pass that does not ask for the index
pass-map : (f : ℕ → ℕ) (i : ℕ) (l : List ℕ) → pass (λ j x. f x) i l ≡ map f l
unfolding pass
pass-map f i [] = refl
pass-map f i (x ∷ l) = ap (λ (y : List ℕ). f x ∷ y) (pass-map f (i + 1) l)

mapped : (f : ℕ → ℕ) {d₀ d : List ℕ} {i : ℕ} → Passing (λ j x. f x) d₀ d i → length d ≤ i → d ≡ map f d₀
mapped f {d₀ = d₀} P l = passing_all (λ j x. f x) P l ∙ pass-map f 0 d₀

-- the pairs of old place p whose bits of the word were met are done: those before bit k
pub record Redirecting (m t₀ : List ℕ) (p word : ℕ) (t : List ℕ) (rest : ℕ) : Type 0 where
  pub k : ℕ
  pub coming : Coming word rest k
  pub done : Remaking (128 * p) (128 * p + 128) (redirected m) t₀ t (128 * p + 2 * k)

module _ (m t₀ : List ℕ) (p word : ℕ) (U : (i r : ℕ) → i < 64 → r < 2 → (get_or t₀ (index (64 * p + i) r) 0 ≡ 65535 → ⊥) → bit word i ≡ 1) where
  -- pairs between the bits have no targets
  unused : {k q : ℕ} → LowestFrom word k q → (j : ℕ) → 128 * p + 2 * k ≤ j → j < 128 * p + 2 * q → redirected m (get_or t₀ j 0) ≡ get_or t₀ j 0
  unused {k} {q} L j a b =
      let i : ℕ = j / 2 - 64 * p in
      let z : index (64 * p + i) (j % 2) ≡ j = omega arith in
      let e : get_or t₀ j 0 ≡ 65535 =
      dite (ℕ_discrete (get_or t₀ j 0) 65535) (λ y. y)
      (λ f. absurd (omega (arith, U i (j % 2) (omega (arith, L.most)) (omega arith) (λ h. f (ap (λ (n : ℕ). get_or t₀ n 0) (sym z) ∙ h)), L.none i (omega arith) (omega arith)))) in
      rw e (sym (redirect_far m 65535 (omega arith)))

  pub word_start : length t₀ ≡ 8192 → p < 64 → Redirecting m t₀ p word t₀ word
  word_start l b =
      let z : 128 * p + 2 * 0 ≡ 128 * p = omega arith in
      record { k = 0; coming = coming_start word; done = rw z (remaking_start (128 * p) (128 * p + 128) (redirected m) t₀ (omega arith) (omega arith)) }

  module _ {t : List ℕ} {rest : ℕ} (R : Redirecting m t₀ p word t rest) where
    on : {q : ℕ} → LowestFrom word R.k q → Remaking (128 * p) (128 * p + 128) (redirected m) t₀ t (128 * p + 2 * q)
    on L = remaking_gap (128 * p) (128 * p + 128) (redirected m) R.done (omega (arith, L.least)) (omega (arith, L.most)) (unused L)

    pub word_again : {q z x y : ℕ} → q < 64 → LowestFrom rest 0 q → z ≡ without rest q → x ≡ redirected m (get_or t (128 * p + 2 * q) 0)
        → y ≡ redirected m (get_or (set t (128 * p + 2 * q) x) (128 * p + 2 * q + 1) 0)
        → Redirecting m t₀ p word (set (set t (128 * p + 2 * q) x) (128 * p + 2 * q + 1) y) z
    word_again {q} b L e f g =
        let one = remaking_more (128 * p) (128 * p + 128) (redirected m) (on (coming_next R.coming L b)) (omega arith) f in
        let two = remaking_more (128 * p) (128 * p + 128) (redirected m) one (omega arith) g in
        let w : 128 * p + 2 * q + 1 + 1 ≡ 128 * p + 2 * (q + 1) = omega arith in
        record { k = q + 1; coming = coming_more R.coming L b e; done = rw w at two }

    pub word_end : rest ≡ 0 → t ≡ remade (128 * p) (128 * p + 128) (redirected m) t₀
    word_end e = remaking_end (128 * p) (128 * p + 128) (redirected m) (on (coming_end R.coming e)) (omega arith)

-- the words before p are done
pub record Through (m t₀ t : List ℕ) (p : ℕ) : Type 0 where
  pub most : p ≤ 64
  pub long : length t ≡ 8192
  pub done : Passing (λ j x. redirected m x) t₀ t (128 * p)

module _ (m t₀ : List ℕ) where
  pub all_start : length t₀ ≡ 8192 → Through m t₀ t₀ 0
  all_start l = record { most = omega arith; long = l; done = passing_none (λ j x. redirected m x) t₀ }

  module _ {t : List ℕ} {p : ℕ} (T : Through m t₀ t p) where
    pub all_asks : (seen : List ℕ) → p < 64 → ((i r : ℕ) → i < 4096 → r < 2 → (get_or t₀ (index i r) 0 ≡ 65535 → ⊥) → Member seen i)
        → (i r : ℕ) → i < 64 → r < 2 → (get_or t (index (64 * p + i) r) 0 ≡ 65535 → ⊥) → bit (get_or seen p 0) i ≡ 1
    all_asks seen l U i r a b f =
        let y : (64 * p + i) / 64 ≡ p = omega arith in
        let z : (64 * p + i) % 64 ≡ i = omega arith in
        rw (y, z) at (U (64 * p + i) r (omega arith) b (λ e. f (T.done.after (index (64 * p + i) r) (omega arith) ∙ e)))

    pub all_again : {t' : List ℕ} → p < 64 → t' ≡ remade (128 * p) (128 * p + 128) (redirected m) t → Through m t₀ t' (p + 1)
    all_again l e =
        let z : 128 * (p + 1) ≡ 128 * p + 128 = omega arith in
        let P = passing_span (λ j x. redirected m x) (redirected m) T.done (omega arith) (omega (arith, T.long)) e (λ k x a b. refl) in
        record { most = omega arith; long = P.long ∙ sym T.done.long ∙ T.long; done = rw z P }

    -- pairs that have no word have no targets
    pub all_end : (seen : List ℕ) → ((i r : ℕ) → i < 4096 → r < 2 → (get_or t₀ (index i r) 0 ≡ 65535 → ⊥) → Member seen i) → length seen ≤ p
        → t ≡ map (redirected m) t₀
    all_end seen U l =
        mapped (redirected m)
        (passing_gap (λ j x. redirected m x) {j = 8192} T.done (omega (arith, T.most)) (omega (arith, T.long)) far) (omega (arith, T.long))
      where
        far : (k : ℕ) → 128 * p ≤ k → k < 8192 → redirected m (get_or t₀ k 0) ≡ get_or t₀ k 0
        far k a b =
            let z : index (k / 2) (k % 2) ≡ k = omega arith in
            let e : get_or t₀ k 0 ≡ 65535 =
            dite (ℕ_discrete (get_or t₀ k 0) 65535) (λ y. y)
            (λ f. absurd (none_past seen (k / 2) (omega arith)
            (U (k / 2) (k % 2) (omega arith) (omega arith) (λ h. f (ap (λ (n : ℕ). get_or t₀ n 0) (sym z) ∙ h))))) in
            rw e (sym (redirect_far m 65535 (omega arith)))

-- ---- the words that are used
-- all members are in the first n words
abbrev Used : List ℕ → ℕ → Type 0
Used w n = (n ≤ length w) × ((k : ℕ) → Member w k → Member (take n w) k)

-- they have all pairs seen
module _ {w : List ℕ} {r : ℕ} {g : Buffers} (C : Covers w g) (U : Used w r) where
  pub used_most : length (take r w) ≤ 64
  used_most = omega (arith, length-take-le r w U.0, U.0, C.long)

  pub used_targets : (i s : ℕ) → i < 4096 → s < 2 → (get_or g.targets (index i s) 0 ≡ 65535 → ⊥) → Member (take r w) i
  used_targets i s a c f = U.1 i (C.targets i s a c f)

  pub used_holds : Holds (take r w) g.marks
  used_holds = record { most = used_most; has = λ k c p. U.1 k (C.marks k c p) }

  pub used_here : {n k : ℕ} → n ≡ k → Member w k → Member (take r w) n
  used_here {k = k} q m = subst (Member (take r w)) (sym q) (U.1 k m)

-- no place is kept
module _ (m : List ℕ) {b : Bool} (e : b ≡ bool (each 64 (λ j. eq (get_or m (4096 + j) 0) 0))) (y : b ≡ true) where
  stays : (x : ℕ) → redirected m x ≡ x
  unfolding marked
  stays x =
      let z : get_or m (4096 + x % 64) 0 ≡ 0 = says (each 64 (λ j. eq (get_or m (4096 + j) 0) 0)) (T_true (sym e ∙ y)) (x % 64) (omega arith) in
      dite (dec_lt x 4096) (λ l. sym (redirect_near m x {q = new_of x} refl refl refl l (rw z))) (λ l. sym (redirect_far m x (omega arith)))

  pub all_stay : (t : List ℕ) → t ≡ map (redirected m) t
  all_stay t =
      let f : ℕ → ℕ → ℕ = λ j x. redirected m x in
      mapped (redirected m) {i = length t} (passing_gap f (passing_none f t) (omega arith) (omega arith) (λ k a d. stays (get_or t k 0))) (omega arith)

-- ---- the lone kept start
module _ (heads : Heads) (m : List ℕ) {k : ℕ} {b : Bool} (a : k ≡ start_kept heads) (d : b ≡ marked m k) where
  pub alone-kept : b ≡ true → b ≡ alone heads m
  unfolding alone
  alone-kept t = t ∙ rw (ap (marked m) (sym a) ∙ sym d ∙ t)

  pub alone_not : {f : ℕ} {p : OldPlace} {q : NewPlace} {r : Bool} → b ≡ false → f ≡ start_pair heads → p ≡ old_of f → q ≡ new_of f
      → r ≡ bool (fair heads p q) → not r ≡ alone heads m
  unfolding alone
  alone_not t e o n h =
      let u = o ∙ ap old_of e in
      let v = n ∙ ap new_of e in
      rw (ap (marked m) (sym a) ∙ sym d ∙ t) (ap not (h ∙ (λ i. bool (fair heads (u i) (v i)))))

pub lone_is : (heads : Heads) {m t s w : List ℕ} {k : ℕ} → k ≡ start_kept heads
    → buffers m t s w ≡ buffers (replicate 4160 0) (replicate 8192 65535) (replicate 4096 0) (replicate 4096 0)
    → buffers (set m k 2) t s w ≡ lone heads
unfolding lone
lone_is heads f e = λ i. buffers (set (e i).marks (f i) 2) (e i).targets (e i).sets (e i).waiting

-- its marks: one kept node, no open or covered one
module _ (heads : Heads) {m t s w : List ℕ} (e : buffers m t s w ≡ lone heads) where
  is : m ≡ set (replicate 4160 0) (start_kept heads) 2
  unfolding lone
  is = λ i. (e i).marks

  none_at : (v k : ℕ) → 0 < v → (v ≡ 2 → ⊥) → get_or m k 0 ≡ v → ⊥
  none_at v k a b z = go (ℕ_discrete k (start_kept heads)) (rw is at z)
    where
      go : Dec (k ≡ start_kept heads) → get_or (set (replicate 4160 0) (start_kept heads) 2) k 0 ≡ v → ⊥
      go (yes q) h = b (sym h ∙ rw q (get_or-set_same {A = ℕ} (replicate 4160 0) (start_kept heads) 2 0 (omega arith)))
      go (no q) h = omega (arith, h, get_or-set_other {A = ℕ} (replicate 4160 0) (start_kept heads) k 2 0 q, zeros_at 4160 k)

  lone-none : (v : ℕ) → 0 < v → (v ≡ 2 → ⊥) → 0 ≡ count v m
  lone-none v a b = sym (count_none v m {i = 0} (omega arith) (λ k x y z. none_at v k a b z))

  lone-one : 1 ≡ count 2 m
  lone-one =
      let a = count_set 2 (replicate 4160 0) (start_kept heads) (omega arith) (λ z. omega (arith, z, zeros_at 4160 (start_kept heads))) in
      let b = count_none 2 (replicate 4160 0) {i = 0} (omega arith) (λ k x y z. omega (arith, z, zeros_at 4160 k)) in
      omega (arith, ap (count 2) is, a, b)

-- ---- counting
-- of the elements up to i, n are v
pub record Counting (v : ℕ) (l : List ℕ) (n i : ℕ) : Type 0 where
  pub few : n ≤ i
  pub same : count v l ≡ n + count v (drop i l)

module _ (v : ℕ) (l : List ℕ) where
  pub count-start : Counting v l 0 0
  count-start = record { few = omega arith; same = omega arith }

  module _ {n i : ℕ} (C : Counting v l n i) where
    -- one element more
    pub count-one : {o : ℕ} → i < length l → o ≡ from_bool (eqb (get_or l i 0) v) → Counting v l (n + o) (i + 1)
    count-one {o} b e = go (ℕ_discrete (get_or l i 0) v)
      where
        go : Dec (get_or l i 0 ≡ v) → Counting v l (n + o) (i + 1)
        go (yes y) =
            let z : o ≡ 1 = e ∙ ap from_bool (eq-eqb (get_or l i 0) v y) in
            record { few = omega (arith, C.few); same = omega (arith, C.same, count-here v l i b y) }
        go (no y) =
            let z : o ≡ 0 = e ∙ ap from_bool (ne_eqb (get_or l i 0) v y) in
            record { few = omega (arith, C.few); same = omega (arith, C.same, count_else v l i b y) }

    -- all of them
    pub count-all : length l ≤ i → n ≡ count v l
    unfolding count
    count-all b = let z : count v (drop i l) ≡ 0 = ap (count v) (drop_of_length-le l b) in omega (arith, C.same)

-- ---- the end
module _ (heads : Heads) (m t s w : List ℕ) {b : Bool} (e : b ≡ alone heads m) where
  pub finish_alone : {g : Buffers} → b ≡ true → g ≡ lone heads → g ≡ finished heads (buffers m t s w)
  unfolding finished
  finish_alone q a = a ∙ rw (sym e ∙ q, finished)

  pub finish_joint : {f : ℕ} {t' m' : List ℕ} → b ≡ false → f ≡ start_pair heads → t' ≡ map (redirected m) t → m' ≡ final_marks f t' m
      → buffers m' t' s w ≡ finished heads (buffers m t s w)
  unfolding finished final_targets
  finish_joint q c a d = graph-eq (d ∙ (λ i. final_marks (c i) (a i) m)) a refl refl ∙ rw (sym e ∙ q, finished)

module _ (heads : Heads) (m : List ℕ) {b : Bool} (e : b ≡ alone heads m) where
  start-alone : {k : ℕ} → b ≡ true → k ≡ start_kept heads → k ≡ start_of heads m
  unfolding start_of
  start-alone q c = c ∙ rw (sym e ∙ q, start_of)

  start_joint : {k : ℕ} → b ≡ false → k ≡ start_pair heads → k ≡ start_of heads m
  unfolding start_of
  start_joint q c = c ∙ rw (sym e ∙ q, start_of)

-- the start and the counts
summary-is : {start start' : ℕ} (m : List ℕ) {a b c : ℕ} → start ≡ start' → a ≡ count 1 m → b ≡ count 2 m → c ≡ count 3 m
    → record { start = start; opened = a; kept = b; covered = c } ≡ summary start' m
unfolding summary
summary-is m e a b c = λ i. record { start = e i; opened = a i; kept = b i; covered = c i }

module _ (heads : Heads) (m : List ℕ) {b : Bool} (e : b ≡ alone heads m) where
  pub summed_alone : {k : ℕ} {m₁ t₁ s₁ w₁ : List ℕ} → b ≡ true → k ≡ start_kept heads → buffers m₁ t₁ s₁ w₁ ≡ lone heads
      → record { start = k; opened = 0; kept = 1; covered = 0 } ≡ summary (start_of heads m) m₁
  summed_alone {m₁ = m₁} q c g =
      summary-is m₁ (start-alone heads m e q c)
      (lone-none heads g 1 (omega arith) (λ z. omega arith)) (lone-one heads g) (lone-none heads g 3 (omega arith) (λ z. omega arith))

  pub summed_joint : {k r : ℕ} {c : Counts} (t m₁ : List ℕ) → b ≡ false → k ≡ start_pair heads → length m ≡ 4160 → length t ≡ 8192
      → (m₁ ≡ final_marks k t m) × (c.opened ≡ count 1 m₁) × (c.covered ≡ count 3 m₁)
      → r ≡ count 2 (drop 4096 m₁)
      → record { start = k; opened = c.opened; kept = r; covered = c.covered } ≡ summary (start_of heads m) m₁
  summed_joint {k} t m₁ q d lm lt f h =
      summary-is m₁ (start_joint heads m e q d) f.1 (kept-is k t m lm lt (omega arith) f.0 h) f.2
