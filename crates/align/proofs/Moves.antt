-- The aligned step branch by branch, as the code comes upon it. Assumes nothing.
use mathlib.Core.Path.{◌≡◌, sym, ap, subst, ◌∙◌}
use mathlib.Core.Bool.{Bool, true, false, ◌&&◌, ◌||◌, not}
use mathlib.Core.List.{List}
use Rattle.std.specs.Prelude.{Option, None, Some}
use Prim.Native.Nat.{ℕ, zero, suc, ◌-◌, ◌^◌, ◌<◌, ◌≤◌}
use native.Mathlib.Omega.{arith}
use lib.Dec.{eqb}
use Rattle.base.specs.Options.{when, or_else}
use Rattle.base.specs.Says.{bool}
use Rattle.base.proofs.Tests.{and_true}
use Rattle.base.proofs.Picks.{pick_true, pick_false, pick_none, pick_some}
use Rattle.base.proofs.OnSome.{OnSome, on_at, when-so, or_on, picked, further, on_map}
use Rattle.operations.specs.declared.Operation.{Operation}
use Rattle.operations.specs.Operations.{is_assignment, is_assumption, same}
use Rattle.operations.specs.Trials.{implication}
use Rattle.chart.specs.declared.places.OldPlace.{OldPlace}
use Rattle.chart.specs.declared.places.NewPlace.{NewPlace}
use Rattle.chart.specs.Charts.{Chart, size, to, operation, leaving}
use Rattle.chart.specs.Faultless.{FaultlessChart}
use Rattle.align.specs.declared.spots.Spot.{Spot}
use Rattle.sets.specs.Sets.{alone, joined, with, without, meets}
use Rattle.align.specs.Reads.{read_set}
use Rattle.align.specs.Steps.{find, is_implied, along, matching, matched, rewritten, rows_at, at_alarm, writing_row, unequal, assigned, onward, follow, followed, counterpart, assumed, moved, fair, at_both, rescued, arrived, step}
use Rattle.align.proofs.Onto.{same→eq, Among, found, writing-row_writes}
use Rattle.chart.proofs.Parts.{row-to}
use Rattle.chart.specs.Compared.{Compared, is_second, heads_of}

-- ---- lines 7 and 8
module _ (s : ℕ) (o : Operation) {m : Bool} (t : m ≡ meets s (read_set o)) where
  pub rewritten-with : {r : ℕ} → m ≡ true → r ≡ with s o.a → r ≡ rewritten s o
  unfolding rewritten
  rewritten-with u q = q ∙ sym (pick_true (meets s (read_set o)) (with s o.a) (without s o.a) (sym t ∙ u))

  pub rewritten-without : {r : ℕ} → m ≡ false → r ≡ without s o.a → r ≡ rewritten s o
  unfolding rewritten
  rewritten-without u q = q ∙ sym (pick_false (meets s (read_set o)) (with s o.a) (without s o.a) (sym t ∙ u))

-- ---- line 15
abbrev by_implication : List ℕ → Operation → Option ℕ
by_implication rows o = find rows (λ o'. is_assumption o' && is_implied (implication o o'))

module _ (rows : List ℕ) (o : Operation) {x : Option ℕ} (e : x ≡ find rows (λ o'. same o' o)) where
  pub matching-same : {k : ℕ} → x ≡ Some k → Some k ≡ matching rows o
  unfolding matching
  matching-same q = ap (λ (y : Option ℕ). or_else y (by_implication rows o)) (sym (sym e ∙ q))

  pub matching-implied : {o' : Operation} {r : Option ℕ} → x ≡ None → o' ≡ o → r ≡ find rows (λ o''. is_assumption o'' && is_implied (implication o' o'')) → r ≡ matching rows o
  unfolding matching
  matching-implied q p h = h ∙ ap (by_implication rows) p ∙ ap (λ (y : Option ℕ). or_else y (by_implication rows o)) (sym (sym e ∙ q))

matching-there : (rows : List ℕ) (o : Operation) → OnSome (Among rows (λ o. Unit {0})) (matching rows o)
unfolding matching
matching-there rows o =
    or_on _ (find rows (λ o'. same o' o)) _ (found rows (λ o'. same o' o) (λ o t. tt))
    (λ _. found rows (λ o'. is_assumption o' && is_implied (implication o o')) (λ o t. tt))

pub matching-inside : (rows : List ℕ) (o : Operation) (k : ℕ) → Some k ≡ matching rows o → k < size rows
matching-inside rows o k e = (on_at _ (matching-there rows o) (sym e)).inside

-- what is matched with an assumption is one too
matching_assumes : (rows : List ℕ) (o : Operation) → is_assumption o ≡ true → OnSome (Among rows (λ o. is_assumption o ≡ true)) (matching rows o)
unfolding matching
matching_assumes rows o t =
    or_on _ (find rows (λ o'. same o' o)) _ (found rows (λ o'. same o' o) (λ o' e. subst (λ (x : Operation). is_assumption x ≡ true) (sym (same→eq o' o e)) t))
    (λ _. found rows (λ o'. is_assumption o' && is_implied (implication o o')) (λ o' e. (and_true (is_assumption o') _ e).0))

pub matched_assumes : (rows : List ℕ) (o : Operation) (k : ℕ) → is_assumption o ≡ true → Some k ≡ matching rows o → is_assumption (operation rows k) ≡ true
matched_assumes rows o k t e = (on_at _ (matching_assumes rows o t) (sym e)).fits

-- a row that is found by its operation has that operation
pub same_found : (rows : List ℕ) (o : Operation) (k : ℕ) → Some k ≡ find rows (λ o'. same o' o) → operation rows k ≡ o
same_found rows o k e = (on_at _ (found rows (λ o'. same o' o) {P = λ o'. o' ≡ o} (λ o' t. same→eq o' o t)) (sym e)).fits

-- ---- line 10
module _ (X : Compared) (h : Spot) (a : ℕ) {s : ℕ} (z : s ≡ with h.set a) where
  pub unequal-first : is_second X ≡ false → record { place = h.place; set = s } ≡ unequal X h a (writing_row X h.place a)
  unfolding unequal writing_row
  unequal-first b = (λ j. record { place = h.place; set = z j }) ∙ ap (unequal X h a) (sym (pick_false (is_second X) _ None b))

  -- footnote 6
  module _ {rows : List ℕ} {x : Option ℕ} (b : is_second X ≡ true) (r : rows ≡ rows_at X h.place) (e : x ≡ find rows (λ o. is_assignment o && eqb o.a a)) where
    wrote : x ≡ writing_row X h.place a
    unfolding writing_row
    wrote = e ∙ ap (λ (rows : List ℕ). find rows (λ o. is_assignment o && eqb o.a a)) r ∙ sym (pick_true (is_second X) _ None b)

    pub unequal-both : {k : ℕ} {t : OldPlace} → x ≡ Some k → t.0 ≡ to rows k → record { place = t; set = s } ≡ unequal X h a (writing_row X h.place a)
    unfolding unequal
    unequal-both {k} q p =
        (λ j. record { place = record { 0 = (p ∙ ap (λ (rows : List ℕ). to rows k) r) j }; set = z j }) ∙ ap (unequal X h a) (sym (sym wrote ∙ q))

    pub unequal-alone : x ≡ None → record { place = h.place; set = s } ≡ unequal X h a (writing_row X h.place a)
    unfolding unequal
    unequal-alone q = (λ j. record { place = h.place; set = z j }) ∙ ap (unequal X h a) (sym (sym wrote ∙ q))

-- ---- lines 6 to 10
module _ (X : Compared) (h : Spot) (o : Operation) {rows : List ℕ} {x : Option ℕ} (r : rows ≡ rows_at X h.place) (e : x ≡ find rows (λ o'. same o' o)) where
  sought : x ≡ find (rows_at X h.place) (λ o'. same o' o)
  sought = e ∙ ap (λ (rows : List ℕ). find rows (λ o'. same o' o)) r

  pub assigned_equal : {k : ℕ} {t : OldPlace} {o' : Operation} {s : ℕ} → x ≡ Some k → t.0 ≡ to rows k → o' ≡ o → s ≡ rewritten h.set o'
      → record { place = t; set = s } ≡ assigned X h o (find (rows_at X h.place) (λ o'. same o' o))
  unfolding assigned
  assigned_equal {k} {t} q p i z =
      (λ j. record { place = record { 0 = (p ∙ ap (λ (rows : List ℕ). to rows k) r) j }; set = (z ∙ ap (rewritten h.set) i) j })
      ∙ ap (assigned X h o) (sym (sym sought ∙ q))

  pub assigned-unequal : {a : ℕ} {s : Spot} → x ≡ None → a ≡ o.a → s ≡ unequal X h a (writing_row X h.place a)
      → s ≡ assigned X h o (find (rows_at X h.place) (λ o'. same o' o))
  unfolding assigned
  assigned-unequal q i z = z ∙ ap (λ (a : ℕ). unequal X h a (writing_row X h.place a)) i ∙ ap (assigned X h o) (sym (sym sought ∙ q))

-- a place that a row of a faultless chart leads to is one of 64
pub part_below : (C : Chart) → FaultlessChart C → (p k : ℕ) → k < size (leaving C.table p) → to (leaving C.table p) k < 64
part_below C F p k l = let r = row-to C F p k l in let f = F.few_places in omega arith

module _ (X : Compared) (F : FaultlessChart X.old) where
  abbrev pub Below : Spot → Type 0
  Below h = h.place.0 < 64

  along-below : (p s : ℕ) (x : Option ℕ) → OnSome (Among (leaving X.old.table p) (λ o. is_assignment o ≡ true)) x → OnSome Below (along s (leaving X.old.table p) x)
  unfolding along
  along-below p s None q = tt
  along-below p s (Some k) q = (part_below X.old F p k q.inside)

  pub onward-below : (h : Spot) → OnSome Below (onward X h)
  unfolding onward
  onward-below h =
      picked _ (at_alarm X h.place) None _ (λ t. tt)
      (λ t. along-below h.place.0 h.set (find (rows_at X h.place) is_assignment) (found (rows_at X h.place) is_assignment (λ o t. t)))

  follow-below : (n met : ℕ) (h : Spot) → Below h → OnSome Below (follow X n met h)
  unfolding follow
  follow-below zero met h b = tt
  follow-below (suc n) met h b =
      further Below _ (onward X h) (Some h) _ (onward-below h) b
      (λ h' b'. picked _ (meets met (alone h'.place.0)) None _ (λ t. tt) (λ t. follow-below n (with met h'.place.0) h' b'))

  pub followed-below : (h : Spot) → Below h → OnSome Below (followed X h)
  unfolding followed
  followed-below h b = follow-below 64 (alone h.place.0) h b

  assumed-below : (h : Spot) (o : Operation) → Below h → (x : Option ℕ) → OnSome (Among (rows_at X h.place) (λ o. Unit {0})) x → OnSome Below (assumed X h o x)
  unfolding assumed matched
  assumed-below h o b None q = b
  assumed-below h o b (Some k) q =
      when-so _ (not (meets h.set (read_set o) || meets h.set (read_set (operation (rows_at X h.place) k)))) _ (λ t. part_below X.old F h.place.0 k q.inside)

  counterpart-there : (p : OldPlace) (o : Operation) → OnSome (Among (rows_at X p) (λ o. Unit {0})) (counterpart X p o)
  unfolding counterpart
  counterpart-there p o = picked _ (at_alarm X p) None _ (λ t. tt) (λ t. matching-there (rows_at X p) o)

  unequal-below : (h : Spot) (a : ℕ) → Below h → (x : Option ℕ) → OnSome (λ k. k < size (rows_at X h.place)) x → Below (unequal X h a x)
  unfolding unequal
  unequal-below h a b None q = b
  unequal-below h a b (Some k) q = part_below X.old F h.place.0 k q

  assigned-below : (h : Spot) (o : Operation) → Below h → (x : Option ℕ) → OnSome (Among (rows_at X h.place) (λ o. Unit {0})) x → Below (assigned X h o x)
  unfolding assigned
  assigned-below h o b None q = unequal-below h o.a b (writing_row X h.place o.a) (on_map _ _ (writing_row X h.place o.a) (λ k A. A.inside) (writing-row_writes X h.place o.a))
  assigned-below h o b (Some k) q = part_below X.old F h.place.0 k q.inside

  pub moved-below : (h : Spot) (o : Operation) → Below h → OnSome Below (moved X h o)
  unfolding moved followed
  moved-below h o b =
      picked _ (is_assignment o) _ _
      (λ t. (assigned-below h o b (find (rows_at X h.place) (λ o'. same o' o)) (found (rows_at X h.place) (λ o'. same o' o) (λ o t. tt))))
      (λ t. further Below _ (follow X 64 (alone h.place.0) h) None _ (follow-below 64 (alone h.place.0) h b) tt
      (λ h' b'. assumed-below h' o b' (counterpart X h'.place o) (counterpart-there h'.place o)))

  rescued-below : (h : Spot) → Below h → OnSome Below (rescued X h)
  unfolding rescued at_both
  rescued-below h b = picked _ (is_second X) _ None (λ t. go (followed X h) (followed-below h b)) (λ t. tt)
    where
      go : (x : Option Spot) → OnSome Below x → OnSome Below (at_both X x)
      go None f = tt
      go (Some h') f = when-so _ (at_alarm X h'.place) h' (λ t. f)

  -- the old place that a step comes to is one of 64
  pub step-below : (h : Spot) (o : Operation) (q : NewPlace) → Below h → OnSome Below (step X h o q)
  unfolding step arrived
  step-below h o q b = go (moved X h o) (moved-below h o b)
    where
      go : (x : Option Spot) → OnSome Below x → OnSome Below (arrived X q x)
      go None f = tt
      go (Some h') f = picked _ (bool (fair (heads_of X) h'.place q)) (Some h') (rescued X h') (λ t. f) (λ t. rescued-below h' f)

module _ (X : Compared) where
  -- ---- lines 13 and 14
  pub onward-ends : (h : Spot) → at_alarm X h.place ≡ true → None ≡ onward X h
  unfolding onward
  onward-ends h t = sym (pick_true (at_alarm X h.place) None _ t)

  pub onward_by : (h : Spot) {rows : List ℕ} {x : Option ℕ} {r : Option Spot} → at_alarm X h.place ≡ false → rows ≡ rows_at X h.place
      → x ≡ find rows is_assignment → r ≡ along h.set rows x → r ≡ onward X h
  unfolding onward
  onward_by h {x = x} t e q p =
      p ∙ ap (along h.set _) q ∙ ap (λ (rows : List ℕ). along h.set rows (find rows is_assignment)) e
      ∙ sym (pick_false (at_alarm X h.place) None (along h.set (rows_at X h.place) (find (rows_at X h.place) is_assignment)) t)

  module _ (n met : ℕ) (h : Spot) where
    pub follow-ends : {r : Option Spot} → r ≡ onward X h → r ≡ None → Some h ≡ follow X (suc n) met h
    unfolding follow
    follow-ends e q = sym (pick_none (onward X h) (Some h) _ (sym e ∙ q))

    pub follow_twice : {r : Option Spot} (h' : Spot) → r ≡ onward X h → r ≡ Some h' → meets met (alone h'.place.0) ≡ true → None ≡ follow X (suc n) met h
    unfolding follow
    follow_twice h' e q t = sym (pick_some (onward X h) (Some h) _ h' (sym e ∙ q) ∙ pick_true (meets met (alone h'.place.0)) None _ t)

    pub follow_on : {r : Option Spot} (h' : Spot) → r ≡ onward X h → r ≡ Some h' → meets met (alone h'.place.0) ≡ false
        → follow X (suc n) met h ≡ follow X n (with met h'.place.0) h'
    unfolding follow
    follow_on h' e q t = pick_some (onward X h) (Some h) _ h' (sym e ∙ q) ∙ pick_false (meets met (alone h'.place.0)) None _ t

  -- ---- line 15
  pub counterpart-none : (p : OldPlace) (o : Operation) → at_alarm X p ≡ true → None ≡ counterpart X p o
  unfolding counterpart
  counterpart-none p o t = sym (pick_true (at_alarm X p) None (matching (rows_at X p) o) t)

  pub counterpart_by : (p : OldPlace) (o : Operation) {rows : List ℕ} {x : Option ℕ} → at_alarm X p ≡ false → rows ≡ rows_at X p
      → x ≡ matching rows o → x ≡ counterpart X p o
  unfolding counterpart
  counterpart_by p o t e q = q ∙ ap (λ (rows : List ℕ). matching rows o) e ∙ sym (pick_false (at_alarm X p) None (matching (rows_at X p) o) t)

  -- ---- lines 16 to 18
  pub assumed_on : (h : Spot) (o : Operation) {x : Option ℕ} → x ≡ counterpart X h.place o → x ≡ None → Some h ≡ assumed X h o (counterpart X h.place o)
  unfolding assumed
  assumed_on h o e q = ap (assumed X h o) (sym (sym e ∙ q))

  pub assumed_by : (h : Spot) (o : Operation) (k : ℕ) {rows : List ℕ} {x : Option ℕ} {r : Option Spot} → x ≡ counterpart X h.place o → x ≡ Some k
      → rows ≡ rows_at X h.place → r ≡ matched h.set rows k o → r ≡ assumed X h o (counterpart X h.place o)
  unfolding assumed
  assumed_by h o k e q s p = p ∙ ap (λ (rows : List ℕ). matched h.set rows k o) s ∙ ap (assumed X h o) (sym (sym e ∙ q))

  -- ---- the step
  module _ (h : Spot) (o : Operation) where
    pub moved-assigned : {s : Spot} → is_assignment o ≡ true → s ≡ assigned X h o (find (rows_at X h.place) (λ o'. same o' o)) → Some s ≡ moved X h o
    unfolding moved
    moved-assigned t e = ap Some e ∙ sym (pick_true (is_assignment o) (Some (assigned X h o (find (rows_at X h.place) (λ o'. same o' o)))) _ t)

    pub moved_twice : {f : Option Spot} → is_assignment o ≡ false → f ≡ followed X h → f ≡ None → None ≡ moved X h o
    unfolding moved
    moved_twice t e q = sym (pick_false (is_assignment o) (Some (assigned X h o (find (rows_at X h.place) (λ o'. same o' o)))) _ t ∙ pick_none (followed X h) None _ (sym e ∙ q))

    pub moved_assumed : {f r : Option Spot} (h' : Spot) → is_assignment o ≡ false → f ≡ followed X h → f ≡ Some h'
        → r ≡ assumed X h' o (counterpart X h'.place o) → r ≡ moved X h o
    unfolding moved
    moved_assumed h' t e q p = p ∙ sym (pick_false (is_assignment o) (Some (assigned X h o (find (rows_at X h.place) (λ o'. same o' o)))) _ t ∙ pick_some (followed X h) None _ h' (sym e ∙ q))

  -- ---- line 27
  module _ (h : Spot) where
    pub rescued-first : is_second X ≡ false → None ≡ rescued X h
    unfolding rescued
    rescued-first b = sym (pick_false (is_second X) (at_both X (followed X h)) None b)

    -- footnote 8
    module _ {f : Option Spot} (b : is_second X ≡ true) (e : f ≡ followed X h) where
      searched : at_both X f ≡ rescued X h
      unfolding rescued
      searched = ap (at_both X) e ∙ sym (pick_true (is_second X) (at_both X (followed X h)) None b)

      pub rescued-both : (h' : Spot) → f ≡ Some h' → at_alarm X h'.place ≡ true → Some h' ≡ rescued X h
      unfolding at_both
      rescued-both h' q t = sym (ap (at_both X) q ∙ ap (λ (a : Bool). when a h') t) ∙ searched

      pub rescued_elsewhere : (h' : Spot) → f ≡ Some h' → at_alarm X h'.place ≡ false → None ≡ rescued X h
      unfolding at_both
      rescued_elsewhere h' q t = sym (ap (at_both X) q ∙ ap (λ (a : Bool). when a h') t) ∙ searched

      pub rescued_twice : f ≡ None → None ≡ rescued X h
      unfolding at_both
      rescued_twice q = sym (ap (at_both X) q) ∙ searched

-- ---- the loop that follows: the walk so far and the walk from here on are one
module _ (X : Compared) (h : Spot) where
  pub record Walk (at : Spot) (met left : ℕ) : Type 0 where
    pub below : at.place.0 < 64
    pub rest : followed X h ≡ follow X left met at

  pub walk_begins : {met : ℕ} → h.place.0 < 64 → met ≡ 2 ^ h.place.0 → Walk h met 64
  unfolding followed alone
  walk_begins b e = record { below = b; rest = ap (λ (m : ℕ). follow X 64 m h) (sym e) }

  module _ {at : Spot} {met left : ℕ} (walk : Walk at met left) where
    pub walk_over : left ≤ 0 → None ≡ followed X h
    unfolding follow
    walk_over l = let z : left ≡ 0 = omega arith in sym (walk.rest ∙ ap (λ (n : ℕ). follow X n met at) z)

    module _ {r : Option Spot} (l : 0 < left) (e : r ≡ onward X at) where
      again : left ≡ suc (left - 1)
      again = omega arith

      pub walk_ends : r ≡ None → Some at ≡ followed X h
      walk_ends q = sym (walk.rest ∙ ap (λ (n : ℕ). follow X n met at) again ∙ sym (follow-ends X (left - 1) met at e q))

      pub next-below : {next : Spot} → FaultlessChart X.old → r ≡ Some next → next.place.0 < 64
      next-below {next} F q = on_at _ (onward-below X F at) (sym e ∙ q)

      module _ {next : Spot} {b : ℕ} {m : Bool} (q : r ≡ Some next) (p : b ≡ 2 ^ next.place.0) (t : m ≡ meets met b) where
        come_to : meets met (alone next.place.0) ≡ m
        unfolding alone
        come_to = sym (t ∙ ap (meets met) p)

        pub walk_twice : m ≡ true → None ≡ followed X h
        walk_twice u = sym (walk.rest ∙ ap (λ (n : ℕ). follow X n met at) again ∙ sym (follow_twice X (left - 1) met at next e q (come_to ∙ u)))

        pub walk_on : {b' met' : ℕ} → FaultlessChart X.old → m ≡ false → b' ≡ 2 ^ next.place.0 → met' ≡ joined met b' → Walk next met' (left - 1)
        unfolding alone with
        walk_on F u p' j =
            record {
              below = next-below F q;
              rest = walk.rest ∙ ap (λ (n : ℕ). follow X n met at) again ∙ follow_on X (left - 1) met at next e q (come_to ∙ u)
                  ∙ ap (λ (m : ℕ). follow X (left - 1) m next) (sym (j ∙ ap (joined met) p'));
            }
