-- PROCESS, with line 27 and in edition 2 its footnote 8, comes to what the aligned step comes to, and to nothing else.
-- Assumes nothing.
use mathlib.Core.Path.{◌≡◌, refl, sym, ap, subst, ◌∙◌}
use mathlib.Core.Bool.{Bool, true, false, ◌&&◌, ◌||◌, not}
use Rattle.std.specs.Prelude.{Option, None, Some}
use Rattle.std.proofs.lemmas.Option.{none-some, same_Some}
use Prim.Native.Nat.{ℕ}
use borrow.Author.Tests.{eq-eqb, eqb-true}
use lib.Dec.{eqb}
use Rattle.base.specs.Options.{when}
use Rattle.base.specs.Says.{bool}
use Rattle.base.proofs.OnSome.{OnSome}
use Rattle.base.proofs.Picks.{pick_true, pick_false}
use Rattle.chart.specs.declared.places.OldPlace.{OldPlace}
use Rattle.chart.specs.Compared.{Compared, is_second, heads_of}
use Rattle.chart.proofs.Words.{Words}
use Rattle.chart.specs.Faultless.{FaultlessChart}
use Rattle.align.specs.declared.spots.Spot.{Spot}
use Rattle.align.specs.Steps.{at_alarm, followed, fair, at_both, rescued, arrived}
use Rattle.align.proofs.Steps.{Fits}
use Rattle.paper.specs.Nodes.{Pair, pair}
use Rattle.paper.specs.Lines5to18.{Loop}
use Rattle.paper.specs.Algorithm2.{State, ℓ-err, ℓ₂', to_place, line27, to_pair, Footnote8, lines23to25, line27-so, footnote8, lines29to33, Called}
use Rattle.paper.proofs.Single.{at}
use Rattle.paper.proofs.Stepping.{Walked, came, twice, walked}
use Rattle.paper.proofs.Outcomes.{looped, ended}

-- ---- line 27 and the step's last rule
module _ (X : Compared) (s : State) (n : Pair) (r : ℕ) where
  -- the state by what the step comes to
  unfoldable pub stepped_to : Option Spot → State
  stepped_to None = to_place s n r (ℓ₂' X n.new r)
  stepped_to (Some h) = to_pair X s n r (pair h.place (ℓ₂' X n.new r)) h.set

  -- line 27 asks what the step's last rule asks
  asks : (h : Spot) → bool (fair (heads_of X) h.place (ℓ₂' X n.new r)) ≡ not (line27 X (pair h.place (ℓ₂' X n.new r)))
  unfolding line27
  asks h = go (eqb (ℓ₂' X n.new r).0 X.new.head.alarm) (eqb h.place.0 X.old.head.alarm)
    where
      go : (a b : Bool) → not a || b ≡ not (not b && a)
      go true true = refl
      go true false = refl
      go false true = refl
      go false false = refl

  fails : arrived X (ℓ₂' X n.new r) None ≡ None
  unfolding arrived
  fails = refl

  passes : (h : Spot) → line27 X (pair h.place (ℓ₂' X n.new r)) ≡ false → arrived X (ℓ₂' X n.new r) (Some h) ≡ Some h
  unfolding arrived
  passes h e = pick_true (bool (fair (heads_of X) h.place (ℓ₂' X n.new r))) (Some h) (rescued X h) (asks h ∙ ap not e)

  stops : (h : Spot) → line27 X (pair h.place (ℓ₂' X n.new r)) ≡ true → arrived X (ℓ₂' X n.new r) (Some h) ≡ rescued X h
  unfolding arrived
  stops h e = pick_false (bool (fair (heads_of X) h.place (ℓ₂' X n.new r))) (Some h) (rescued X h) (asks h ∙ ap not e)

module _ (X : Compared) (F : FaultlessChart X.old) (words : Words X.old.table) where
  -- ---- footnote 8's search and what the step follows
  module _ (h : Spot) (T : Fits 64 h) where
    -- what rescues the step is a search
    rescued-search : (h' : Spot) → rescued X h ≡ Some h' → (h'.place ≡ ℓ-err X) × Footnote8 X h.place h.set h'.set
    unfolding rescued at_both
    rescued-search h' e = second (is_second X) refl e
      where
        at_end : {x : Option Spot} → Walked X F h.place h.set x → X.edition ≡ 2 → at_both X x ≡ Some h' → (h'.place ≡ ℓ-err X) × Footnote8 X h.place h.set h'.set
        at_end (twice L i) t e = absurd (none-some h' e)
        at_end (came {h = h''} {been = been} L n c) t e = go (at_alarm X h''.place) refl e
          where
            go : (b : Bool) → at_alarm X h''.place ≡ b → when b h'' ≡ Some h' → (h'.place ≡ ℓ-err X) × Footnote8 X h.place h.set h'.set
            go true a e =
                let z = same_Some h'' h' e in
                let y : h''.place ≡ ℓ-err X = ap (λ (p : ℕ). record { 0 = p }) (eqb-true h''.place.0 X.old.head.alarm a) in
                let x = ap (λ (k : Spot). k.place) (sym z) ∙ y in
                let M = subst (λ (k : Spot). Loop X h.place h.set been k.place k.set) z L in
                (x, record { edition = t; been = been; search = subst (λ (p : OldPlace). Loop X h.place h.set been p h'.set) x M })
            go false a e = absurd (none-some h' e)

        second : (b : Bool) → is_second X ≡ b → ◌≡◌ {A = Option Spot} (elim b as (λ _. Option Spot) [ true ↦ at_both X (followed X h) | false ↦ None ]) (Some h')
            → (h'.place ≡ ℓ-err X) × Footnote8 X h.place h.set h'.set
        second true t e = at_end (walked X F h.place h.set T.place T.set) (eqb-true X.edition 2 t) e
        second false t e = absurd (none-some h' e)

    -- and what a search comes to rescues it
    search_rescues : (v : ℕ) → Footnote8 X h.place h.set v → rescued X h ≡ Some (at (ℓ-err X) v)
    unfolding rescued at_both
    search_rescues v S =
        let e = ended X F words h.place h.set T.place T.set (looped X F words h.place h.set T.place T.set S.search) (λ op q M. M.not_err refl) in
        pick_true (is_second X) (at_both X (followed X h)) None (eq-eqb X.edition 2 S.edition)
        ∙ ap (at_both X) e ∙ ap (λ (b : Bool). when b (at (ℓ-err X) v)) (eq-eqb X.old.head.alarm X.old.head.alarm refl)

  -- ---- the calls of PROCESS
  module _ (s : State) (n : Pair) (r : ℕ) where
    -- PROCESS can leave that state
    pub process_can : (o : Option Spot) → OnSome (Fits 64) o → Called X s n r o (stepped_to X s n r (arrived X (ℓ₂' X n.new r) o))
    unfolding stepped_to
    process_can None f = rw (fails X s n r) lines23to25
    process_can (Some h) f = go (line27 X (pair h.place (ℓ₂' X n.new r))) refl
      where
        rescue : line27 X (pair h.place (ℓ₂' X n.new r)) ≡ true → (x : Option Spot) → rescued X h ≡ x → Called X s n r (Some h) (stepped_to X s n r x)
        rescue e None d = line27-so e (λ v S. none-some _ (sym d ∙ search_rescues h f v S))
        rescue e (Some h') d = let z = rescued-search h f h' d in rw z.0 (footnote8 e z.1)

        go : (b : Bool) → line27 X (pair h.place (ℓ₂' X n.new r)) ≡ b → Called X s n r (Some h) (stepped_to X s n r (arrived X (ℓ₂' X n.new r) (Some h)))
        go true e = rw (stops X s n r h e) (rescue e (rescued X h) refl)
        go false e = rw (passes X s n r h e) (lines29to33 e)

    -- and no other
    pub process_only : (o : Option Spot) → OnSome (Fits 64) o → {t : State} → Called X s n r o t → t ≡ stepped_to X s n r (arrived X (ℓ₂' X n.new r) o)
    unfolding stepped_to
    process_only None f lines23to25 = sym (ap (stepped_to X s n r) (fails X s n r))
    process_only (Some h) f (line27-so e unsearched) = go (rescued X h) refl
      where
        go : (x : Option Spot) → rescued X h ≡ x → to_place s n r (ℓ₂' X n.new r) ≡ stepped_to X s n r (arrived X (ℓ₂' X n.new r) (Some h))
        go None d = sym (ap (stepped_to X s n r) (stops X s n r h e ∙ d))
        go (Some h') d = absurd (unsearched h'.set (rescued-search h f h' d).1)
    process_only (Some h) f (footnote8 e S) = sym (ap (stepped_to X s n r) (stops X s n r h e ∙ search_rescues h f _ S))
    process_only (Some h) f (lines29to33 e) = sym (ap (stepped_to X s n r) (passes X s n r h e))
