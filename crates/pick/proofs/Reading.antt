-- Laws of reading both texts: what the two answers of the reader make. Assumes nothing.
use mathlib.Core.Path.{◌≡◌, refl, sym, ap, subst}
use mathlib.Core.List.{List}
use Prim.Native.Nat.{ℕ, ◌^◌, ◌≤◌, ◌<◌}
use Rattle.base.specs.Answers.{Answer}
use Rattle.std.specs.Prelude.{Ok, Err, MatchResult}
use Rattle.std.specs.Result.{IsErrAnd}
use Rattle.base.specs.declared.Refusal.{Refusal}
use Rattle.base.specs.Chains.{mapped}
use Rattle.base.specs.inner.Fits.{FitsOr}
use Rattle.base.proofs.Answers.{different}
use Rattle.chart.specs.Charts.{Chart}
use Rattle.chart.specs.Faultless.{FaultlessChart}
use Rattle.text.specs.declared.answers.Heading.{Heading}
use Rattle.text.specs.Texts.{heading, read_into, filled}
use Rattle.text.proofs.Bounds.{read_fits}
use Rattle.pick.specs.declared.Both.{Both}
use Rattle.report.specs.Printed.{in_new, both_of, program_edition}
use Rattle.pick.specs.Both.{BothAs}
use Rattle.pick.specs.inner.Small.{Few}
use Rattle.chart.specs.declared.charts.Heads.{Heads}
use Rattle.chart.specs.Compared.{both_heads}

-- all that the call says
abbrev Told : Answer Chart → Answer Chart → Answer Both → List ℕ → List ℕ → List ℕ → List ℕ → Type 0
Told a b r old old' new new' = BothAs a b r old old' new new' × Few r

-- what is read of a text, and what that leaves in its table
abbrev ReadAs : Answer Chart → Answer Heading → List ℕ → List ℕ → Type 0
ReadAs a r table table' = (r ≡ mapped heading a) × (table' ≡ filled a table)

module _ (old old' new : List ℕ) where
  -- the old text is refused
  one-refused : (a b : Answer Chart) (r : Refusal) → FitsOr FaultlessChart a → ReadAs a (Err r) old old' → Told a b (Err r) old old' new new
  unfolding both_of filled
  one-refused (Ok C) b r s (e, f) = absurd (different (sym e))
  one-refused (Err q) b r s (e, f) =
      let i : r ≡ q = cc in
      (record { answer = ap (λ (x : Refusal). Err x) i; old-table = f; new-table = refl }, rw i s.position)

  module _ (new' : List ℕ) where
    -- the new text is refused
    two_refused : (a b : Answer Chart) (h : Heading) (r : Refusal) → FitsOr FaultlessChart b → ReadAs a (Ok h) old old' → ReadAs b (Err r) new new'
        → Told a b (Err (in_new r)) old old' new new'
    unfolding both_of
    two_refused (Err q) b h r s (e, f) g = absurd (different e)
    two_refused (Ok C) (Ok D) h r s (e, f) (e', f') = absurd (different (sym e'))
    two_refused (Ok C) (Err q) h r s (e, f) (e', f') =
        let i : r ≡ q = cc in
        (record { answer = ap (λ (x : Refusal). Err (in_new x)) i; old-table = f; new-table = f' }, rw i s.position)

    -- both are charts
    two_charts : (a b : Answer Chart) (h g : Heading) {x : Heads} → x ≡ both_heads program_edition h.head g.head
        → FitsOr FaultlessChart a → FitsOr FaultlessChart b → ReadAs a (Ok h) old old' → ReadAs b (Ok g) new new'
        → Told a b (Ok (record { heads = x; old_rows = h.rows; new_rows = g.rows })) old old' new new'
    unfolding both_of
    two_charts (Err q) b h g z s s' (e, f) i = absurd (different e)
    two_charts (Ok C) (Err q) h g z s s' (e, f) (e', f') = absurd (different e')
    two_charts (Ok C) (Ok D) h g z s s' (e, f) (e', f') =
        let i : h ≡ heading C = cc in
        let k : g ≡ heading D = cc in
        (record { answer = rw (z, i, k); old-table = f; new-table = f' }, rw (i, k) (s.few_rows, s'.few_rows))

-- ---- a refusal of new.csv, which is told of chart 1
abbrev pub in_new_of : Answer Heading → Answer Heading
in_new_of (Ok h) = Ok h
in_new_of (Err r) = Err (in_new r)

-- by what `map_err` says of a function that tells it so
pub renewed : (r m : Answer Heading) {P : Refusal → Refusal → Type 0} → ((e d : Refusal) → P e d → d ≡ in_new e)
    → MatchResult r (λ x. m ≡ Ok x) (λ e. IsErrAnd m (P e)) → m ≡ in_new_of r
renewed (Ok x) m f h = h
renewed (Err e) (Ok y) f h = absurd h
renewed (Err e) (Err d) f h = ap (λ (x : Refusal). Err x) (f e d h)

module _ (old-text new-text old old' new : List ℕ) (r : Answer Heading) (is : ReadAs (read_into old-text old) r old old') where
  pub old-refused : (q : Refusal) → r ≡ Err q → Told (read_into old-text old) (read_into new-text new) (Err q) old old' new new
  old-refused q e = one-refused old old' new (read_into old-text old) (read_into new-text new) q (read_fits old-text old) (rw e at is)

  module _ (new' : List ℕ) (h : Heading) (e : r ≡ Ok h) where
    pub new-refused : (r' : Answer Heading) → ReadAs (read_into new-text new) r' new new' → (z : Refusal) → Err z ≡ in_new_of r'
        → Told (read_into old-text old) (read_into new-text new) (Err z) old old' new new'
    new-refused (Ok g) is' z k = absurd (different (sym k))
    new-refused (Err q) is' z k =
        let i : z ≡ in_new q = cc in
        rw i (two_refused old old' new new' (read_into old-text old) (read_into new-text new) h q (read_fits new-text new) (rw e at is) is')

    pub both_charts : (r' : Answer Heading) → ReadAs (read_into new-text new) r' new new' → (g : Heading) → Ok g ≡ in_new_of r'
        → {x : Heads} → x ≡ both_heads program_edition h.head g.head
        → Told (read_into old-text old) (read_into new-text new) (Ok (record { heads = x; old_rows = h.rows; new_rows = g.rows })) old old' new new'
    both_charts (Err q) is' g k z = absurd (different k)
    both_charts (Ok f) is' g k z =
        let i : f ≡ g = cc in
        two_charts old old' new new' (read_into old-text old) (read_into new-text new) h g z (read_fits old-text old) (read_fits new-text new)
        (rw e at is) (rw i at is')

-- the row counts of two charts that are read
pub few_rows : (r : Answer Both) → Few r → (b : Both) → r ≡ Ok b → (b.old_rows ≤ 128) × (b.new_rows ≤ 128)
few_rows r f b e = subst Few e f

-- the position of a refusal
pub refused-near : (a : Answer Both) → Few a → (r : Refusal) → a ≡ Err r → r.position < 2 ^ 32
refused-near a f r e = subst Few e f
