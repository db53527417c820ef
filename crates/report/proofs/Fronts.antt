-- Laws of bytes that are put one after the other, and at the front of a buffer.
-- Assumes nothing.
use mathlib.Core.Path.{◌≡◌, refl, sym, ap, ◌∙◌}
use mathlib.Core.List.{List, [], ◌∷◌, ◌++◌}
use Prim.Native.Nat.{ℕ, ◌+◌, ◌%◌, ◌≤◌}
use Rattle.std.specs.Prelude.{Option, None, Some}
use native.Mathlib.Omega.{arith}
use borrow.Author.Tests.{eq-eqb, ne_eqb}
use lib.ListN.{length, get_or, take, drop}
use lib.Seq.{sets-eq, take_at}
use Rattle.base.specs.declared.Refusal.{Refusal}
use Rattle.text.specs.Written.{fields_text}
use Rattle.text.specs.inner.Puts.{Put}
use Rattle.text.proofs.Puts.{put_then, put-length}
use Rattle.records.specs.Records.{Graph, graph_of, read_target}
use Rattle.report.specs.Lines.{line, refusal_line}
use Rattle.report.specs.Transitions.{first_row, used, transition, transition_to, of_pair}
use Rattle.condition.specs.declared.Summary.{Summary}
use Rattle.report.specs.Printed.{summary_line}
use Rattle.report.specs.Portions.{Front}

pub put-none : (l : List ℕ) (at : ℕ) → Put l at [] l at
put-none l at = record { is = refl; next = omega arith }

pub line-put : (before : List ℕ) (at a b c d : ℕ) (after : List ℕ) (r : ℕ) → (Put before at (fields_text 2 (a ∷ b ∷ c ∷ d ∷ [])) after r) × (r ≤ at + 45)
    → (Put before at (line a b c d) after r) × (r ≤ at + 45)
unfolding line
line-put before at a b c d after r p = p

-- ---- at the front

pub front-put : (before bytes after : List ℕ) (r : ℕ) → Put before 0 bytes after r → r ≤ length before → Front before bytes after r
front-put before bytes after r p h =
    let n : r ≡ length bytes = p.next ∙ omega arith in
    let z : 0 + length bytes ≡ length bytes = omega arith in
    let e : after ≡ bytes ++ drop (length bytes) before = p.is ∙ sets-eq bytes before 0 (omega arith) ∙ rw z in
    let t : take r after ≡ bytes = ap (take r) e ∙ take_at bytes (drop (length bytes) before) r (sym n) in
    record { put = e; long = n; is = t; fits = omega (arith, put-length p); counts = n ∙ sym (ap length t) }

pub front-line : (before : List ℕ) (a b c d : ℕ) (after : List ℕ) (r : ℕ) → length before ≡ 1024 → (Put before 0 (line a b c d) after r) × (r ≤ 0 + 45)
    → Front before (line a b c d) after r
front-line before a b c d after r l p = front-put before (line a b c d) after r p.0 (omega (arith, p.1))

pub front-summary : (before : List ℕ) (s : Summary) (after : List ℕ) (r : ℕ) → length before ≡ 1024
    → (Put before 0 (line s.start s.opened s.kept s.covered) after r) × (r ≤ 0 + 45) → Front before (summary_line s) after r
unfolding summary_line
front-summary before s after r l p = front-line before s.start s.opened s.kept s.covered after r l p

pub front-refusal : (before : List ℕ) (q : Refusal) (after : List ℕ) (r : ℕ) → length before ≡ 1024
    → (Put before 0 (line 9999 q.number q.chart q.position) after r) × (r ≤ 0 + 45) → Front before (refusal_line q) after r
unfolding refusal_line
front-refusal before q after r l p = front-line before 9999 q.number q.chart q.position after r l p

-- ---- one transition

module _ (before : List ℕ) (at : ℕ) (marks : List ℕ) (n row x : ℕ) where
  pub transition-none : {o : Option ℕ} → o ≡ None → (Put before at (transition_to marks n row o) before at) × (at ≤ at + 45)
  transition-none e = (rw e (put-none before at), omega arith)

  pub transition-some : {o : Option ℕ} (m : ℕ) (after : List ℕ) (r : ℕ) → o ≡ Some x → m ≡ get_or marks x 0
      → (Put before at (line n row x m) after r) × (r ≤ at + 45) → (Put before at (transition_to marks n row o) after r) × (r ≤ at + 45)
  transition-some m after r h e p = (rw (h, ← e) p.0, p.1)

-- ---- one pair

module _ (before : List ℕ) (at : ℕ) (t : List ℕ) (G : Graph) (n m : ℕ) where
  pub pair-none : (m ≡ 1 → ⊥) → (Put before at (of_pair t G n m) before at) × (at ≤ at + 90)
  unfolding of_pair
  pair-none h = (rw (ne_eqb m 1 h, of_pair) (put-none before at), omega arith)

  -- of the graph its targets alone are looked at
  pub pair_two : (row : ℕ) (x : Option ℕ) (middle : List ℕ) (p : ℕ) (y : Option ℕ) (after : List ℕ) (r : ℕ) → m ≡ 1 → (row ≡ first_row t (n % 64)) × (row ≤ 128)
      → x ≡ used (read_target t (graph_of [] G.targets []) n 0) → (Put before at (transition_to G.marks n row x) middle p) × (p ≤ at + 45)
      → y ≡ used (read_target t (graph_of [] G.targets []) n 1) → (Put middle p (transition_to G.marks n (row + 1) y) after r) × (r ≤ p + 45)
      → (Put before at (of_pair t G n m) after r) × (r ≤ at + 90)
  unfolding of_pair read_target transition
  pair_two row x middle p y after r h e u f v g =
      (rw (eq-eqb m 1 h, of_pair, ← e.0, ← u, ← v) (put_then f.0 g.0), omega (arith, f.1, g.1))
