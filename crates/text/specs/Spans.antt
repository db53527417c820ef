-- Fields that follow one another ("Chart text").
use Rattle.std.specs.Prelude.{ℕ, zero, suc, List, [], ◌∷◌, ◌++◌, Ok, Err}
use Rattle.base.specs.Answers.{Answer}
use Rattle.text.specs.Causes.{refusal_of}
use Rattle.text.specs.Fields.{Field, item_at}

-- "keeps the text and the offset reached": the numbers that were read, and the offset after them
pub record Span : Type 0 where
  pub numbers : List ℕ
  pub next : ℕ

-- "Leftmost first": what follows a number and the offset after it; a refusal stays
abbrev pub on_field : {A : Type 0} → Field → (ℕ → ℕ → Answer A) → Answer A
on_field (Ok n) f = f n.value n.next
on_field (Err u) f = Err (refusal_of u)

-- "Records of six fields", one after the other: so many fields, from field k at an offset on, behind the numbers read
-- before them. A refusal ends the reading.
unfoldable pub fields_at : ℕ → ℕ → List ℕ → ℕ → List ℕ → Answer Span
fields_at zero k text at before = Ok (record { numbers = before; next = at })
fields_at (suc n) k text at before =
    on_field (item_at k text at) (λ x p. fields_at n (suc k) text p (before ++ (x ∷ [])))
