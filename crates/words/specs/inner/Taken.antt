-- The bits of a word taken out one after another.
use Rattle.std.specs.Prelude.{◌≡◌, Bool, false, ℕ, ◌<◌, Option, MatchOption}
use Rattle.sets.specs.Sets.{bit, without}
use Rattle.words.specs.inner.Words.{LowestFrom}

-- r is a bit of x, of which y lacks it: the lowest, unless it is to go down. None is taken where x has none
abbrev pub Taken : Bool → ℕ → Option ℕ → ℕ → Type 0
Taken down x r y =
    MatchOption r ((x ≡ 0) × (y ≡ 0))
    (λ q. (q < 64) × (bit x q ≡ 1) × (y ≡ without x q) × (down ≡ false → LowestFrom x 0 q))
