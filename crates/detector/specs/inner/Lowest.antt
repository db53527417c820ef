-- Which pair is found of one old place: the contract of a private function.
use Rattle.std.specs.Prelude.{◌≡◌, List, ℕ, ◌+◌, ◌*◌, ◌/◌, ◌≤◌, ◌<◌, get_or, Option, None, Some}

-- what is found is the lowest waiting pair with old place p
abbrev pub LowestOf : List ℕ → ℕ → Option ℕ → Type 0
LowestOf w p (Some n) = (n / 64 ≡ p) × (0 < get_or w n 0) × ((i : ℕ) → 64 * p ≤ i → i < n → get_or w i 0 ≡ 0)
LowestOf w p None = (i : ℕ) → 64 * p ≤ i → i < 64 * p + 64 → get_or w i 0 ≡ 0
