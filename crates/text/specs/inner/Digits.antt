-- What the test of a byte answers ("a field is 1 or more digits").
use Rattle.std.specs.Prelude.{◌≡◌, ℕ, ◌<◌, ◌≤◌}
use Rattle.text.specs.Fields.{digit_of}

-- r tells the digit that a byte is, by a number above 9 where it is none: whichever a subtraction gives
pub record TellsDigit (r b : ℕ) : Type 0 where
  pub is : r ≤ 9 → r ≡ digit_of b
  pub none : 9 < r → 9 < digit_of b
