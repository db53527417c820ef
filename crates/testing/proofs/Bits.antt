-- One bit, as std converts it. Assumes nothing.
use mathlib.Core.Path.{◌≡◌, refl}
use Rattle.std.specs.Prelude.{Bool, true, false}
use Rattle.std.specs.Int.{from_bool}
use Rattle.testing.specs.Numbers.{bit}

pub bit_of : (b : Bool) → from_bool b ≡ bit b
bit_of true = refl
bit_of false = refl
