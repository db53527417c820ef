-- What only the private functions need of the numbers that a call gives.
use Rattle.std.specs.Prelude.{◌^◌, ◌<◌}
use Rattle.text.specs.declared.answers.Heading.{Heading}
use Rattle.picker.specs.declared.Four.{Four}

-- four numbers that have 14 bits each, as those of every answer have (proofs/Answers.antt)
pub record Below (f : Four) : Type 0 where
  pub a : f.a < 2 ^ 14
  pub b : f.b < 2 ^ 14
  pub c : f.c < 2 ^ 14
  pub d : f.d < 2 ^ 14

-- a chart that is read, as the reader tells it
abbrev pub of_heading : Heading → Four
of_heading h = record { a = h.head.places; b = h.head.alarm; c = h.rows; d = 0 }
