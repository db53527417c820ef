-- Answers that lead to further ones: "The reader tests this once its text has been read to the end".
use Rattle.base.specs.Answers.{Answer}
use Rattle.std.specs.Prelude.{Ok, Err}

-- what is asked of what was given; a refusal stays: "the program finishes old.csv before new.csv"
abbrev pub and_then : {A B : Type 0} → Answer A → (A → Answer B) → Answer B
and_then (Ok x) f = f x
and_then (Err r) f = Err r

-- what is made of what was given; a refusal stays: "reads old.csv and new.csv and prints", "A refusal prints 9999"
abbrev pub mapped : {A B : Type 0} → (A → B) → Answer A → Answer B
mapped f (Ok x) = Ok (f x)
mapped f (Err r) = Err r
