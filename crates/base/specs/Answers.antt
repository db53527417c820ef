-- What a call answers ("Who can cause a refusal").
use Rattle.std.specs.Prelude.{Result}
use Rattle.base.specs.declared.Refusal.{Refusal}

-- what was asked for, or a refusal: "The complete answer [..], refusals too"
abbrev pub Answer : Type 0 → Type 0
Answer A = Result A Refusal
