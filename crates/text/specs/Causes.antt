-- Why a text does not fit: the refusals that "The sender of a text" can cause.
use Rattle.std.specs.Prelude.{ℕ, Err}
use Rattle.base.specs.declared.Reason.{Reason}
use Rattle.base.specs.declared.Refusal.{Refusal}
use Rattle.base.specs.Answers.{Answer}
use Rattle.base.specs.Reasons.{reason_number}
use Rattle.base.specs.Refusals.{sole}
use Rattle.text.specs.declared.causes.Unfit.{Unfit}

-- "Each gives number, chart (0 old or sole, 1 new), position": the refusal of a text that does not fit at an offset.
-- Its reasons are "11 no bytes; 12 a byte that doesn't fit, or an end within a record [..]; 13 leading zero, above
-- 4294967295, or a non-zero spare in the first record [..]; 14 a text that ends after a whole record, CRLF or not, with
-- records missing [..], or any byte after the CRLF of the last counted record [..]. A row count above 128 that isn't 13
-- is 2"
abbrev pub refusal_of : Unfit → Refusal
refusal_of u = sole (reason_number u.reason) u.offset

-- the same of a reason and an offset, as an answer
abbrev pub refused_for : {A : Type 0} → Reason → ℕ → Answer A
refused_for reason p = Err (sole (reason_number reason) p)
