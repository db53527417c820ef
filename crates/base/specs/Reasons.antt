-- The numbers of refusals ("Who can cause a refusal"): each reason of the code has the specification's number.
use Rattle.std.specs.Prelude.{ℕ}
use Rattle.base.specs.declared.Reason.{Reason}
use Rattle.base.specs.declared.Reason.TheVariants as because

-- "1 no places or rows; 2 above 64 places or 128 rows; 3 alarm not below n" and so on: the number of a refusal
abbrev pub reason_number : Reason → ℕ
reason_number because.Lacking = 1
reason_number because.Exceeding = 2
reason_number because.AlarmOutside = 3
reason_number because.Straying = 4
reason_number because.Descending = 5
reason_number because.UnknownCode = 6
reason_number because.WrongOperand = 7
reason_number because.Conflicting = 8
reason_number because.NoBytes = 11
reason_number because.BadByte = 12
reason_number because.BadNumber = 13
reason_number because.WrongEnd = 14
reason_number because.WrongCall = 21
reason_number because.Misshapen = 31
reason_number because.BrokenRule = 32
