-- `text::fields::judge` meets its contract: a law for each kind of field and each answer. Assumes nothing.
use Rattle.text.proofs.Numbers.{judge_plain, judge_count, judge_many, judge_spare, judge_used}
use Rattle.text.proofs.fields.judge.Goals as goal

pub returns-then-number-le128 : goal.returns-then-number-le128
returns-then-number-le128 c = search judge_count

pub returns-then-number-eq0 : goal.returns-then-number-eq0
returns-then-number-eq0 c = search judge_spare

pub returns-in-Plain : goal.returns-in-Plain
returns-in-Plain c = search judge_plain

pub returns-else-number-le128 : goal.returns-else-number-le128
returns-else-number-le128 c = search judge_many

pub returns-else-number-eq0 : goal.returns-else-number-eq0
returns-else-number-eq0 c = search judge_used
