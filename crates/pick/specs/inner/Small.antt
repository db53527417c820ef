-- Numbers of answers that are small: what `main` has to know of them.
use Rattle.std.specs.Prelude.{◌^◌, ◌≤◌, ◌<◌, Ok, Err}
use Rattle.base.specs.Answers.{Answer}
use Rattle.pick.specs.declared.Both.{Both}

-- the row counts are those of faultless charts, and a position is a u32
abbrev pub Few : Answer Both → Type 0
Few (Ok b) = (b.old_rows ≤ 128) × (b.new_rows ≤ 128)
Few (Err r) = r.position < 2 ^ 32
