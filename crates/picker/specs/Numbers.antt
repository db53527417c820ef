-- An answer as one number, as include/picker.h takes it apart.
use Rattle.std.specs.Prelude.{List, ℕ, ◌+◌, ◌*◌, ◌^◌, length, Ok, Err}
use Rattle.base.specs.Answers.{Answer}
use Rattle.chart.specs.Charts.{Chart, charted, size}
use Rattle.condition.specs.declared.Summary.{Summary}
use Rattle.picker.specs.declared.Four.{Four}

-- include/picker.h, "A chart is a count of places, the number of its alarm, and a table of rows": a chart as it is
-- lent, two numbers beside its table
abbrev pub chart_of : ℕ → ℕ → List ℕ → Chart
chart_of places alarm table = charted (record { places = places; alarm = alarm }) table

-- include/picker.h, "Answers": "A refusal is number * 2^56 + chart * 2^48 + position; a success is below 2^56, a + b *
-- 2^14 + c * 2^28 + d * 2^42."
abbrev pub number : Answer Four → ℕ
number (Ok f) = f.a + f.b * 2 ^ 14 + f.c * 2 ^ 28 + f.d * 2 ^ 42
number (Err r) = r.number * 2 ^ 56 + r.chart * 2 ^ 48 + r.position

-- picker_value of include/picker.h, "The numbers a, b, c, d of a success": one number, 0, 0, 0
abbrev pub one : ℕ → Four
one n = record { a = n; b = 0; c = 0; d = 0 }

-- picker_read_places, _alarm and _rows of include/picker.h, of a chart that is read: places, alarm, rows, 0
abbrev pub of_chart : Chart → Four
of_chart C = record { a = C.head.places; b = C.head.alarm; c = size C.table; d = 0 }

-- picker_write_bytes of include/picker.h, of a text that is written: the count of its bytes, 0, 0, 0
abbrev pub of_text : List ℕ → Four
of_text t = one (length t)

-- picker_judge_faultless and picker_check_passed of include/picker.h, where no refusal is due: 0, 0, 0, 0
abbrev pub zeros : Four
zeros = one 0

-- picker_build_start, _open, _kept and _covered of include/picker.h, of a build: start, open, kept, covered
abbrev pub of_build : Summary → Four
of_build s = record { a = s.start; b = s.opened; c = s.kept; d = s.covered }
