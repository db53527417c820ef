-- The counts of rows are within the tables. Assumes nothing.
use mathlib.Core.Path.{sym}
use lib.Seq.{length-take-le}
use Rattle.pick.proofs.Reading.{few_rows, refused-near}
use native.Mathlib.Omega.{arith}
use Rattle.pick.proofs.main.Goals as goal

pub refuse-requires : goal.refuse-requires
refuse-requires c = refused-near _ c.charts.ensures _ c.in-Err.is

pub overflow_mul-m : goal.overflow_mul-m
overflow_mul-m c = let f = few_rows _ c.charts.ensures _ c.in-Ok.is in omega (arith, f.0)

pub overflow_mul-n : goal.overflow_mul-n
overflow_mul-n c = let f = few_rows _ c.charts.ensures _ c.in-Ok.is in omega (arith, f.1)

pub slice_bounds-old-end : goal.slice_bounds-old-end
slice_bounds-old-end c = let f = few_rows _ c.charts.ensures _ c.in-Ok.is in omega (arith, f.0)

pub slice_bounds-show-end : goal.slice_bounds-show-end
slice_bounds-show-end c = let f = few_rows _ c.charts.ensures _ c.in-Ok.is in sym (length-take-le _ c.charts.new.old (omega (arith, f.0)))

pub slice_bounds-new-end : goal.slice_bounds-new-end
slice_bounds-new-end c = let f = few_rows _ c.charts.ensures _ c.in-Ok.is in omega (arith, f.1)

pub slice_bounds-show-end-in-Ok : goal.slice_bounds-show-end-in-Ok
slice_bounds-show-end-in-Ok c = let f = few_rows _ c.charts.ensures _ c.in-Ok.is in sym (length-take-le _ c.charts.new.new (omega (arith, f.1)))
