-- `checker::inner::examined::Examined::first_fault` meets its contract. The invariant: no pair passed has a fault.
-- Assumes nothing.
use Rattle.std.proofs.Common.{◌≡◌, ◌-◌, ◌≤◌}
use Rattle.checker.specs.Checks.{pair_fault}
use Rattle.base.specs.Options.{first_of}
use Rattle.checker.specs.inner.Examinations.{charts_in, graph_in}
use Rattle.std.specs.Prelude.{None}
use Rattle.checker.proofs.inner.examined.Examined.first_fault.Given as goal

abbrev pub invariant-loop-m : goal.invariant-loop-m
invariant-loop-m l = (l.m ≤ 4096) × (first_of l.m (pair_fault (charts_in l.self) (graph_in l.self)) ≡ None)

abbrev pub decreases-loop-m : goal.decreases-loop-m
decreases-loop-m l = 4096 - l.m
