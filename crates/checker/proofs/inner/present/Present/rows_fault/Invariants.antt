-- `checker::inner::present::Present::rows_fault` meets its contract. The invariant: no row passed is at fault. Assumes
-- nothing.
use Rattle.std.proofs.Common.{◌≡◌}
use Rattle.std.specs.Prelude.{None}
use Rattle.base.specs.Options.{first_of}
use Rattle.checker.specs.Checks.{target_fault}
use Rattle.checker.specs.inner.Presences.{charts_at, graph_at}
use Rattle.checker.proofs.inner.present.Present.rows_fault.Given as goal

abbrev pub invariant-loop-k : goal.invariant-loop-k
invariant-loop-k l = first_of l.k (target_fault (charts_at l.self) (graph_at l.self) l.self.m l.self.rows.now) ≡ None
