-- `ranges::products_in_range` meets its contract: at column j the columns from lo before it are tested. Assumes nothing.
use Prim.Native.Nat.{◌≤◌, ◌-◌}
use Rattle.tables.specs.RowMajor.{table}
use Rattle.tables.specs.Rows.{times_in_range}
use Rattle.steps.proofs.Gathering.{Gathered}
use Rattle.ranges.proofs.products_in_range.Given as goal

abbrev pub invariant-loop-j : goal.invariant-loop-j
invariant-loop-j l = (l.j ≤ l.hi) × Gathered (times_in_range l.m (table l.a l.k)) l.lo l.j l.ok

abbrev pub decreases-loop-j : goal.decreases-loop-j
decreases-loop-j l = l.hi - l.j
