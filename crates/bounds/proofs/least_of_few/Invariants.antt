-- `bounds::least_of_few` meets its contract: at column j the numbers before it are bounded. Assumes nothing.
use Prim.Native.Nat.{◌≤◌, ◌-◌}
use Rattle.tables.specs.RowMajor.{table}
use Rattle.bounds.specs.Bounds.{Least}
use Rattle.bounds.proofs.least_of_few.Given as goal

abbrev pub invariant-loop-j : goal.invariant-loop-j
invariant-loop-j l = (l.j ≤ l.to) × Least l.lo (table l.a l.k) l.from l.j l.least

abbrev pub decreases-loop-j : goal.decreases-loop-j
decreases-loop-j l = l.to - l.j
