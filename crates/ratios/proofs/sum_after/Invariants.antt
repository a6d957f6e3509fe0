-- `ratios::sum_after` meets its contract: at column j the sizes before it are added. Assumes nothing.
use Prim.Native.Nat.{◌≤◌, ◌-◌, suc}
use Rattle.tables.specs.RowMajor.{table}
use Rattle.steps.proofs.Gathering.{Summed}
use Rattle.ratios.proofs.sum_after.Given as goal

abbrev pub invariant-loop-j : goal.invariant-loop-j
invariant-loop-j l = (l.j ≤ l.n) × Summed l.start (table l.t l.i) (suc l.i) l.j l.sum

abbrev pub decreases-loop-j : goal.decreases-loop-j
decreases-loop-j l = l.n - l.j
