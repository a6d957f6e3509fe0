-- `rows::divide` meets its contract: at column j the columns before it are done and tested. Assumes nothing.
use Prim.Native.Nat.{◌≤◌, ◌-◌}
use Rattle.tables.specs.RowMajor.{table}
use Rattle.tables.specs.Rows.{over, over_in_range}
use Rattle.steps.proofs.Gathering.{Gathered}
use Rattle.tables.proofs.Loops.{Along}
use Rattle.rows.proofs.divide.Given as goal

abbrev pub invariant-loop-j : goal.invariant-loop-j
invariant-loop-j l = (l.j ≤ l.r) × Along l.i 0 (over l.p (table l.initial.a l.i)) (table l.initial.a) l.a l.j × Gathered (over_in_range l.p (table l.initial.a l.i)) 0 l.j l.ok

abbrev pub decreases-loop-j : goal.decreases-loop-j
decreases-loop-j l = l.r - l.j
