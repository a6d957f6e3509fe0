-- `rows::add_multiple` meets its contract: at column j the columns before it are done. Assumes nothing.
use Prim.Native.Nat.{◌≤◌, ◌-◌}
use Rattle.tables.specs.RowMajor.{table}
use Rattle.tables.specs.Rows.{plus_multiple}
use Rattle.tables.proofs.Loops.{Along}
use Rattle.rows.proofs.add_multiple.Given as goal

abbrev pub invariant-loop-j : goal.invariant-loop-j
invariant-loop-j l = (l.j ≤ l.hi) × Along l.i l.lo (plus_multiple l.m (table l.initial.a l.i) (table l.initial.a l.k)) (table l.initial.a) l.a l.j

abbrev pub decreases-loop-j : goal.decreases-loop-j
decreases-loop-j l = l.hi - l.j
