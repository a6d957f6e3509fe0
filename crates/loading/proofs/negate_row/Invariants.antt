-- `loading::negate_row` meets its contract: at column j the columns before it are done. Assumes nothing.
use Prim.Native.Nat.{◌≤◌, ◌-◌}
use Rattle.tables.specs.RowMajor.{table}
use Rattle.tables.proofs.Loops.{Along}
use Rattle.loading.specs.LoadedTable.{negated}
use Rattle.loading.proofs.negate_row.Given as goal

abbrev pub invariant-loop-j : goal.invariant-loop-j
invariant-loop-j l = (l.j ≤ l.sheet.n) × Along l.i 0 (negated l.sheet.n l.sheet.numbers.now l.i) (table l.initial.t) l.t l.j

abbrev pub decreases-loop-j : goal.decreases-loop-j
decreases-loop-j l = l.sheet.n - l.j
