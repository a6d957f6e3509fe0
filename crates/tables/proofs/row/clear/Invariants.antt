-- `tables::row::clear` meets its contract: at column j the columns before it are done. Assumes nothing.
use Prim.Native.Nat.{◌≤◌, ◌-◌}
use Rattle.definitions.specs.Numbers.{0·0}
use Rattle.tables.specs.RowMajor.{table}
use Rattle.tables.proofs.Loops.{Along}
use Rattle.tables.proofs.row.clear.Given as goal

abbrev pub invariant-loop-j : goal.invariant-loop-j
invariant-loop-j l = (l.j ≤ l.r) × Along l.i 0 (λ _. 0·0) (table l.initial.a) l.a l.j

abbrev pub decreases-loop-j : goal.decreases-loop-j
decreases-loop-j l = l.r - l.j
