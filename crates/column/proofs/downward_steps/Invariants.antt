-- `column::downward_steps` meets its contract: at stage k the stages from j before it are done. Assumes nothing.
use Prim.Native.Nat.{◌≤◌, ◌-◌}
use Rattle.tables.specs.RowMajor.{table}
use Rattle.tables.specs.Vectors.{vector}
use Rattle.column.proofs.ColumnStages.{Downs}
use Rattle.column.proofs.downward_steps.Given as goal

abbrev pub invariant-loop-k : goal.invariant-loop-k
invariant-loop-k l = (l.k ≤ l.r) × Downs l.r l.j (table l.t) (vector l.initial.b) l.k l.ok l.b

abbrev pub decreases-loop-k : goal.decreases-loop-k
decreases-loop-k l = l.r - l.k
