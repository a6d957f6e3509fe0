-- `column::upward_steps` meets its contract: q stages are done. Assumes nothing.
use Prim.Native.Nat.{◌≤◌, ◌-◌}
use Rattle.tables.specs.RowMajor.{table}
use Rattle.tables.specs.Vectors.{vector}
use Rattle.column.proofs.ColumnStages.{Ups}
use Rattle.column.proofs.upward_steps.Given as goal

abbrev pub invariant-loop-q : goal.invariant-loop-q
invariant-loop-q l = (l.q ≤ l.r) × Ups l.r (table l.t) (vector l.initial.b) l.q l.ok l.b

abbrev pub decreases-loop-q : goal.decreases-loop-q
decreases-loop-q l = l.r - l.q
