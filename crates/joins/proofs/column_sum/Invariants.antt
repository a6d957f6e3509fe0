-- `joins::column_sum` meets its contract: at stage l the known stages before it are added and tested. Assumes nothing.
use Prim.Native.Nat.{◌≤◌, ◌-◌}
use Rattle.tables.specs.RowMajor.{table}
use Rattle.tables.specs.Vectors.{vector}
use Rattle.compact.specs.Listing.{marked}
use Rattle.joins.specs.StageJoin.{knows, KnownSum}
use Rattle.joins.proofs.column_sum.Given as goal

abbrev pub invariant-loop-l : goal.invariant-loop-l
invariant-loop-l l = (l.l ≤ l.n) × KnownSum (knows l.c (marked l.kept)) (table l.x l.i) (vector l.w) l.l l.sum l.ok

abbrev pub decreases-loop-l : goal.decreases-loop-l
decreases-loop-l l = l.n - l.l
