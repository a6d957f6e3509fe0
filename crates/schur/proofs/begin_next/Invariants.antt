-- `schur::begin_next` meets its contract: at row i column k + 1 of the rows before it is done. Assumes nothing.
use Prim.Native.Nat.{◌≤◌, ◌-◌, suc}
use Rattle.tables.specs.RowMajor.{table}
use Rattle.tables.proofs.Loops.{Down}
use Rattle.passes.specs.Stages.{column_row}
use Rattle.schur.proofs.begin_next.Given as goal

abbrev pub invariant-loop-i : goal.invariant-loop-i
invariant-loop-i l = (l.i ≤ l.r) × Down (suc (suc l.k)) (column_row l.k (table l.initial.t)) (table l.initial.t) l.t l.i

abbrev pub decreases-loop-i : goal.decreases-loop-i
decreases-loop-i l = l.r - l.i
