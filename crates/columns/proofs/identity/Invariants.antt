-- `columns::identity` meets its contract: at row i the rows before it are done. Assumes nothing.
use Prim.Native.Nat.{◌≤◌, ◌-◌}
use Rattle.tables.specs.RowMajor.{table}
use Rattle.tables.specs.Operators.{between}
use Rattle.passes.specs.RowPass.{identity_row}
use Rattle.tables.proofs.Loops.{Down}
use Rattle.columns.proofs.identity.Given as goal

abbrev pub invariant-loop-i : goal.invariant-loop-i
invariant-loop-i w = (w.i ≤ w.r) × Down 0 (λ l. between 0 w.r (identity_row l) (table w.initial.b l)) (table w.initial.b) w.b w.i

abbrev pub decreases-loop-i : goal.decreases-loop-i
decreases-loop-i l = l.r - l.i
