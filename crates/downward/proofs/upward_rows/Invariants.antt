-- `downward::upward_rows` meets its contract: at row i the rows before it are done. Assumes nothing.
use Prim.Native.Nat.{◌≤◌, ◌-◌, suc}
use Rattle.tables.specs.RowMajor.{table}
use Rattle.tables.specs.Operators.{between}
use Rattle.passes.specs.Stages.{over_pivot, upward_row_in_range}
use Rattle.steps.proofs.Gathering.{Gathered}
use Rattle.tables.proofs.Loops.{Down}
use Rattle.downward.proofs.upward_rows.Given as goal

abbrev pub invariant-loop-i : goal.invariant-loop-i
invariant-loop-i w =
    (w.i ≤ w.r)
    × Down 0 (λ l. between (suc l) w.r (over_pivot (table w.initial.t) l) (table w.initial.t l)) (table w.initial.t) w.t w.i
    × Gathered (upward_row_in_range w.r (table w.initial.t)) 0 w.i w.ok

abbrev pub decreases-loop-i : goal.decreases-loop-i
decreases-loop-i l = l.r - l.i
