-- `kept::system_rows` meets its contract: at place p the rows before it are done and tested. Assumes nothing.
use Prim.Native.Nat.{◌≤◌, ◌-◌}
use Rattle.steps.proofs.Gathering.{Gathered}
use Rattle.tables.specs.RowMajor.{table}
use Rattle.tables.specs.Vectors.{vector}
use Rattle.tables.proofs.Loops.{Down}
use Rattle.kept.specs.Scaled.{scaled_row, scaled_row_in_range}
use Rattle.kept.proofs.system_rows.Given as goal

abbrev pub invariant-loop-p : goal.invariant-loop-p
invariant-loop-p l =
    (l.p ≤ l.stages.count)
    × Down 0 (λ o. scaled_row l.n l.stages.count l.stages.places (table l.t) (vector l.k) (vector l.w) o (table l.initial.s o)) (table l.initial.s) l.s l.p
    × Gathered (λ o. scaled_row_in_range l.n l.stages.count l.stages.places (table l.t) (vector l.k) (vector l.w) o (table l.initial.s o)) 0 l.p l.ok

abbrev pub decreases-loop-p : goal.decreases-loop-p
decreases-loop-p l = l.stages.count - l.p
