-- `columns::quotients` meets its contract: at row i the rows before it are divided and tested. Assumes nothing.
use Prim.Native.Nat.{◌≤◌, ◌-◌}
use Rattle.definitions.specs.Numbers.{all}
use Rattle.tables.specs.RowMajor.{table}
use Rattle.tables.specs.Operators.{between}
use Rattle.tables.specs.Rows.{over, over_in_range}
use Rattle.steps.proofs.Gathering.{Gathered}
use Rattle.tables.proofs.Loops.{Down}
use Rattle.columns.proofs.quotients.Given as goal

abbrev pub invariant-loop-i : goal.invariant-loop-i
invariant-loop-i w =
    (w.i ≤ w.r)
    × Down 0 (λ l. between 0 w.r (over (table w.t l l) (table w.initial.b l)) (table w.initial.b l)) (table w.initial.b) w.b w.i
    × Gathered (λ l. all (over_in_range (table w.t l l) (table w.initial.b l)) 0 w.r) 0 w.i w.ok

abbrev pub decreases-loop-i : goal.decreases-loop-i
decreases-loop-i l = l.r - l.i
