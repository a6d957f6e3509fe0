-- `downward::upward_row` meets its contract: at column k the columns before it are done. Assumes nothing.
use Prim.Native.Nat.{◌≤◌, ◌-◌, suc}
use Rattle.tables.specs.RowMajor.{table}
use Rattle.definitions.specs.Numbers.{div_in_range}
use Rattle.passes.specs.Stages.{over_pivot}
use Rattle.steps.proofs.Gathering.{Gathered}
use Rattle.tables.proofs.Loops.{Along}
use Rattle.downward.proofs.upward_row.Given as goal

abbrev pub invariant-loop-k : goal.invariant-loop-k
invariant-loop-k w = (w.k ≤ w.r) × Along w.i (suc w.i) (over_pivot (table w.initial.t) w.i) (table w.initial.t) w.t w.k × Gathered (λ l. div_in_range (table w.initial.t w.i l) (table w.initial.t l l)) (suc w.i) w.k w.ok

abbrev pub decreases-loop-k : goal.decreases-loop-k
decreases-loop-k l = l.r - l.k
