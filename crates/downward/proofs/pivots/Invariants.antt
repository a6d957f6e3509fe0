-- `downward::pivots` meets its contract: at stage k the places before it are filled. Assumes nothing.
use Prim.Native.Nat.{◌≤◌, ◌-◌}
use Rattle.tables.specs.RowMajor.{table}
use Rattle.tables.specs.Vectors.{vector}
use Rattle.downward.specs.Downward.{on_diagonal}
use Rattle.tables.proofs.Vectors.{AlongVector}
use Rattle.downward.proofs.pivots.Given as goal

abbrev pub invariant-loop-k : goal.invariant-loop-k
invariant-loop-k l = (l.k ≤ l.r) × AlongVector 0 (on_diagonal (table l.t)) (vector l.initial.p) l.p l.k

abbrev pub decreases-loop-k : goal.decreases-loop-k
decreases-loop-k l = l.r - l.k
