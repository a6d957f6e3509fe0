-- `downward::stages` meets its contract: at turn pair the stages of the pairs before it are done. Assumes nothing.
use Prim.Native.Nat.{◌≤◌, ◌-◌, ◌*◌}
use Rattle.tables.specs.RowMajor.{table}
use Rattle.passes.specs.Weights.{weights_in}
use Rattle.passes.proofs.FiniteStages.{StagesTold}
use Rattle.downward.proofs.stages.Given as goal

abbrev pub invariant-loop-pair : goal.invariant-loop-pair
invariant-loop-pair l = (l.pair ≤ l.pair-end) × StagesTold (weights_in l.weights) l.r (table l.initial.t) (2 * l.pair) l.ok l.t

abbrev pub decreases-loop-pair : goal.decreases-loop-pair
decreases-loop-pair l = l.pair-end - l.pair
