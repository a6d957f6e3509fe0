-- `pivots::later_sizes` meets its contract: at turn q the last q sizes are added. Assumes nothing.
use Prim.Native.Nat.{suc, ◌-◌, ◌≤◌}
use mathlib.Core.Path.{◌≡◌}
use Rattle.definitions.specs.Numbers.{0·0}
use Rattle.definitions.specs.LeavingRates.{falling}
use Rattle.tables.specs.RowMajor.{table}
use Rattle.steps.proofs.Gathering.{Summed}
use Rattle.pivots.proofs.later_sizes.Given as goal

abbrev pub invariant-loop-q : goal.invariant-loop-q
invariant-loop-q l = (l.q-end ≡ l.r - suc l.k) × (l.q ≤ l.q-end) × Summed 0·0 (falling l.r (table l.t l.k)) 0 l.q l.sum

abbrev pub decreases-loop-q : goal.decreases-loop-q
decreases-loop-q l = l.q-end - l.q
