-- `pivots::later_products` meets its contract: at turn q the last q products are added and tested. Assumes nothing.
use Prim.Native.Nat.{suc, ◌-◌, ◌≤◌}
use mathlib.Core.Path.{◌≡◌}
use lib.ListN.{get_or}
use lib.Ieee.{nan}
use Rattle.definitions.specs.Numbers.{◌⊗◌, 0·0, mul_in_range}
use Rattle.definitions.specs.LeavingRates.{falling}
use Rattle.tables.specs.RowMajor.{table}
use Rattle.steps.proofs.Gathering.{Gathered, Summed}
use Rattle.pivots.proofs.later_products.Given as goal

abbrev pub invariant-loop-q : goal.invariant-loop-q
invariant-loop-q l =
    (l.q-end ≡ l.r - suc l.k)
    × (l.q ≤ l.q-end)
    × Summed 0·0 (falling l.r (λ j. table l.t l.k j ⊗ get_or l.weights j nan)) 0 l.q l.sum
    × Gathered (λ p. mul_in_range (table l.t l.k (l.r - suc p)) (get_or l.weights (l.r - suc p) nan)) 0 l.q l.ok

abbrev pub decreases-loop-q : goal.decreases-loop-q
decreases-loop-q l = l.q-end - l.q
