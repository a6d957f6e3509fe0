-- `kept::scale_row` meets its contract: at place q the places before it are done and tested. Assumes nothing.
use mathlib.Core.Bool.{◌||◌}
use Prim.Native.Nat.{◌≤◌, ◌-◌}
use lib.Dec.{eqb}
use Rattle.definitions.specs.Numbers.{mul_in_range}
use Rattle.steps.proofs.Gathering.{Gathered}
use Rattle.tables.specs.RowMajor.{table}
use Rattle.tables.specs.Vectors.{vector}
use Rattle.tables.proofs.Loops.{Along}
use Rattle.kept.specs.Scaled.{in_order, times}
use Rattle.kept.proofs.scale_row.Given as goal

abbrev pub invariant-loop-q : goal.invariant-loop-q
invariant-loop-q l =
    (l.q ≤ l.stages.count)
    × Along l.p 0 (times (in_order l.stages.places (vector l.k)) (table l.initial.s l.p)) (table l.initial.s) l.s l.q
    × Gathered (λ o. eqb o l.p || mul_in_range (table l.initial.s l.p o) (in_order l.stages.places (vector l.k) o)) 0 l.q l.ok

abbrev pub decreases-loop-q : goal.decreases-loop-q
decreases-loop-q l = l.stages.count - l.q
