-- `way_back::back` meets its contract: at place p the rows before it are done and tested. Assumes nothing.
use Prim.Native.Nat.{◌≤◌, ◌-◌}
use Rattle.definitions.specs.Numbers.{all}
use Rattle.steps.proofs.Gathering.{Gathered}
use Rattle.tables.specs.RowMajor.{table}
use Rattle.tables.specs.Operators.{between}
use Rattle.tables.specs.Rows.{times_in_range}
use Rattle.tables.specs.Vectors.{vector}
use Rattle.tables.proofs.Loops.{Down}
use Rattle.compact.specs.Listing.{stage_at}
use Rattle.way_back.specs.WayBack.{multiple}
use Rattle.way_back.proofs.back.Given as goal

abbrev pub invariant-loop-p : goal.invariant-loop-p
invariant-loop-p l =
    (l.p ≤ l.stages.count)
    × Down 0 (λ o. between 0 l.stages.count (multiple (vector l.k (stage_at l.stages.places o)) (table l.initial.y o)) (table l.initial.y o)) (table l.initial.y) l.y l.p
    × Gathered (λ o. all (times_in_range (vector l.k (stage_at l.stages.places o)) (table l.initial.y o)) 0 l.stages.count) 0 l.p l.ok

abbrev pub decreases-loop-p : goal.decreases-loop-p
decreases-loop-p l = l.stages.count - l.p
