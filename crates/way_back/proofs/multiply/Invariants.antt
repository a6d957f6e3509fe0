-- `way_back::multiply` meets its contract: at column q the columns before it are done and tested. Assumes nothing.
use Prim.Native.Nat.{◌≤◌, ◌-◌}
use Rattle.steps.proofs.Gathering.{Gathered}
use Rattle.tables.specs.RowMajor.{table}
use Rattle.tables.specs.Rows.{times_in_range}
use Rattle.tables.proofs.Loops.{Along}
use Rattle.way_back.specs.WayBack.{multiple}
use Rattle.way_back.proofs.multiply.Given as goal

abbrev pub invariant-loop-q : goal.invariant-loop-q
invariant-loop-q l = (l.q ≤ l.r) × Along l.p 0 (multiple l.m (table l.initial.y l.p)) (table l.initial.y) l.y l.q × Gathered (times_in_range l.m (table l.initial.y l.p)) 0 l.q l.ok

abbrev pub decreases-loop-q : goal.decreases-loop-q
decreases-loop-q l = l.r - l.q
