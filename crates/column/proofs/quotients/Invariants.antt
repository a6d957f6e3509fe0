-- `column::quotients` meets its contract: at row i the rows before it are divided and tested. Assumes nothing.
use Prim.Native.Nat.{◌≤◌, ◌-◌}
use Rattle.definitions.specs.Numbers.{◌⊘◌, div_in_range}
use Rattle.tables.specs.RowMajor.{table}
use Rattle.tables.specs.Vectors.{vector}
use Rattle.tables.proofs.Vectors.{AlongVector}
use Rattle.steps.proofs.Gathering.{Gathered}
use Rattle.column.proofs.quotients.Given as goal

abbrev pub invariant-loop-i : goal.invariant-loop-i
invariant-loop-i l =
    (l.i ≤ l.r) × AlongVector 0 (λ a. vector l.initial.b a ⊘ table l.t a a) (vector l.initial.b) l.b l.i × Gathered (λ a. div_in_range (vector l.initial.b a) (table l.t a a)) 0 l.i l.ok

abbrev pub decreases-loop-i : goal.decreases-loop-i
decreases-loop-i l = l.r - l.i
