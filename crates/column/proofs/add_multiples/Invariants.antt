-- `column::add_multiples` meets its contract: at row i the rows from `from` before it are done. Assumes nothing.
use Prim.Native.Nat.{◌≤◌, ◌-◌}
use Rattle.definitions.specs.Numbers.{◌⊕◌, ◌⊗◌}
use Rattle.tables.specs.RowMajor.{table}
use Rattle.tables.specs.Vectors.{vector}
use Rattle.tables.proofs.Vectors.{AlongVector}
use Rattle.steps.proofs.Gathering.{Gathered}
use Rattle.column.specs.ColumnSteps.{large_product}
use Rattle.column.proofs.add_multiples.Given as goal

abbrev pub invariant-loop-i : goal.invariant-loop-i
invariant-loop-i l =
    (l.i ≤ l.to)
    × AlongVector l.from (λ a. vector l.initial.b a ⊕ table l.t a l.k ⊗ vector l.initial.b l.k) (vector l.initial.b) l.b l.i
    × Gathered (λ a. large_product (table l.t a l.k) (vector l.initial.b l.k)) l.from l.i l.ok

abbrev pub decreases-loop-i : goal.decreases-loop-i
decreases-loop-i l = l.to - l.i
