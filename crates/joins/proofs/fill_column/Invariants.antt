-- `joins::fill_column` meets its contract: at row i the rows before it are done and tested. Assumes nothing.
use mathlib.Core.Bool.{not, ◌||◌}
use Prim.Native.Nat.{◌≤◌, ◌-◌}
use Rattle.steps.proofs.Gathering.{Gathered}
use Rattle.tables.specs.RowMajor.{table}
use Rattle.tables.proofs.Loops.{Down}
use Rattle.tables.specs.Vectors.{vector}
use Rattle.compact.specs.Listing.{marked}
use Rattle.joins.specs.StageJoin.{knows, column_row, place_in_range}
use Rattle.joins.proofs.fill_column.Given as goal

abbrev pub invariant-loop-i : goal.invariant-loop-i
invariant-loop-i l =
    (l.i ≤ l.n)
    × Down 0 (λ a. column_row l.n (knows l.c (marked l.kept)) l.c (vector l.w) a (table l.initial.x a)) (table l.initial.x) l.x l.i
    × Gathered (λ a. not (knows l.c (marked l.kept) a) || place_in_range l.n (knows l.c (marked l.kept)) (vector l.w) (table l.initial.x a)) 0 l.i l.ok

abbrev pub decreases-loop-i : goal.decreases-loop-i
decreases-loop-i l = l.n - l.i
