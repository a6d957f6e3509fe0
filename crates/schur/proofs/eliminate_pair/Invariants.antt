-- `schur::eliminate_pair` meets its contract: at row i the rows from k + 2 before it are done. Assumes nothing.
use Prim.Native.Nat.{◌≤◌, ◌-◌, suc}
use Rattle.tables.specs.RowMajor.{table}
use Rattle.tables.proofs.Loops.{Down}
use Rattle.passes.specs.Stages.{pair_row}
use Rattle.schur.proofs.eliminate_pair.Given as goal

abbrev pub invariant-loop-i : goal.invariant-loop-i
invariant-loop-i l = (l.i ≤ l.r) × Down (suc (suc l.k)) (pair_row l.r l.k l.first.s l.second.s (table l.initial.t)) (table l.initial.t) l.t l.i

abbrev pub decreases-loop-i : goal.decreases-loop-i
decreases-loop-i l = l.r - l.i
