-- `schur::add_two` meets its contract: at column j the columns before it are done. Assumes nothing.
use Prim.Native.Nat.{◌≤◌, ◌-◌, suc}
use Rattle.tables.specs.RowMajor.{table}
use Rattle.tables.proofs.Loops.{Along}
use Rattle.passes.specs.Stages.{plus_two}
use Rattle.schur.proofs.add_two.Given as goal

abbrev pub invariant-loop-j : goal.invariant-loop-j
invariant-loop-j l = (l.j ≤ l.hi) × Along l.i l.lo (plus_two l.a l.b (table l.initial.t l.i) (table l.initial.t l.k) (table l.initial.t (suc l.k))) (table l.initial.t) l.t l.j

abbrev pub decreases-loop-j : goal.decreases-loop-j
decreases-loop-j l = l.hi - l.j
