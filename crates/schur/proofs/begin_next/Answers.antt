-- `schur::begin_next` meets its contract: at row i column k + 1 of the rows before it is done. Assumes nothing.
use mathlib.Core.Path.{◌≡◌}
use Prim.Native.Nat.{◌+◌, suc}
use native.Mathlib.Omega.{arith}
use Rattle.tables.specs.RowMajor.{table}
use Rattle.tables.proofs.Loops.{down_begins, down_ends}
use Rattle.schur.proofs.SchurRows.{column_turns, next-begun}
use Rattle.schur.proofs.begin_next.Goals as goal

pub loop-i-init : goal.loop-i-init
loop-i-init c =
    let two : c.args.k + 2 ≡ suc (suc c.args.k) = omega arith in
    (omega arith, down_begins two c.eliminate_row.ensures.long)

pub loop-i-preserved : goal.loop-i-preserved
loop-i-preserved c =
    (omega arith, column_turns c.loop-i.invariant.1 c.put.ensures c.get-x.ensures c.get-m.ensures c.get-y.ensures)

pub returns : goal.returns
returns c =
    next-begun c.args.r c.args.k c.args.stage.s (table c.args.t.now) c.eliminate_row.ensures (down_ends c.loop-i.invariant.1 (omega arith) (omega arith))
