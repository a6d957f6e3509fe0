-- `schur::eliminate_twice` meets its contract. Assumes nothing.
use Rattle.tables.specs.RowMajor.{table}
use Rattle.schur.proofs.SchurRows.{row_eliminated_twice}
use Rattle.schur.proofs.eliminate_twice.Goals as goal

pub returns : goal.returns
returns c =
    row_eliminated_twice c.args.r c.args.k c.args.i c.args.first.s c.args.second.s (table c.args.t.now) c.add_two.ensures c.put.ensures c.get-a.ensures c.get-b.ensures (rw c.get.ensures)
