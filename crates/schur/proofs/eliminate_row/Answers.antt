-- `schur::eliminate_row` meets its contract. Assumes nothing.
use Rattle.tables.specs.RowMajor.{table}
use Rattle.schur.proofs.SchurRows.{row_eliminated}
use Rattle.schur.proofs.eliminate_row.Goals as goal

pub returns : goal.returns
returns c =
    row_eliminated c.args.r c.args.k c.args.i c.args.stage.s (table c.args.t.now) c.add_multiple.ensures c.put.ensures c.get-m.ensures (rw c.get.ensures)
