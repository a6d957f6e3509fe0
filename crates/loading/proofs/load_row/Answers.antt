-- `loading::load_row` meets its contract: the signs turned, then the diagonal. Assumes nothing.
use Rattle.tables.specs.RowMajor.{table}
use Rattle.loading.proofs.LoadedRows.{row_loaded}
use Rattle.loading.proofs.load_row.Goals as goal

pub returns : goal.returns
returns c =
    row_loaded c.args.sheet.n c.args.sheet.numbers.now c.args.i (table c.args.t.now) c.requires c.negate_row.ensures c.put.ensures
