-- `tables::row::put` meets its contract. Assumes nothing.
use Rattle.tables.proofs.RowMajor.{write_holds}
use Rattle.tables.proofs.row.put.Goals as goal

pub returns : goal.returns
returns c = write_holds c.args.a.now c.told-a c.requires.0 c.requires.1 c.args.x
