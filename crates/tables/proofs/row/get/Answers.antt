-- `tables::row::get` meets its contract. Assumes nothing.
use lib.Ieee.{nan}
use Rattle.tables.proofs.RowMajor.{read_holds}
use Rattle.tables.proofs.row.get.Goals as goal

pub returns : goal.returns
returns c = read_holds c.args.a.now c.told-a c.requires.0 c.requires.1 nan
