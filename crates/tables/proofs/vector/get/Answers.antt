-- `tables::vector::get` meets its contract. Assumes nothing.
use lib.Ieee.{nan}
use Rattle.tables.proofs.Vectors.{read_vector}
use Rattle.tables.proofs.vector.get.Goals as goal

pub returns : goal.returns
returns c = read_vector c.args.v.now c.told-v c.requires nan
