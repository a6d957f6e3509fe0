-- `tables::vector::put` meets its contract. Assumes nothing.
use Rattle.tables.proofs.Vectors.{write_vector}
use Rattle.tables.proofs.vector.put.Goals as goal

pub returns : goal.returns
returns c = write_vector c.args.v.now c.told-v c.requires c.args.x
