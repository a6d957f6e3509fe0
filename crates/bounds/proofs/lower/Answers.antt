-- `bounds::lower` meets its contract. Assumes nothing.
use Rattle.bounds.proofs.Bounds.{lowered_is}
use Rattle.bounds.proofs.lower.Goals as goal

pub returns : goal.returns
returns c =
    lowered_is c.args.x (rw c.well_formed.1.0.1 tt) c.requires c.floor.ensures c.larger.ensures c.smaller.ensures
