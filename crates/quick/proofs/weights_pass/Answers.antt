-- `quick::weights_pass` meets its contract. Assumes nothing.
use Rattle.quick.proofs.QuickNumbers.{weight-passes}
use Rattle.quick.proofs.weights_pass.Goals as goal

pub returns : goal.returns
returns c = λ t k l. weight-passes _ (c.part_within.ensures t k l)
