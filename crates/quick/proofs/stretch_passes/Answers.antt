-- `quick::stretch_passes` meets its contract. Assumes nothing.
use Rattle.quick.proofs.QuickNumbers.{size-passes}
use Rattle.quick.proofs.stretch_passes.Goals as goal

pub returns : goal.returns
returns c = λ t k l. size-passes _ (c.part_within.ensures t k l)
