-- `column::identity` meets its contract. Assumes nothing.
use lib.Ieee.{of_bits}
use Rattle.column.proofs.ColumnStages.{unit-put}
use Rattle.column.proofs.identity.Goals as goal

pub returns-then-j-r : goal.returns-then-j-r
unfolding of_bits
returns-then-j-r c = unit-put c.requires.2 c.put.ensures
